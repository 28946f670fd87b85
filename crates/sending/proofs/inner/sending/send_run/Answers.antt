-- `sending::inner::sending::send_run` says and leaves what the call send is to say and leave behind the checks of the
-- books, the table and the book: refusals 4, 4 and 11, and the buffer as it was; or the records of all places.
use Rattle.std.proofs.Common.{[], length, ◌*◌, sym, ap, ◌∙◌}
use native.Mathlib.Omega.{arith}
use borrow.Author.Tests.{eq-eqb}
use Rattle.std.proofs.lemmas.Result.{err_from_is_err_and}
use Rattle.answers.proofs.InOrder.{refusal_leaves, passes_leaves}
use Rattle.tables.proofs.Good.{places_to}
use Rattle.records.specs.Record.{record_length}
use Rattle.runs.proofs.Judging.{says_run, run_usable}
use Rattle.runs.specs.Run.{coordinates_in}
use Rattle.runs.specs.Sending.{records_length, run_checks, records_of}
use Rattle.sending.proofs.inner.sending.send_run.Goals as goal

pub overflow_mul-surveyed : goal.overflow_mul-surveyed
overflow_mul-surveyed c = omega (arith, c.requires.0.is_places, places_to c.args.table.now c.requires.0.good)

pub write_records-requires : goal.write_records-requires
write_records-requires c =
    let t = c.args.table.now in
    let run = c.args.run.now in
    let said = c.in_ok-check_run.ensures in
    let long = c.if-run-coordinates.false ∙ c.coordinates.ensures in
    record {
      book_to = c.requires.1;
      all_usable = run_usable t run long (says_run t run said);
      has_room = c.if-out-surveyed.false ∙ ap (λ n. record_length * n) c.requires.0.is_places;
    }

pub returns : goal.returns
returns c =
    let t = c.args.table.now in
    let run = c.args.run.now in
    let said = c.in_ok-check_run.ensures in
    let long = c.if-run-coordinates.false ∙ c.coordinates.ensures in
    let room = c.if-out-surveyed.false ∙ ap (λ n. record_length * n) c.requires.0.is_places in
    rw (eq-eqb (length run) (coordinates_in t) long, eq-eqb (length c.args.out.now) (records_length t) room)
    (said, c.write_records.ensures ∙ sym (passes_leaves (records_of t c.args.book.0 run) c.args.out.now (run_checks t run) (says_run t run said)))

pub returns-in_err-check_run : goal.returns-in_err-check_run
returns-in_err-check_run c =
    let t = c.args.table.now in
    let run = c.args.run.now in
    let said = c.in_err-check_run.ensures in
    let long = c.if-run-coordinates.false ∙ c.coordinates.ensures in
    let room = c.if-out-surveyed.false ∙ ap (λ n. record_length * n) c.requires.0.is_places in
    let p = err_from_is_err_and c.from_residual.result c.from_residual.ensures.1 in
    rw (p.1, p.2, eq-eqb (length run) (coordinates_in t) long, eq-eqb (length c.args.out.now) (records_length t) room)
    (said, refusal_leaves (records_of t c.args.book.0 run) c.args.out.now [] (run_checks t run) c.in_err-check_run.field-0.0 said)
