-- `quantizer::quantize_at` says and leaves for a row what the call quantize is to say and leave behind the checks of
-- the books, the table, the book and the place: refusals 4, 4 and 11, and the record as it was; or the record of the
-- vector.
use Rattle.std.proofs.Common.{[], length, sym, ◌∙◌}
use borrow.Author.Tests.{eq-eqb}
use Rattle.std.proofs.lemmas.Result.{err_from_is_err_and}
use Rattle.answers.proofs.InOrder.{refusal_leaves, passes_leaves}
use Rattle.answers.proofs.Lengths.{right_length}
use Rattle.tables.specs.Row.{length_of}
use Rattle.records.specs.Record.{record_length}
use Rattle.coefficients.specs.Coefficients.{usable_checks}
use Rattle.coefficients.proofs.Usable.{says_usable, passes_usable}
use Rattle.coding.specs.Coded.{record_named}
use Rattle.quantizer.proofs.quantize_at.Goals as goal

pub write_record-requires : goal.write_record-requires
write_record-requires c =
    let xs = c.args.coefficients.now in
    let said = c.in_ok-check_coefficients.ensures in (
      record {
        is_row = c.requires.0;
        of_length = c.if-coefficients-length.false ∙ c.length.ensures;
        all_usable = passes_usable xs (says_usable xs said);
        has_room = right_length (length c.args.out.now) record_length (sym c.wrong_record.ensures ∙ c.if-wrong_record.false);
      },
      c.requires.1,
    )

pub returns : goal.returns
returns c =
    let a = c.args in
    let xs = a.coefficients.now in
    let row = a.row.now in
    let long = c.if-coefficients-length.false ∙ c.length.ensures in
    let said = c.in_ok-check_coefficients.ensures in
    let made = record_named a.named row xs in
    rw (eq-eqb (length xs) (length_of row) long, sym c.wrong_record.ensures ∙ c.if-wrong_record.false)
    (said, c.write_record.ensures ∙ sym (passes_leaves made a.out.now (usable_checks xs) (says_usable xs said)))

pub returns-in_err-check_coefficients : goal.returns-in_err-check_coefficients
returns-in_err-check_coefficients c =
    let a = c.args in
    let xs = a.coefficients.now in
    let row = a.row.now in
    let long = c.if-coefficients-length.false ∙ c.length.ensures in
    let said = c.in_err-check_coefficients.ensures in
    let made = record_named a.named row xs in
    let p = err_from_is_err_and c.from_residual.result c.from_residual.ensures.1 in
    rw (p.1, p.2, eq-eqb (length xs) (length_of row) long, sym c.wrong_record.ensures ∙ c.if-wrong_record.false)
    (said, refusal_leaves made a.out.now [] (usable_checks xs) c.in_err-check_coefficients.field-0.0 said)
