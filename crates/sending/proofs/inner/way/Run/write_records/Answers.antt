-- `sending::inner::way::Run::write_records` writes one record behind the other.
use Rattle.std.proofs.Common.{rules, ◌≡◌}
use native.Mathlib.Omega.{arith}
use Rattle.buffers.proofs.Writing.{wrote_length}
use Rattle.tables.specs.Table.{places_in, row_of}
use Rattle.tables.proofs.Good.{good_place}
use Rattle.tables.proofs.Rows.{row_length_lem}
use Rattle.runs.proofs.Positions.{vector_length}
use Rattle.runs.proofs.Way.{goes_on}
use Rattle.sending.proofs.Measured.{measured, inside, place_fits}
use Rattle.sending.proofs.Records.{begins_records, record_more, all_records}
use Rattle.sending.proofs.inner.way.Run.write_records.Goals as goal

pub loop-place-init : goal.loop-place-init
loop-place-init c =
    let run = c.args.self.now in
    (c.way-way.ensures, begins_records run.table.now c.args.book.0 run.coefficients.now c.args.out.now)

pub write_at-requires : goal.write_at-requires
write_at-requires c =
    let run = c.args.self.now in
    let t = run.table.now in
    let i = c.loop-place in
    let h = inside run i.place (search rules) in
    let placed = good_place t i.place (measured run).opened.good h in
    let row = c.next-stop.ensures.its_row.1 in
    let vector = c.next-stop.ensures.its_vector in
    record {
      is_row = rw row (record { sixteen = row_length_lem t (row_of t i.place) placed.0; row_good = placed.1 });
      of_length = rw (vector, row) (vector_length t run.coefficients.now (measured run).run_long i.place h);
      usable = rw vector (c.requires.all_usable i.place h);
      in_field = record { book_to = c.requires.book_to; place_to = omega (arith, place_fits run i.place (search rules)) };
      room = omega (arith, wrote_length i.invariant.1, c.requires.has_room);
    }

pub loop-place-preserved : goal.loop-place-preserved
loop-place-preserved c =
    let run = c.args.self.now in
    let i = c.loop-place in
    let stop = c.next-stop.ensures in (
      goes_on stop.goes_on,
      record_more run.table.now c.args.book.0 run.coefficients.now i.place stop.its_row.0 stop.its_row.1 stop.its_vector i.invariant.1 c.write_at.ensures,
    )

pub returns : goal.returns
returns c =
    let run = c.args.self.now in
    let i = c.loop-place in
    let all : i.place ≡ places_in run.table.now = omega (arith, (measured run).opened.is_places, i.invariant.0.to) in
    all_records run.table.now c.args.book.0 run.coefficients.now all c.requires.has_room i.invariant.1
