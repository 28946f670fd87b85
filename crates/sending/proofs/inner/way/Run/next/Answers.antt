-- `sending::inner::way::Run::next` tells of the place that was reached, and passes it.
use Rattle.std.proofs.Common.{ap, ◌∙◌}
use native.Mathlib.Omega.{arith}
use Rattle.tables.proofs.Walking.{its_row}
use Rattle.tables.specs.Table.{row_at}
use Rattle.runs.proofs.Way.{part_in, its_vector, passed, next_fits}
use Rattle.sending.proofs.Measured.{measured, inside}
use Rattle.sending.proofs.inner.way.Run.next.Goals as goal

pub vector_at-vector-requires : goal.vector_at-vector-requires
vector_at-vector-requires c =
    let run = c.args.self.now in
    let h = inside run c.args.place c.requires.1 in
    part_in c.requires.0 h c.walked-way.ensures c.row_at-row.ensures c.length-l.ensures run.coefficients.now (measured run).run_long

pub overflow_add-way : goal.overflow_add-way
overflow_add-way c =
    let h = inside c.args.self.now c.args.place c.requires.1 in
    omega (arith, next_fits c.requires.0 h c.walked-way.ensures c.row_at-row.ensures c.length-l.ensures)

pub returns-clause-goes_on : goal.returns-clause-goes_on
returns-clause-goes_on c =
    let h = inside c.args.self.now c.args.place c.requires.1 in
    passed c.requires.0 h c.walked-way.ensures c.row_at-row.ensures c.length-l.ensures

pub returns-clause-its_row : goal.returns-clause-its_row
returns-clause-its_row c =
    let run = c.args.self.now in
    let same = its_row c.walked-way.ensures (inside run c.args.place c.requires.1) in
    (same, c.row_at-row.ensures ∙ ap (row_at run.table.now) same)

pub returns-clause-its_vector : goal.returns-clause-its_vector
returns-clause-its_vector c =
    let run = c.args.self.now in
    let h = inside run c.args.place c.requires.1 in
    its_vector c.requires.0 h c.walked-way.ensures c.row_at-row.ensures c.length-l.ensures run.coefficients.now (measured run).run_long
    c.vector_at-vector.ensures
