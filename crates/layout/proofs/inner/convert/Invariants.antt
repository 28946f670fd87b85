-- The cells that the loop in `layout::inner::convert` has gone through are moved.
use Rattle.layout.proofs.Converting.{SameTo}
use Rattle.layout.proofs.inner.convert.Given as goal

abbrev pub invariant-loop-cell : goal.invariant-loop-cell
invariant-loop-cell l = SameTo l.from l.to l.cells l.page l.cell l.other
