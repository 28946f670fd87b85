-- What each turn of the loop keeps in `magnitude::inner::row::lower`.
use Rattle.magnitude.specs.Rows.{below}
use Rattle.magnitude.proofs.Rows.{Turned}
use Rattle.magnitude.proofs.inner.row.lower.Given as goal

-- the row is turned into the row below, number by number
abbrev pub invariant-loop-count : goal.invariant-loop-count
invariant-loop-count l = Turned (below l.fn.counts) l.fn.counts l.count-index l.last l.before l.count-items
