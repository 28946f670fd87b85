-- What each turn of the loop keeps in `magnitude::inner::row::raise`.
use Rattle.magnitude.specs.Rows.{above}
use Rattle.magnitude.proofs.Rows.{Turned}
use Rattle.magnitude.proofs.inner.row.raise.Given as goal

-- the row is turned into the row above, number by number
abbrev pub invariant-loop-count : goal.invariant-loop-count
invariant-loop-count l = Turned (above l.fn.counts) l.fn.counts l.count-index l.last l.before l.count-items
