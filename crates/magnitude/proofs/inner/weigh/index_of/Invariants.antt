-- What each turn of the loop keeps in `magnitude::inner::weigh::index_of`.
use Rattle.magnitude.specs.Tails.{Gathered}
use Rattle.magnitude.proofs.inner.weigh.index_of.Given as goal

-- what stands from `at` on is gathered
abbrev pub invariant-loop-at : goal.invariant-loop-at
invariant-loop-at l = Gathered l.radius.0 l.x l.at l.counts l.tail
