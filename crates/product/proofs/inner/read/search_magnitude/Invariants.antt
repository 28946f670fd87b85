-- What each turn of the loop keeps in `product::inner::read::search_magnitude`, and what falls with each turn.
use mathlib.Core.Path.{◌≡◌}
use Rattle.counts.specs.Counts.{S}
use Rattle.enumeration.proofs.Passing.{Passing}
use Rattle.product.proofs.inner.read.search_magnitude.Given as goal

-- the shapes that begin with 1, 2 and so on are passed: with k left to sum to after the first magnitude, what is left
-- of the number is that of a shape which sums to k+1
abbrev pub invariant-loop-begin : goal.invariant-loop-begin
invariant-loop-begin l = (l.begin ≡ S l.s l.k) × Passing (S l.s) l.sum l.shape l.k l.left

abbrev pub decreases-loop-begin : goal.decreases-loop-begin
decreases-loop-begin l = l.k
