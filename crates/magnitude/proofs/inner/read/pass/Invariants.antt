-- What each turn of the loop keeps in `magnitude::inner::read::pass`, and what falls with each turn.
use Prim.Native.Nat.{◌-◌, ◌<◌}
use Rattle.enumeration.proofs.Passing.{Passing}
use Rattle.magnitude.specs.Steps.{both_in}
use Rattle.magnitude.proofs.inner.read.pass.Given as goal

-- with k to sum to, what is left of the number is that of what sums to k
abbrev pub invariant-loop-n : goal.invariant-loop-n
invariant-loop-n l = (0 < l.k) × Passing (both_in l.counts) l.fn.left.k l.fn.left.n (l.k - 1) l.n

abbrev pub decreases-loop-n : goal.decreases-loop-n
decreases-loop-n l = l.k
