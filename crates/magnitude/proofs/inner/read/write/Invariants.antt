-- What each turn of the loop keeps in `magnitude::inner::read::write`.
use Prim.Native.Nat.{◌-◌}
use mathlib.Core.Path.{◌≡◌}
use mathlib.Core.List.{◌++◌}
use lib.ListN.{length, take}
use Rattle.magnitude.specs.Rows.{CountsTo}
use Rattle.magnitude.specs.Steps.{point_left, Writable}
use Rattle.magnitude.proofs.inner.read.write.Given as goal

-- the coordinates before `at` stand there, the rest is what is left to write, and the row of counts is that of one
-- coordinate less
abbrev pub invariant-loop-at : goal.invariant-loop-at
invariant-loop-at l =
    Writable l.left (length l.out - l.at) × CountsTo (length l.out - l.at - 1) l.left.k l.counts
    × (point_left l.initial.left (length l.initial.out) ≡ take l.at l.out ++ point_left l.left (length l.out - l.at))
