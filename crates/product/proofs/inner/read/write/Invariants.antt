-- What each turn of the loop keeps in `product::inner::read::write`.
use Prim.Native.Nat.{◌-◌}
use mathlib.Core.Path.{◌≡◌}
use mathlib.Core.List.{◌++◌}
use lib.ListN.{length, take}
use Rattle.product.specs.Components.{MakesPoint, written_from}
use Rattle.product.proofs.inner.read.write.Given as goal

-- the coordinates before `at` stand there, and the rest is what is left to write
abbrev pub invariant-loop-at : goal.invariant-loop-at
invariant-loop-at l =
    MakesPoint l.left (length l.out - l.at) × (written_from l.initial.left l.length ≡ take l.at l.out ++ written_from l.left (length l.out - l.at))
