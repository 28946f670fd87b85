-- The tail of a list as a loop from its end sees it: one element more; and a tail's radius.
use Prim.Native.Nat.{ℕ, zero, suc, ◌-◌, ◌≤◌, ◌<◌}
use mathlib.Core.Path.{◌≡◌}
use mathlib.Core.List.{List, [], ◌∷◌}
use native.Mathlib.Omega.{arith}
use lib.IntN.{ℤ}
use lib.ListN.{length, get_or, drop}
use lib.Seq.{drop-cons}
use Rattle.enumeration.specs.Point.{radius_of}

pub drop_back : {A : Type 0} (x : List A) (at : ℕ) (d : A) → 0 < at → at ≤ length x → drop (at - 1) x ≡ get_or x (at - 1) d ∷ drop at x
drop_back x zero d p h = absurd (omega arith)
drop_back x (suc at) d p h = let less : suc at - 1 ≡ at = omega arith in rw less (drop-cons x at d h)

pub radius_drop : (x : List ℤ) (at : ℕ) → radius_of (drop at x) ≤ radius_of x
radius_drop x zero = omega arith
radius_drop [] (suc at) = omega arith
radius_drop (c ∷ x) (suc at) = omega (arith, radius_drop x at)
