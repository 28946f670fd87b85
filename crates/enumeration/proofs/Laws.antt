-- What follows from the laws of any enumeration.
use Prim.Native.Nat.{ℕ}
use mathlib.Core.List.{List}
use mathlib.Core.Path.{◌≡◌}
use native.Mathlib.Omega.{arith}
use lib.IntN.{ℤ}
use Rattle.enumeration.specs.Enumeration.{Enumeration, Lawful}
use Rattle.enumeration.specs.Point.{OnShell}

-- at radius 0 the one point has index 0
pub zero_index : {e : Enumeration} → Lawful e → (l : ℕ) (x : List ℤ) → OnShell l 0 x → e.index x ≡ 0
zero_index lawful l x on = omega (arith, lawful.index_below l 0 x on, lawful.one_at_0 l)
