-- A coordinate of the code, an i32, as a whole number: what the code tests of it, that it is zero, by its bits, and
-- that it is negative. A value z fits 32 bits with a sign, so its magnitude is at most 2^31, the lowest value's.
use Prim.Native.Nat.{zero, suc, ◌^◌, ◌≤◌}
use mathlib.Core.Path.{◌≡◌, refl, ap, ◌∙◌}
use mathlib.Core.Bool.{true}
use native.Mathlib.Omega.{arith}
use borrow.Author.Tests.{le-ltb}
use lib.IntN.{ℤ, pos, negsuc, nat_abs}
use lib.Signed.{lt_z, nat_abs-le}
use mir.Syntax.{w32}
use mir.Val.{SFits, to_z, of_z}
use mir.Facts.{to_z-of_z}
use Rattle.enumeration.specs.Point.{is_nonzero, is_negative}

module _ (z : ℤ) (f : SFits w32 z) where
  pub kept : to_z w32 (of_z w32 z) ≡ z
  kept = to_z-of_z {w = w32} f

  pub magnitude_bound : nat_abs z ≤ 2 ^ 31
  magnitude_bound = nat_abs-le z f.sfits

-- what is tested of a coordinate
pub zero_bits : (z : ℤ) → SFits w32 z → of_z w32 z ≡ 0 → z ≡ pos 0
zero_bits (pos n) f e = ap pos e
zero_bits (negsuc n) f e = absurd (omega (arith, f.sfits))

pub nonzero_bits : (z : ℤ) → (of_z w32 z ≡ 0 → ⊥) → is_nonzero z ≡ true
nonzero_bits (pos zero) h = absurd (h refl)
nonzero_bits (pos (suc n)) h = refl
nonzero_bits (negsuc n) h = refl

negative_is : (z : ℤ) → lt_z z (pos 0) ≡ is_negative z
negative_is (pos n) = le-ltb n 0 (omega arith)
negative_is (negsuc n) = refl

pub negative_bits : (z : ℤ) → SFits w32 z → lt_z (to_z w32 (of_z w32 z)) (pos 0) ≡ is_negative z
negative_bits z f = ap (λ (y : ℤ). lt_z y (pos 0)) (kept z f) ∙ negative_is z
