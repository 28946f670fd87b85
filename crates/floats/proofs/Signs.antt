-- A coefficient and its negation: both are usable or neither is, and both become the same whole number.
use Prim.Native.Nat.{ℕ, ◌*◌, ◌^◌}
use mathlib.Core.Path.{◌≡◌, refl, sym, ap, ◌∙◌}
use mathlib.Core.Bool.{Bool, true, false, not, false≢true}
use borrow.Author.Tests.{le-ltb}
use native.Mathlib.Omega.{arith}
use lib.Dec.{T, leb}
use lib.IntN.{ℤ}
use lib.Ieee.{Float, nan, inf, fin, binary32, up, down, fits, neg, lt}
use lib.Ieee.Fits.{neg-fits}
use lib.Ieee.Nearest.{closest}
use Rattle.floats.specs.Units.{units_of, unusable_coefficient, negative}
use Rattle.floats.specs.Nearest.{nearest_whole}
use Rattle.floats.proofs.Value.{units_unsigned}

same_units : (s : Bool) (m : ℕ) (e : ℤ) → T (fits binary32 (fin s m e)) → units_of (fin (not s) m e) ≡ units_of (fin s m e)
unfolding neg
same_units s m e f = units_unsigned (not s) s m e (neg-fits binary32 (fin s m e) f) f

pub neg_usable : (x : Float) → T (fits binary32 x) → unusable_coefficient (neg x) ≡ unusable_coefficient x
unfolding neg unusable_coefficient
neg_usable nan f = refl
neg_usable (inf s) f = refl
neg_usable (fin s m e) f = ap (λ (u : ℕ). leb (32768 * 2 ^ 149) u) (same_units s m e f)

pub neg_whole : (x : Float) → T (fits binary32 x) → unusable_coefficient x ≡ false → nearest_whole (neg x) ≡ nearest_whole x
unfolding neg nearest_whole unusable_coefficient
neg_whole nan f h = absurd (false≢true (sym h))
neg_whole (inf s) f h = absurd (false≢true (sym h))
neg_whole (fin s m e) f h = ap (λ (u : ℕ). closest (256 * u) (2 ^ 149)) (same_units s m e f)

-- the negation of a negative coefficient is not negative
pub neg_negative : (x : Float) → unusable_coefficient x ≡ false → negative x ≡ true → negative (neg x) ≡ false
unfolding neg negative lt unusable_coefficient
neg_negative nan h g = absurd (false≢true g)
neg_negative (inf s) h g = absurd (false≢true (sym h))
neg_negative (fin true m e) h g = le-ltb (m * up e * 1) (0 * 1 * down e) (omega arith)
neg_negative (fin false m e) h g = absurd (false≢true (sym (le-ltb (m * up e * 1) (0 * 1 * down e) (omega arith)) ∙ g))
