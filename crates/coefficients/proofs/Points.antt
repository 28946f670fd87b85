-- The point of a vector: it is on the shell of its radius, its magnitudes are shared out by largest remainders, a
-- coordinate is 0 or has its coefficient's sign, and a coefficient that becomes 0 gives 0; no other point is so. At a
-- radius above 0, which asks that not all coefficients become 0, no point of the shell is nearer.
use Prim.Native.Nat.{ℕ, zero, suc, ◌<◌}
use mathlib.Core.Path.{◌≡◌, refl, sym, ap, ◌∙◌}
use mathlib.Core.List.{List, [], ◌∷◌, map}
use mathlib.Core.Bool.{Bool, true, false}
use mathlib.Core.Logic.{◌⊎◌, inl, inr}
use native.Mathlib.Omega.{arith}
use lib.Ieee.{Float, nan}
use lib.IntN.{ℤ, pos, negsuc, nat_abs}
use lib.ListN.{length, get_or, length-map}
use lib.Seq.{ext_get_or}
use Rattle.enumeration.specs.Point.{sum_of, OnShell, signed, is_negative}
use Rattle.enumeration.specs.Reading.{sign_all}
use Rattle.enumeration.proofs.Spread.{signed_magnitude}
use Rattle.floats.specs.Units.{negative}
use Rattle.floats.specs.Nearest.{nearest_whole}
use Rattle.shares.specs.Shares.{shared}
use Rattle.coefficients.specs.Points.{magnitudes_of, total_of, signed_by, wholes_of, point_of, IsPointOf}
use Rattle.shares.proofs.Mapped.{read_map}
use Rattle.shares.proofs.Sharing.{shared_length, shared_sum, shared_zero}
use Rattle.shares.proofs.Remainders.{shared_is, shared_only}
use Rattle.sharing.specs.Nearest.{NearestOnShell}
use Rattle.sharing.proofs.Nearest.{nearest_on_shell}

pub signed_length : (xs : List Float) (ms : List ℕ) → length ms ≡ length xs → length (signed_by xs ms) ≡ length xs
signed_length [] ms same = refl
signed_length (x ∷ xs) [] same = absurd (omega arith)
signed_length (x ∷ xs) (i ∷ ms) same = ap suc (signed_length xs ms (omega arith))

pub signed_at : (xs : List Float) (ms : List ℕ) (i : ℕ) → i < length xs → length ms ≡ length xs
    → get_or (signed_by xs ms) i (pos 0) ≡ signed (negative (get_or xs i nan)) (get_or ms i 0)
signed_at [] ms i h same = absurd (omega arith)
signed_at (x ∷ xs) [] i h same = absurd (omega arith)
signed_at (x ∷ xs) (p ∷ ms) zero h same = refl
signed_at (x ∷ xs) (p ∷ ms) (suc i) h same = signed_at xs ms i (omega arith) (omega arith)

signed_magnitudes : (xs : List Float) (ms : List ℕ) → length ms ≡ length xs → map nat_abs (signed_by xs ms) ≡ ms
signed_magnitudes [] [] same = refl
signed_magnitudes [] (i ∷ ms) same = absurd (omega arith)
signed_magnitudes (x ∷ xs) [] same = absurd (omega arith)
signed_magnitudes (x ∷ xs) (i ∷ ms) same = rw (signed_magnitude (negative x) i, signed_magnitudes xs ms (omega arith))

-- the signs are those of the coefficients
signs_of_all : (xs : List Float) (ms : List ℕ) → sign_all (map negative xs) ms ≡ signed_by xs ms
signs_of_all [] ms = refl
signs_of_all (x ∷ xs) [] = refl
signs_of_all (x ∷ xs) (i ∷ ms) = ap (λ (ws : List ℤ). signed (negative x) i ∷ ws) (signs_of_all xs ms)

-- a coordinate by its sign and magnitude is 0, or its sign is that
pub zero_or_signed : (b : Bool) (i : ℕ) → (signed b i ≡ pos 0) ⊎ (is_negative (signed b i) ≡ b)
zero_or_signed false i = inr refl
zero_or_signed true zero = inl refl
zero_or_signed true (suc i) = inr refl

signed_none : (b : Bool) → signed b 0 ≡ pos 0
signed_none false = refl
signed_none true = refl

module _ (k : ℕ) (xs : List Float) where
  long : length (shared k (magnitudes_of xs)) ≡ length xs
  long = shared_length k (magnitudes_of xs) ∙ length-map xs nearest_whole

  pub point_on_shell : (0 < k → 0 < total_of xs) → OnShell (length xs) k (point_of k xs)
  point_on_shell some = record {
    of_length = signed_length xs (shared k (magnitudes_of xs)) long;
    of_radius = ap sum_of (signed_magnitudes xs (shared k (magnitudes_of xs)) long) ∙ shared_sum k (magnitudes_of xs) some;
  }

  -- each coordinate is 0 or has its coefficient's sign
  pub coordinate_sign : (i : ℕ) → i < length xs
      → (get_or (point_of k xs) i (pos 0) ≡ pos 0) ⊎ (is_negative (get_or (point_of k xs) i (pos 0)) ≡ negative (get_or xs i nan))
  coordinate_sign i h = rw (signed_at xs (shared k (magnitudes_of xs)) i h long) (zero_or_signed (negative (get_or xs i nan)) (get_or (shared k (magnitudes_of xs)) i 0))

  -- and a coefficient that becomes 0 gives 0
  pub zero_stays : (i : ℕ) → i < length xs → (0 < k → 0 < total_of xs) → nearest_whole (get_or xs i nan) ≡ 0 → get_or (point_of k xs) i (pos 0) ≡ pos 0
  zero_stays i h some none =
      signed_at xs (shared k (magnitudes_of xs)) i h long
      ∙ ap (λ (n : ℕ). signed (negative (get_or xs i nan)) n) (shared_zero k (magnitudes_of xs) i some (read_map nearest_whole xs i nan 0 h ∙ none))
      ∙ signed_none (negative (get_or xs i nan))

  -- at a radius above 0 no point of the shell is nearer
  pub point_nearest : 0 < k → 0 < total_of xs → NearestOnShell k (wholes_of xs) (point_of k xs)
  point_nearest above some =
      rw (← signs_of_all xs (magnitudes_of xs), ← signs_of_all xs (shared k (magnitudes_of xs)))
      (nearest_on_shell k (map negative xs) (magnitudes_of xs) (length-map xs nearest_whole ∙ sym (length-map xs negative)) above some)

  -- it is the point of the vector
  pub point_is : (0 < k → 0 < total_of xs) → IsPointOf k xs (point_of k xs)
  point_is some = record {
    magnitudes = rw (signed_magnitudes xs (shared k (magnitudes_of xs)) long) (shared_is k (magnitudes_of xs) some);
    signs = coordinate_sign;
  }

-- a coordinate is told by its magnitude and its sign
told_by : (b : Bool) (c : ℤ) → (c ≡ pos 0) ⊎ (is_negative c ≡ b) → c ≡ signed b (nat_abs c)
told_by b c (inl none) = rw none (sym (signed_none b))
told_by b (pos i) (inr sign) = rw (← sign) refl
told_by b (negsuc i) (inr sign) = rw (← sign) refl

-- and no other is
pub point_only : (k : ℕ) (xs : List Float) (q q' : List ℤ) → IsPointOf k xs q → IsPointOf k xs q' → q ≡ q'
point_only k xs q q' is is' = ext_get_or (pos 0) q q' (long_as q is ∙ sym (long_as q' is')) (λ i h. at i (omega (arith, long_as q is)))
  where
    long_as : (p : List ℤ) → IsPointOf k xs p → length p ≡ length xs
    long_as p it = sym (length-map p nat_abs) ∙ it.magnitudes.as_long ∙ length-map xs nearest_whole

    magnitude_at : (p : List ℤ) → IsPointOf k xs p → (i : ℕ) → i < length xs → get_or (map nat_abs p) i 0 ≡ nat_abs (get_or p i (pos 0))
    magnitude_at p it i h = read_map nat_abs p i (pos 0) 0 (omega (arith, long_as p it))

    at : (i : ℕ) → i < length xs → get_or q i (pos 0) ≡ get_or q' i (pos 0)
    at i h =
        let b = negative (get_or xs i nan) in
        let same : map nat_abs q ≡ map nat_abs q' = shared_only k (magnitudes_of xs) (map nat_abs q) (map nat_abs q') is.magnitudes is'.magnitudes in
        told_by b (get_or q i (pos 0)) (is.signs i h)
        ∙ ap (signed b) (sym (magnitude_at q is i h) ∙ ap (λ (ns : List ℕ). get_or ns i 0) same ∙ magnitude_at q' is' i h)
        ∙ sym (told_by b (get_or q' i (pos 0)) (is'.signs i h))
