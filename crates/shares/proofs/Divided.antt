-- What the code may do with the whole parts and remainders of some magnitudes once they are worked out: add up the
-- whole parts, and give what is left of k.
use Prim.Native.Nat.{ℕ, zero, suc, ◌+◌, ◌-◌, ◌^◌, ◌≤◌, ◌<◌}
use mathlib.Core.Path.{◌≡◌, refl, sym, ap, ◌∙◌}
use mathlib.Core.List.{List, [], ◌∷◌, map}
use native.Mathlib.Omega.{arith}
use native.Mathlib.Nat.{le_trans, le_of_eq}
use lib.ListN.{length, length-map}
use Rattle.enumeration.specs.Point.{sum_of}
use Rattle.shares.specs.Shares.{AllUpTo, Sharable, whole_part, remainder, whole_parts, remainders, units_left, give, left_of, shared}
use Rattle.shares.proofs.Sums.{wholes_fit}
use Rattle.shares.proofs.Sharing.{none_above_sum}

some_length : (ns : List ℕ) → 0 < sum_of ns → 0 < length ns
some_length [] h = absurd (omega arith)
some_length (n ∷ ns) h = omega arith

shared_is : (k : ℕ) (ms : List ℕ) → 0 < k → give (units_left k ms) (remainders k ms) (whole_parts k ms) ≡ shared k ms
unfolding shared
shared_is zero ms h = absurd (omega arith)
shared_is (suc k) ms h = refl

-- what `divide` leaves of the magnitudes ms
abbrev pub Divided : ℕ → ℕ → List ℕ → List ℕ → List ℕ → Type 0
Divided k total ms wholes rests = (wholes ≡ map (whole_part k total) ms) × (rests ≡ map (remainder k total) ms)

module _ {k total : ℕ} {ms room wholes rests : List ℕ} (s : Sharable k total ms room) (d : Divided k total ms wholes rests) where
  some_sum : 0 < sum_of ms
  some_sum = omega (arith, s.is_total, s.some)

  is_wholes : wholes ≡ whole_parts k ms
  is_wholes = d.0 ∙ ap (λ (sum : ℕ). map (whole_part k sum) ms) s.is_total

  is_rests : rests ≡ remainders k ms
  is_rests = d.1 ∙ ap (λ (sum : ℕ). map (remainder k sum) ms) s.is_total

  wholes_long : length wholes ≡ length ms
  wholes_long = ap length is_wholes ∙ length-map ms (whole_part k (sum_of ms))

  fit : sum_of wholes ≤ k
  fit = le_trans (le_of_eq (ap sum_of is_wholes)) (wholes_fit k ms some_sum)

  pub summable : (length wholes ≤ 16) × AllUpTo (2 ^ 23) wholes
  summable = (omega (arith, wholes_long, s.up_to_16), λ i below. omega (arith, none_above_sum wholes i, fit, s.up_to_32))

  module _ {n : ℕ} (is_sum : n ≡ sum_of wholes) where
    pub sum_fits : n ≤ k
    sum_fits = omega (arith, fit)

    pub givable : (0 < length wholes) × (length rests ≡ length wholes) × (sum_of wholes + (k - n) ≤ 32)
    givable = (
      omega (arith, wholes_long, some_length ms some_sum),
      ap length is_rests ∙ length-map ms (remainder k (sum_of ms)) ∙ sym wholes_long,
      omega (arith, fit, s.up_to_32),
    )

    pub given : {shares left : List ℕ} → (shares ≡ give (k - n) rests wholes) × (left ≡ left_of (k - n) rests)
        → (shares ≡ shared k ms) × (left ≡ left_of (units_left k ms) (remainders k ms))
    given did = (
      did.0 ∙ rw (is_sum, is_wholes, is_rests) (shared_is k ms s.above_0),
      did.1 ∙ rw (is_sum, is_wholes, is_rests) refl,
    )
