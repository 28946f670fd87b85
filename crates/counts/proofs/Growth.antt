-- N grows with the radius, at every length from 1 on, and with the length; radius 0 has one point at every length. The
-- total of either shape field grows with the radius: the shells within a limit are those up to a largest radius.
use Prim.Native.Nat.{ℕ, zero, suc, ◌-◌, ◌*◌, ◌≤◌, ◌<◌}
use mathlib.Core.Path.{◌≡◌, refl}
use native.Mathlib.Omega.{arith}
use native.Mathlib.Decide.{le_ind}
use native.Mathlib.Nat.{le_refl, le_trans, mul-le-mul}
use lib.Pow.{pow_mono}
use Rattle.counts.specs.Counts.{N, D, S, B, most_nonzero, range_size, range_start}
use Rattle.counts.specs.Fields.{bit_field, size_of, field_total}
use Rattle.counts.specs.Width.{width}
use Rattle.counts.specs.declared.Field.{Field}
use Rattle.counts.specs.declared.Field.TheVariants as field
use Rattle.counts.proofs.Pascal.{S_addition}
use Rattle.counts.proofs.Sums.{sum_grows}
use Rattle.counts.proofs.Widths.{width_is, width_enough}

pub one_point : (l : ℕ) → N l 0 ≡ 1
unfolding N
one_point l = refl

N_next : (l k : ℕ) → N (suc l) k ≤ N (suc l) (suc k)
unfolding N
N_next l k = omega arith

pub N_grows : (l j k : ℕ) → j ≤ k → N (suc l) j ≤ N (suc l) k
N_grows l j k h = le_ind (λ (m : ℕ). N (suc l) j ≤ N (suc l) m) (le_refl (N (suc l) j)) (λ m q e. le_trans e (N_next l m)) k h

pub N_wider : (l k : ℕ) → N l k ≤ N (suc l) k
unfolding N
N_wider l zero = omega arith
N_wider l (suc k) = omega arith

-- there are no fewer shapes with a larger sum, and no smaller field for them
field_next : (f : Field) (s k : ℕ) → 0 < s → size_of f s k ≤ size_of f s (suc k)
unfolding bit_field
field_next f zero k p = absurd (omega arith)
field_next field.Exact (suc s) k p = omega (arith, S_addition s k)
field_next field.Bits (suc s) k p =
    let more : S (suc s) k ≤ S (suc s) (suc k) = omega (arith, S_addition s k) in
    pow_mono ((width_is (S (suc s) k)).least (width (S (suc s) (suc k))) (le_trans more (width_enough (S (suc s) (suc k)))))

total_next : (f : Field) (l k : ℕ) → field_total (size_of f) l (suc k) ≤ field_total (size_of f) l (suc (suc k))
unfolding field_total range_start range_size
total_next f l k =
    sum_grows (λ i. D i l * size_of f i (suc k) * B i) (λ i. D i l * size_of f i (suc (suc k)) * B i)
    (λ i p. mul-le-mul (mul-le-mul (le_refl (D i l)) (field_next f i (suc k) p)) (le_refl (B i)))
    0
    (most_nonzero l (suc k) - 0)
    (most_nonzero l (suc (suc k)) - 0)
    (omega arith)

pub total_grows : (f : Field) (l j k : ℕ) → 0 < j → j ≤ k → field_total (size_of f) l j ≤ field_total (size_of f) l k
total_grows f l zero k p h = absurd (omega arith)
total_grows f l (suc j) k p h =
    le_ind (λ (m : ℕ). field_total (size_of f) l (suc j) ≤ field_total (size_of f) l m) (le_refl (field_total (size_of f) l (suc j))) next k h
  where
    next : (m : ℕ) → suc j ≤ m → field_total (size_of f) l (suc j) ≤ field_total (size_of f) l m → field_total (size_of f) l (suc j) ≤ field_total (size_of f) l (suc m)
    next zero q e = absurd (omega arith)
    next (suc m) q e = le_trans e (total_next f l m)
