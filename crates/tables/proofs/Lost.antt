-- A field of bits loses four shells and no other: the stored largest radii differ there alone, one test over all
-- lengths and radii, which antt computes.
use Prim.Native.Nat.{ℕ, zero, suc, ◌≤◌}
use mathlib.Core.Bool.{Bool, true, false, not, ◌&&◌, and-eq-true_iff}
use mathlib.Core.Path.{◌≡◌, refl, sym, ◌∙◌}
use native.Mathlib.Omega.{arith}
use native.Mathlib.Decide.{dec_le}
use lib.Dec.{leb, ltb}
use borrow.Author.Tests.{le-leb, lt-ltb, le-ltb}
use Rattle.answers.specs.Checks.{pick}
use Rattle.counts.specs.Fields.{bit_field, field_total}
use Rattle.counts.specs.declared.Field.TheVariants as field
use Rattle.counts.proofs.Fields.{total_exact}
use Rattle.tables.specs.Largest.{largest_radius, lost, OnlyLost}
use Rattle.tables.specs.Usable.{most_points, too_many}
use Rattle.tables.proofs.Largest.{usable_up_to, unusable_past, usable_exactly}

same : Bool → Bool → Bool
same true b = b
same false b = not b

same_is : (a b : Bool) → same a b ≡ true → a ≡ b
unfolding same
same_is true true e = refl
same_is false false e = refl
same_is true false e = sym e
same_is false true e = e

-- a radius that N makes usable is past the largest of a field of bits exactly where the shell is lost
differs : ℕ → ℕ → Bool
differs l k = pick (leb k (largest_radius field.Exact l)) (same (ltb (largest_radius field.Bits l) k) (lost l k)) true

-- a test of all numbers up to n
all_to : (ℕ → Bool) → ℕ → Bool
all_to f zero = f zero
all_to f (suc n) = f (suc n) && all_to f n

all_at : (f : ℕ → Bool) (n i : ℕ) → all_to f n ≡ true → i ≤ n → f i ≡ true
unfolding all_to
all_at f zero i e h = let none : i ≡ 0 = omega arith in rw none e
all_at f (suc n) i e h = go (dec_le i n) (λ q. all_at f n i ((and-eq-true_iff (f (suc n)) (all_to f n)).0 e).1 q)
  where
    go : Dec (i ≤ n) → (i ≤ n → f i ≡ true) → f i ≡ true
    go (yes q) rest = rest q
    go (no q) rest = let last : i ≡ suc n = omega arith in rw last ((and-eq-true_iff (f (suc n)) (all_to f n)).0 e).0

all_differ : all_to (λ l. all_to (differs l) 32) 16 ≡ true
unfolding all_to differs same lost
all_differ = refl

differ_at : (l k : ℕ) → l ≤ 16 → k ≤ 32 → k ≤ largest_radius field.Exact l → ltb (largest_radius field.Bits l) k ≡ lost l k
unfolding differs
differ_at l k q r h =
    let here = all_at (differs l) 32 k (all_at (λ (l : ℕ). all_to (differs l) 32) 16 l all_differ q) r in
    same_is (ltb (largest_radius field.Bits l) k) (lost l k) (rw (le-leb k (largest_radius field.Exact l) h) at here)

-- too many by a field of bits: past the largest radius
past_bits : (l k : ℕ) → 1 ≤ l → l ≤ 16 → k ≤ 32 → too_many (field_total bit_field l k) ≡ ltb (largest_radius field.Bits l) k
past_bits l k p q r = go (dec_le k (largest_radius field.Bits l))
  where
    go : Dec (k ≤ largest_radius field.Bits l) → too_many (field_total bit_field l k) ≡ ltb (largest_radius field.Bits l) k
    go (yes h) = rw (le-ltb (largest_radius field.Bits l) k h) (le-ltb most_points (field_total bit_field l k) (usable_up_to field.Bits l p q k h))
    go (no h) =
        rw (lt-ltb (largest_radius field.Bits l) k (omega arith))
        (lt-ltb most_points (field_total bit_field l k) (unusable_past field.Bits l p q k r (omega arith)))

pub only_lost : OnlyLost
only_lost l k p q r h =
    past_bits l k p q r ∙ differ_at l k q r ((usable_exactly field.Exact l p q k r).0 (rw (total_exact l k) h))
