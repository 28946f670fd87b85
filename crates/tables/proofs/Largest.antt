-- The stored largest radii are right: one test over the 16 lengths, for either shape field, which antt computes, and
-- the law that it gives with the growth of the total. A shell of length 1 to 16 and radius 0 to 32 has a total of at
-- most 2^32 exactly up to the largest radius.
use Prim.Native.Nat.{ℕ, zero, suc, ◌≤◌, ◌<◌}
use mathlib.Core.Path.{◌≡◌, refl}
use mathlib.Core.Logic.Or
use mathlib.Core.Logic.{◌↔◌}
use mathlib.Core.Bool.{Bool, true, ◌&&◌, ◌||◌, So-prop, and-eq-true_iff, or-eq-true_iff}
use native.Mathlib.Omega.{arith}
use native.Mathlib.Decide.{dec_le}
use native.Mathlib.Nat.{le_trans, lt_of_lt_of_le, lt_of_not-le, not-le_of_lt}
use lib.Dec.{leb, ltb, lit≤}
use borrow.Author.Tests.{leb-true, ltb-true}
use Rattle.counts.specs.Counts.{binomial, D, S, B, sum_after, range_size, range_start}
use Rattle.counts.specs.Fields.{bit_field, size_of, field_total}
use Rattle.counts.specs.Width.{width, bits_from}
use Rattle.counts.specs.declared.Field.{Field}
use Rattle.counts.specs.declared.Field.TheVariants as field
use Rattle.counts.proofs.Fields.{total_at_0}
use Rattle.counts.proofs.Growth.{total_grows}
use Rattle.tables.specs.Largest.{largest_radius}
use Rattle.tables.specs.Usable.{most_points}

-- at the largest radius the total is within 2^32, and past it, up to radius 32, it is not
within : Field → ℕ → Bool
within f l = leb (field_total (size_of f) l (largest_radius f l)) most_points

past : Field → ℕ → Bool
past f l = leb 32 (largest_radius f l) || ltb most_points (field_total (size_of f) l (suc (largest_radius f l)))

-- and it is at most 32
right : Field → ℕ → Bool
right f l = leb (largest_radius f l) 32 && within f l && past f l

up_to : Field → ℕ → Bool
up_to f zero = true
up_to f (suc l) = right f (suc l) && up_to f l

all_right : (f : Field) → up_to f 16 ≡ true
unfolding up_to right within past binomial D S B sum_after range_size range_start width bits_from bit_field field_total
all_right field.Exact = refl
all_right field.Bits = refl

right_at : (f : Field) (n l : ℕ) → up_to f n ≡ true → 1 ≤ l → l ≤ n → right f l ≡ true
unfolding up_to
right_at f zero l e p q = absurd (omega arith)
right_at f (suc n) l e p q = go (dec_le l n) (λ h. right_at f n l ((and-eq-true_iff (right f (suc n)) (up_to f n)).0 e).1 p h)
  where
    go : Dec (l ≤ n) → (l ≤ n → right f l ≡ true) → right f l ≡ true
    go (yes h) rest = rest h
    go (no h) rest = let same : l ≡ suc n = omega arith in rw same ((and-eq-true_iff (right f (suc n)) (up_to f n)).0 e).0

-- what the test says at a length from 1 to 16
module _ (f : Field) (l : ℕ) (p : 1 ≤ l) (q : l ≤ 16) where
  told : (leb (largest_radius f l) 32 ≡ true) × (within f l ≡ true) × (past f l ≡ true)
  unfolding right
  told =
      let to = leb (largest_radius f l) 32 in
      let all = (and-eq-true_iff (to && within f l) (past f l)).0 (right_at f 16 l (all_right f) p q) in
      let two = (and-eq-true_iff to (within f l)).0 all.0 in
      (two.0, two.1, all.1)

  pub largest_to : largest_radius f l ≤ 32
  largest_to = leb-true (largest_radius f l) 32 told.0

  at_largest : field_total (size_of f) l (largest_radius f l) ≤ most_points
  unfolding within
  at_largest = leb-true (field_total (size_of f) l (largest_radius f l)) most_points told.1

  past_largest : largest_radius f l < 32 → most_points < field_total (size_of f) l (suc (largest_radius f l))
  unfolding past
  past_largest h =
      let top = largest_radius f l in
      let last = leb 32 top in
      let next = ltb most_points (field_total (size_of f) l (suc top)) in
      let either = (or-eq-true_iff last next).0 told.2 in
      ltb-true most_points (field_total (size_of f) l (suc top)) (Or.elim (So-prop next) either (λ t. absurd (not-le_of_lt h (leb-true 32 top t))) (λ t. t))

  pub usable_up_to : (k : ℕ) → k ≤ largest_radius f l → field_total (size_of f) l k ≤ most_points
  usable_up_to zero h = rw (total_at_0 (size_of f) l) (lit≤ tt)
  usable_up_to (suc k) h = le_trans (total_grows f l (suc k) (largest_radius f l) (omega arith) h) at_largest

  pub unusable_past : (k : ℕ) → k ≤ 32 → largest_radius f l < k → most_points < field_total (size_of f) l k
  unusable_past k r h = lt_of_lt_of_le (past_largest (lt_of_lt_of_le h r)) (total_grows f l (suc (largest_radius f l)) k (omega arith) h)

  pub usable_exactly : (k : ℕ) → k ≤ 32 → (field_total (size_of f) l k ≤ most_points) ↔ (k ≤ largest_radius f l)
  usable_exactly k r = (λ h. go (dec_le k (largest_radius f l)) h, usable_up_to k)
    where
      go : Dec (k ≤ largest_radius f l) → field_total (size_of f) l k ≤ most_points → k ≤ largest_radius f l
      go (yes t) h = t
      go (no t) h = absurd (not-le_of_lt (unusable_past k r (lt_of_not-le t)) h)
