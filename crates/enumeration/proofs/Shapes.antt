-- Shapes and their indices, for all numbers of magnitudes and sums:
--     second_shape                 a shape of two magnitudes
--     first_read                   the first magnitude's offset and the number of the shape that is left make up the
--                                  number of a shape
--     all_passed                   each shape begins with some magnitude
--     shape_at_least               no more magnitudes than their sum
--     last_read, second_read       the last magnitude is all that is left; the one before it is one more than the
--                                  number of its shape
--     shape_read                   the n-th shape has s magnitudes, all above 0, that sum to k, and index n
--     shape_below, shape_back      a shape's index is below S(s,k), and that shape is read back from it
use Prim.Native.Nat.{ℕ, zero, suc, ◌+◌, ◌-◌, ◌≤◌, ◌<◌}
use mathlib.Core.Path.{◌≡◌, refl, sym, ap, ◌∙◌}
use mathlib.Core.List.{List, [], ◌∷◌}
use native.Mathlib.Omega.{arith}
use native.Mathlib.Decide.{dec_lt, le_ind}
use native.Mathlib.Nat.{le_refl, suc-add}
use lib.ListN.{length}
use Rattle.counts.specs.Counts.{binomial, S}
use Rattle.counts.proofs.Pascal.{S_none, S_addition, S_small}
use Rattle.counts.proofs.Upper.{upper_part, upper_offset}
use Rattle.enumeration.specs.Among.{passed_among}
use Rattle.enumeration.specs.Point.{sum_of}
use Rattle.enumeration.specs.Product.{shape_offset, shape_index}
use Rattle.enumeration.specs.Reading.{first_magnitude, shape_left, shape_of}
use Rattle.enumeration.proofs.Among.{IsFirst}
use Rattle.enumeration.proofs.Among as among

-- the second of the two shapes that sum to 3 with two magnitudes
second_shape : shape_index (2 ∷ 1 ∷ []) ≡ 1
unfolding shape_index shape_offset S binomial
second_shape = refl

pub S_start : S 0 0 ≡ 1
unfolding S
S_start = refl

-- one magnitude makes one shape
pub S_one : (k : ℕ) → S 1 (suc k) ≡ 1
unfolding S binomial
S_one zero = refl
S_one (suc k) = refl

-- there are no fewer shapes of a greater sum
pub S_grows : (s j k : ℕ) → j ≤ k → S (suc s) j ≤ S (suc s) k
S_grows s j k h =
    le_ind (λ (m : ℕ). S (suc s) j ≤ S (suc s) m) (le_refl (S (suc s) j)) (λ m q e. omega (arith, e, S_addition s m)) k h

-- the offset of a first magnitude passes the shapes of the smaller ones (eq. 21)
offset_passes : (s k i : ℕ) → 0 < i → i ≤ k → shape_offset (suc s) k i ≡ passed_among (S s) k (i - 1)
unfolding shape_offset
offset_passes s k i p h =
    let same : k - (i - 1) ≡ k - i + 1 = omega arith in
    rw (← same) (sym (upper_offset s k (i - 1) (omega arith)))

-- and all first magnitudes together pass all shapes (eq. 20)
pub all_passed : (s k : ℕ) → S (suc s) k ≡ passed_among (S s) k k
all_passed s k =
    let none : k - k ≡ 0 = omega arith in
    let last : S (suc s) (k - k) ≡ 0 = ap (S (suc s)) none ∙ S_small (suc s) 0 (omega arith) in
    omega (arith, upper_part s k k (omega arith))

pub first_read : (s k n : ℕ) → n < S (suc s) k → IsFirst (S s) k n (first_magnitude s k n) (shape_left s k n)
first_read s k n h = among.first_read (S s) k n (rw (← all_passed s k) h)

-- there is no shape of more magnitudes than they sum to
pub shape_at_least : (s k n : ℕ) → n < S s k → s ≤ k
shape_at_least s k n h = go (dec_lt k s)
  where
    go : Dec (k < s) → s ≤ k
    go (yes t) = absurd (omega (arith, S_small s k t))
    go (no t) = omega arith

-- the last magnitude is all that is left to sum to
pub last_read : (k n : ℕ) → n < S 1 k → (first_magnitude 0 k n ≡ k) × (shape_left 0 k n ≡ 0)
last_read k n h = go (k - first_magnitude 0 k n) refl (first_read 0 k n h)
  where
    go : (j : ℕ) → k - first_magnitude 0 k n ≡ j → IsFirst (S 0) k n (first_magnitude 0 k n) (shape_left 0 k n)
        → (first_magnitude 0 k n ≡ k) × (shape_left 0 k n ≡ 0)
    go zero e f =
        let below : shape_left 0 k n < S 0 0 = rw e at f.left_below in
        (omega (arith, f.to_sum), omega (arith, S_start))
    go (suc j) e f =
        let below : shape_left 0 k n < S 0 (suc j) = rw e at f.left_below in
        absurd (omega (arith, S_none j))

-- where one magnitude comes after it, one shape begins with each magnitude
pub second_read : (k n : ℕ) → n < S 2 k → (first_magnitude 1 k n ≡ suc n) × (shape_left 1 k n ≡ 0)
second_read zero n h = absurd (omega (arith, S_small 2 0 (omega arith)))
second_read (suc zero) n h = absurd (omega (arith, S_small 2 1 (omega arith)))
second_read (suc (suc k)) zero h = among.first_1 (S 1) (suc k) 0 (omega (arith, S_one k))
second_read (suc (suc k)) (suc n) h =
    let one = S_one k in
    let f = among.first_more (S 1) (suc k) (suc n) (omega arith) in
    let left : suc n - S 1 (suc k) ≡ n = omega arith in
    let rest = second_read (suc k) n (omega (arith, S_addition 1 (suc k))) in
    (f.0 ∙ ap (λ (m : ℕ). suc (first_magnitude 1 (suc k) m)) left ∙ ap suc rest.0, f.1 ∙ ap (shape_left 1 (suc k)) left ∙ rest.1)

-- all magnitudes are above 0
abbrev pub Positive : List ℕ → Type 0
Positive [] = Unit {0}
Positive (i ∷ is) = (0 < i) × Positive is

-- the n-th of the shapes of s magnitudes that sum to k
pub record IsShape (s k n : ℕ) (is : List ℕ) : Type 0 where
  pub of_length : length is ≡ s
  pub of_sum : sum_of is ≡ k
  pub positive : Positive is
  pub of_index : shape_index is ≡ n

none_left : (k n : ℕ) → n < S 0 k → IsShape 0 k n []
unfolding shape_index
none_left zero n h = record { of_length = refl; of_sum = refl; positive = tt; of_index = omega (arith, S_start) }
none_left (suc k) n h = absurd (omega (arith, S_none k))

with_first : (s k n i left : ℕ) (is : List ℕ) → IsFirst (S s) k n i left → IsShape s (k - i) left is → IsShape (suc s) k n (i ∷ is)
unfolding shape_index
with_first s k n i left is f r =
    let whole : i + sum_of is ≡ k = omega (arith, r.of_sum, f.to_sum) in
    record {
      of_length = ap suc r.of_length;
      of_sum = whole;
      positive = (f.from_1, r.positive);
      of_index = rw (whole, r.of_length, r.of_index, offset_passes s k i f.from_1 f.to_sum) f.passed_and_left;
    }

pub shape_read : (s k n : ℕ) → n < S s k → IsShape s k n (shape_of s k n)
unfolding shape_of
shape_read zero k n h = none_left k n h
shape_read (suc s) k n h =
    let i = first_magnitude s k n in
    let left = shape_left s k n in
    let f = first_read s k n h in
    with_first s k n i left (shape_of s (k - i) left) f (shape_read s (k - i) left f.left_below)

pub shape_below : (is : List ℕ) → Positive is → shape_index is < S (length is) (sum_of is)
unfolding shape_index shape_offset
shape_below [] p = omega (arith, S_start)
shape_below (i ∷ is) p =
    let s = length is in
    let j = sum_of is in
    let rest : i + j - i + 1 ≡ suc j = omega arith in
    rw rest
    (omega (arith, shape_below is p.1, S_addition s j, S_grows s (suc j) (i + j) (omega (arith, p.0))))

pub shape_back : (is : List ℕ) → Positive is → shape_of (length is) (sum_of is) (shape_index is) ≡ is
unfolding shape_index shape_offset shape_of
shape_back [] p = refl
shape_back (zero ∷ is) p = absurd (omega (arith, p.0))
shape_back (suc i ∷ is) p =
    let s = length is in
    let j = sum_of is in
    let rest : suc i + j - suc i + 1 ≡ suc j = omega arith in
    let left : suc (i + j) - suc i ≡ j = omega arith in
    let less : suc (i + j) - i ≡ suc j = omega arith in
    let passed : S (suc s) (suc (i + j)) - S (suc s) (suc j) ≡ passed_among (S s) (suc (i + j)) i =
    rw less at (sym (upper_offset s (suc (i + j)) i (omega arith))) in
    let b = among.first_back (S s) j i (shape_index is) (shape_below is p.1) in
    rw (rest, suc-add i j, passed, b.0, b.1, left) (ap (λ (js : List ℕ). suc i ∷ js) (shape_back is p.1))
