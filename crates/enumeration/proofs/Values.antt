-- The first coordinate in the magnitude enumeration, for all lengths and radii. It has length l+1, so that the rest has
-- length l:
--     offset_zero, offsets_agree           that of a zero is 0; the offsets of equation 6 are the sums of equation 5
--     zero_value, positive_value, negative_value, last_value
--                                          which first coordinate an index has, and the index of the rest
--     value_read, value_found              an index below N has a first coordinate, and no other
--     value_below                          and only an index below N has one
use Prim.Native.Nat.{ℕ, zero, suc, ◌+◌, ◌-◌, ◌*◌, ◌≤◌, ◌<◌}
use mathlib.Core.Path.{◌≡◌, refl, ap, ◌∙◌}
use native.Mathlib.Omega.{arith}
use native.Mathlib.Decide.{dec_lt}
use lib.Dec.{leb, ltb}
use lib.IntN.{ℤ, pos, negsuc, neg_ℤ, nat_abs}
use borrow.Author.Tests.{lt-ltb, le-ltb, le-leb, lt-leb}
use Rattle.counts.specs.Counts.{N}
use Rattle.counts.proofs.FirstCoordinate.{of_magnitudes, first_split, first_all}
use Rattle.counts.proofs.Growth.{N_wider}
use Rattle.counts.proofs.Sums.{sum_cong, sum_add}
use Rattle.enumeration.specs.Among.{first_among, left_among, passed_among}
use Rattle.enumeration.specs.Magnitude.{offset, offset_sum, OffsetsAgree, of_both_signs, first_nonzero, first_value}
use Rattle.enumeration.specs.Point.{signed}
use Rattle.enumeration.proofs.Among.{IsFirst, first_read, first_back}

-- ---- offsets
pub offsets_agree : OffsetsAgree
unfolding offset offset_sum
offsets_agree (pos zero) l k h = let same : N (suc l) (k - 0) ≡ N (suc l) k = ap (N (suc l)) (omega arith) in omega arith
offsets_agree (pos (suc i)) l k h = let less : suc l - 1 ≡ l = omega arith in rw less (omega (arith, first_split l k i h))
offsets_agree (negsuc i) l k h = let less : suc l - 1 ≡ l = omega arith in rw less (omega (arith, first_split l k i h))

pub offset_zero : (l k : ℕ) → offset (pos 0) (suc l) k ≡ 0
unfolding offset_sum
offset_zero l k = offsets_agree (pos 0) l k (omega arith)

module _ (l k i : ℕ) (h : suc i ≤ k) where
  less : suc l - 1 ≡ l
  less = omega arith

  offset_positive : offset (pos (suc i)) (suc l) k ≡ N l k + 2 * of_magnitudes l k i
  unfolding offset_sum
  offset_positive = offsets_agree (pos (suc i)) l k h ∙ rw less

  offset_negative : offset (negsuc i) (suc l) k ≡ N l k + 2 * of_magnitudes l k i + N l (k - suc i)
  unfolding offset_sum
  offset_negative = offsets_agree (negsuc i) l k h ∙ rw less

-- ---- which value comes first
-- the points that begin with a magnitude of 1 to i, with either sign
passed_both : (l k i : ℕ) → passed_among (of_both_signs l) k i ≡ 2 * of_magnitudes l k i
passed_both l k i =
    let f : ℕ → ℕ = λ j. N l (k - j) in
    omega (arith, sum_cong (λ j. 2 * f j) (λ j. f j + f j) (λ j. omega arith) 0 i, sum_add f f 0 i)

-- the n-th point of length l+1 and radius k begins with i, and `left` is the index of the rest
pub record IsValue (l k n : ℕ) (i : ℤ) (left : ℕ) : Type 0 where
  pub magnitude_to : nat_abs i ≤ k
  pub left_below : left < N l (k - nat_abs i)
  pub offset_and_left : offset i (suc l) k + left ≡ n

pub zero_value : (l k n : ℕ) → n < N l k → IsValue l k n (pos 0) n
zero_value l k n h =
    let same : k - 0 ≡ k = omega arith in
    record { magnitude_to = omega arith; left_below = rw same h; offset_and_left = omega (arith, offset_zero l k) }

-- i is the first magnitude of the n-th, which begins with no zero
module _ (l k n i left : ℕ) (h : N l k ≤ n) (f : IsFirst (of_both_signs l) k (n - N l k) i left) where
  pub positive_value : left < N l (k - i) → IsValue l k n (pos i) left
  positive_value below = go i f.from_1 f.to_sum f.passed_and_left below
    where
      go : (i : ℕ) → 0 < i → i ≤ k → passed_among (of_both_signs l) k (i - 1) + left ≡ n - N l k → left < N l (k - i) → IsValue l k n (pos i) left
      go zero p q e b = absurd (omega arith)
      go (suc i) p q e b =
          let less : suc i - 1 ≡ i = omega arith in
          let passed : passed_among (of_both_signs l) k i + left ≡ n - N l k = rw less at e in
          record {
            magnitude_to = q;
            left_below = b;
            offset_and_left = omega (arith, offset_positive l k i q, passed_both l k i, passed);
          }

  pub negative_value : N l (k - i) ≤ left → IsValue l k n (neg_ℤ (pos i)) (left - N l (k - i))
  negative_value past = go i f.from_1 f.to_sum f.passed_and_left f.left_below past
    where
      go : (i : ℕ) → 0 < i → i ≤ k → passed_among (of_both_signs l) k (i - 1) + left ≡ n - N l k → left < 2 * N l (k - i) → N l (k - i) ≤ left
          → IsValue l k n (neg_ℤ (pos i)) (left - N l (k - i))
      go zero p q e b c = absurd (omega arith)
      go (suc i) p q e b c =
          let less : suc i - 1 ≡ i = omega arith in
          let passed : passed_among (of_both_signs l) k i + left ≡ n - N l k = rw less at e in
          record {
            magnitude_to = q;
            left_below = omega arith;
            offset_and_left = omega (arith, offset_negative l k i q, passed_both l k i, passed);
          }

pub nonzero_below : (l k n : ℕ) → n < N (suc l) k → N l k ≤ n → n - N l k < passed_among (of_both_signs l) k k
nonzero_below l k n h p = omega (arith, first_all l k, passed_both l k k)

-- an index is in the points that begin with a value only below N
pub value_below : (l k n left : ℕ) (i : ℤ) → IsValue l k n i left → n < N (suc l) k
value_below l k n left (pos zero) v =
    let same : k - 0 ≡ k = omega arith in
    let below : left < N l k = rw same at v.left_below in
    omega (arith, v.offset_and_left, offset_zero l k, N_wider l k)
value_below l k n left (pos (suc i)) v =
    omega (arith, v.offset_and_left, v.left_below, offset_positive l k i v.magnitude_to, first_split l k i v.magnitude_to)
value_below l k n left (negsuc i) v =
    omega (
      arith,
      v.offset_and_left,
      v.left_below,
      offset_negative l k i v.magnitude_to,
      first_split l k i v.magnitude_to,
      N_wider l (k - suc i),
    )

-- ---- the value that is read
read_zero : (l k n : ℕ) → n < N l k → first_value l k n ≡ pos 0
unfolding first_value
read_zero l k n h = rw (lt-ltb n (N l k) h, first_value)

read_nonzero : (l k n : ℕ) → N l k ≤ n → first_value l k n ≡ first_nonzero l k (n - N l k)
unfolding first_value
read_nonzero l k n h = rw (le-ltb n (N l k) h, first_value)

-- the index of the rest is what the offset leaves
left_is : (l k n left : ℕ) (i : ℤ) → IsValue l k n i left → n - offset i (suc l) k ≡ left
left_is l k n left i v = omega (arith, v.offset_and_left)

value_with_left : (l k n left : ℕ) (i : ℤ) → IsValue l k n i left → first_value l k n ≡ i
    → IsValue l k n (first_value l k n) (n - offset (first_value l k n) (suc l) k)
value_with_left l k n left i v e = rw (e, left_is l k n left i v) v

pub value_read : (l k n : ℕ) → n < N (suc l) k → IsValue l k n (first_value l k n) (n - offset (first_value l k n) (suc l) k)
unfolding first_nonzero
value_read l k n h = go (dec_lt n (N l k))
  where
    many : ℕ → ℕ
    many = of_both_signs l

    go : Dec (n < N l k) → IsValue l k n (first_value l k n) (n - offset (first_value l k n) (suc l) k)
    go (yes t) = value_with_left l k n n (pos 0) (zero_value l k n t) (read_zero l k n t)
    go (no t) =
        let past : N l k ≤ n = omega arith in
        let i = first_among many k (n - N l k) in
        let left = left_among many k (n - N l k) in
        signs past i left (first_read many k (n - N l k) (nonzero_below l k n h past)) refl refl (dec_lt left (N l (k - i)))
      where
        signs : N l k ≤ n → (i left : ℕ) → IsFirst many k (n - N l k) i left → first_among many k (n - N l k) ≡ i → left_among many k (n - N l k) ≡ left
            → Dec (left < N l (k - i)) → IsValue l k n (first_value l k n) (n - offset (first_value l k n) (suc l) k)
        signs past i left f e g (yes b) =
            value_with_left l k n left (pos i) (positive_value l k n i left past f b)
            (read_nonzero l k n past ∙ rw (e, g, lt-leb (N l (k - i)) left b))
        signs past i left f e g (no b) =
            let all : N l (k - i) ≤ left = omega arith in
            value_with_left l k n (left - N l (k - i)) (neg_ℤ (pos i)) (negative_value l k n i left past f all)
            (read_nonzero l k n past ∙ rw (e, g, le-leb (N l (k - i)) left all))

-- j is what the magnitude i+1 leaves of the radius
nonzero_found : (l j i m : ℕ) → m < 2 * N l j
    → first_nonzero l (suc (i + j)) (passed_among (of_both_signs l) (suc (i + j)) i + m) ≡ signed (leb (N l j) m) (suc i)
unfolding first_nonzero
nonzero_found l j i m h =
    let b = first_back (of_both_signs l) j i m h in
    let left : suc (i + j) - suc i ≡ j = omega arith in
    rw (b.0, b.1, left)

value_at_lem : (l k n i m : ℕ) → suc i ≤ k → m < 2 * N l (k - suc i) → n ≡ N l k + 2 * of_magnitudes l k i + m
    → first_value l k n ≡ signed (leb (N l (k - suc i)) m) (suc i)
value_at_lem l k n i m h b e =
    let whole : suc (i + (k - suc i)) ≡ k = omega arith in
    let number : n - N l k ≡ passed_among (of_both_signs l) k i + m = omega (arith, passed_both l k i) in
    read_nonzero l k n (omega arith) ∙ ap (first_nonzero l k) number ∙ rw whole at (nonzero_found l (k - suc i) i m b)

pub value_found : (l k n left : ℕ) (i : ℤ) → IsValue l k n i left → first_value l k n ≡ i
value_found l k n left (pos zero) v =
    let same : k - 0 ≡ k = omega arith in
    let below : left < N l k = rw same at v.left_below in
    read_zero l k n (omega (arith, v.offset_and_left, offset_zero l k))
value_found l k n left (pos (suc i)) v =
    value_at_lem l k n i left v.magnitude_to (omega (arith, v.left_below))
    (omega (arith, v.offset_and_left, offset_positive l k i v.magnitude_to))
    ∙ rw (lt-leb (N l (k - suc i)) left v.left_below)
value_found l k n left (negsuc i) v =
    let m = N l (k - suc i) + left in
    value_at_lem l k n i m v.magnitude_to (omega (arith, v.left_below))
    (omega (arith, v.offset_and_left, offset_negative l k i v.magnitude_to))
    ∙ rw (le-leb (N l (k - suc i)) m (omega arith))

-- ---- the last coordinate is all that is left
one_coordinate : (k : ℕ) → N 1 (suc k) ≡ 2
unfolding N
one_coordinate zero = refl
one_coordinate (suc k) = omega (arith, one_coordinate k)

pub last_value : (k n : ℕ) → n < N 1 k → IsValue 0 k n (signed (ltb 0 n) k) 0
unfolding N offset
last_value zero zero h = record { magnitude_to = omega arith; left_below = omega arith; offset_and_left = refl }
last_value zero (suc n) h = absurd (omega arith)
last_value (suc k) zero h =
    let none : suc k - suc k ≡ 0 = omega arith in
    record { magnitude_to = omega arith; left_below = rw none (omega arith); offset_and_left = rw none (omega (arith, one_coordinate k)) }
last_value (suc k) (suc zero) h =
    let none : suc k - suc k ≡ 0 = omega arith in
    record { magnitude_to = omega arith; left_below = rw none (omega arith); offset_and_left = rw none (omega (arith, one_coordinate k)) }
last_value (suc k) (suc (suc n)) h = absurd (omega (arith, one_coordinate k))
