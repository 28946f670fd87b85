-- What is numbered by a first magnitude, for any count of those that begin with each, and all sums k:
--     first_1, first_more        how the first magnitude is found, and which of those that begin with it is meant
--     passed_next                those passed, with one magnitude more in front
--     passed_some                where there is a number, there is something to sum to
--     first_read, first_back     what was passed and what is left make up the number; and the magnitude is found again
--                                from them
--     same_first, same_passed    all that depends on the counts below k alone
use Prim.Native.Nat.{ℕ, zero, suc, ◌+◌, ◌-◌, ◌≤◌, ◌<◌}
use mathlib.Core.Path.{◌≡◌, refl, sym, ap, ◌∙◌}
use native.Mathlib.Omega.{arith}
use native.Mathlib.Decide.{dec_lt}
use borrow.Author.Tests.{lt-ltb, le-ltb}
use Rattle.counts.specs.Counts.{sum_after}
use Rattle.counts.proofs.Sums.{sum_cong, sum_first, sum_shift}
use Rattle.enumeration.specs.Among.{first_among, left_among, passed_among}

-- i is the first magnitude of the n-th, and `left` says which of those that begin with i
pub record IsFirst (many : ℕ → ℕ) (k n i left : ℕ) : Type 0 where
  pub from_1 : 0 < i
  pub to_sum : i ≤ k
  pub left_below : left < many (k - i)
  pub passed_and_left : passed_among many k (i - 1) + left ≡ n

module _ (many : ℕ → ℕ) where
  pub first_1 : (k n : ℕ) → n < many k → (first_among many (suc k) n ≡ 1) × (left_among many (suc k) n ≡ n)
  unfolding first_among left_among
  first_1 k n h = (rw (lt-ltb n (many k) h, first_among), rw (lt-ltb n (many k) h, left_among))

  pub first_more : (k n : ℕ) → many k ≤ n
      → (first_among many (suc k) n ≡ suc (first_among many k (n - many k))) × (left_among many (suc k) n ≡ left_among many k (n - many k))
  unfolding first_among left_among
  first_more k n h = (rw (le-ltb n (many k) h, first_among), rw (le-ltb n (many k) h, left_among))

  passed_none : (k : ℕ) → passed_among many k 0 ≡ 0
  unfolding sum_after
  passed_none k = refl

  pub passed_next : (k i : ℕ) → passed_among many (suc k) (suc i) ≡ many k + passed_among many k i
  passed_next k i =
      let first : suc k - 1 ≡ k = omega arith in
      let less : (j : ℕ) → many (suc k - suc j) ≡ many (k - j) = λ j. ap many (omega arith) in
      sum_first (λ j. many (suc k - j)) 0 i
      ∙ rw (first, sum_shift (λ j. many (suc k - j)) 0 i, sum_cong (λ j. many (suc k - suc j)) (λ j. many (k - j)) less 0 i)

  pub passed_some : (k n : ℕ) → n < passed_among many k k → 0 < k
  passed_some zero n h = absurd (omega (arith, passed_none 0))
  passed_some (suc k) n h = omega arith

  is_1 : (k n : ℕ) → n < many k → IsFirst many (suc k) n 1 n
  is_1 k n h =
      let rest : suc k - 1 ≡ k = omega arith in
      record { from_1 = omega arith; to_sum = omega arith; left_below = rw rest h; passed_and_left = omega (arith, passed_none (suc k)) }

  is_more : (k n i left : ℕ) → many k ≤ n → IsFirst many k (n - many k) i left → IsFirst many (suc k) n (suc i) left
  is_more k n i left h r =
      let rest : suc k - suc i ≡ k - i = omega arith in
      let same : suc (i - 1) ≡ suc i - 1 = omega (arith, r.from_1) in
      let next : passed_among many (suc k) (suc i - 1) ≡ many k + passed_among many k (i - 1) = rw same at (passed_next k (i - 1)) in
      record {
        from_1 = omega arith;
        to_sum = omega (arith, r.to_sum);
        left_below = rw rest r.left_below;
        passed_and_left = omega (arith, r.passed_and_left, next);
      }

  pub first_read : (k n : ℕ) → n < passed_among many k k → IsFirst many k n (first_among many k n) (left_among many k n)
  first_read zero n h = absurd (omega (arith, passed_none 0))
  first_read (suc k) n h = go (dec_lt n (many k)) (first_read k (n - many k))
    where
      go : Dec (n < many k)
          → (n - many k < passed_among many k k → IsFirst many k (n - many k) (first_among many k (n - many k)) (left_among many k (n - many k)))
          → IsFirst many (suc k) n (first_among many (suc k) n) (left_among many (suc k) n)
      go (yes t) rest = let f = first_1 k n t in rw (f.0, f.1) (is_1 k n t)
      go (no t) rest =
          let past : many k ≤ n = omega arith in
          let f = first_more k n past in
          rw (f.0, f.1)
          (is_more k n (first_among many k (n - many k)) (left_among many k (n - many k)) past (rest (omega (arith, passed_next k k))))

  -- the first magnitude is i+1 and j is what is left to sum to
  pub first_back : (j i n : ℕ) → n < many j
      → (first_among many (suc (i + j)) (passed_among many (suc (i + j)) i + n) ≡ suc i)
      × (left_among many (suc (i + j)) (passed_among many (suc (i + j)) i + n) ≡ n)
  first_back j zero n h =
      let none : passed_among many (suc (0 + j)) 0 + n ≡ n = omega (arith, passed_none (suc (0 + j))) in
      let sum : 0 + j ≡ j = omega arith in
      rw none (first_1 (0 + j) n (rw sum h))
  first_back j (suc i) n h =
      let k = suc (i + j) in
      let sum : suc i + j ≡ k = omega arith in
      let all = passed_among many (suc k) (suc i) + n in
      let rest : all - many k ≡ passed_among many k i + n = omega (arith, passed_next k i) in
      let f = first_more k all (omega (arith, passed_next k i)) in
      let b = first_back j i n h in
      rw sum
      (f.0 ∙ ap (λ (m : ℕ). suc (first_among many k m)) rest ∙ ap suc b.0, f.1 ∙ ap (left_among many k) rest ∙ b.1)

-- two counts that agree on all that a magnitude can leave
module _ (f g : ℕ → ℕ) where
  pub same_first : (k n : ℕ) → ((j : ℕ) → j < k → f j ≡ g j) → (first_among f k n ≡ first_among g k n) × (left_among f k n ≡ left_among g k n)
  unfolding first_among left_among
  same_first zero n e = (refl, refl)
  same_first (suc k) n e = go (dec_lt n (g k)) (same_first k (n - g k) (λ j h. e j (omega arith)))
    where
      here : f k ≡ g k
      here = e k (omega arith)

      go : Dec (n < g k)
          → (first_among f k (n - g k) ≡ first_among g k (n - g k)) × (left_among f k (n - g k) ≡ left_among g k (n - g k))
          → (first_among f (suc k) n ≡ first_among g (suc k) n) × (left_among f (suc k) n ≡ left_among g (suc k) n)
      go (yes t) rest =
          let a = first_1 f k n (rw here t) in
          let b = first_1 g k n t in
          (cc, cc)
      go (no t) rest =
          let a = first_more f k n (rw here (omega arith)) in
          let b = first_more g k n (omega arith) in
          let left : n - f k ≡ n - g k = omega (arith, here) in
          (cc, cc)

  pub same_passed : (k : ℕ) → ((j : ℕ) → j < k → f j ≡ g j) → passed_among f k k ≡ passed_among g k k
  same_passed zero e = passed_none f 0 ∙ sym (passed_none g 0)
  same_passed (suc k) e =
      passed_next f k k ∙ rw (e k (omega arith), same_passed k (λ j h. e j (omega arith))) (sym (passed_next g k k))
