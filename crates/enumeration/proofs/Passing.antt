-- The search for a first magnitude, for any count of those that begin with each: those that begin with 1, 2 and so on
-- are passed one by one, until fewer than begin with the next are left of the number.
use Prim.Native.Nat.{ℕ, suc, ◌+◌, ◌-◌, ◌≤◌, ◌<◌}
use mathlib.Core.Path.{◌≡◌, sym, ◌∙◌}
use native.Mathlib.Omega.{arith}
use Rattle.enumeration.specs.Among.{first_among, left_among, passed_among}
use Rattle.enumeration.proofs.Among.{first_1, first_more, passed_next, passed_some}

-- what is passed leaves k+1 to sum to, and `left` is the number among what sums to that
pub record Passing (many : ℕ → ℕ) (sum number k left : ℕ) : Type 0 where
  pub in_sum : k < sum
  pub left_below : left < passed_among many (suc k) (suc k)
  pub first_kept : first_among many sum number ≡ sum - suc k + first_among many (suc k) left
  pub left_kept : left_among many sum number ≡ left_among many (suc k) left

module _ (many : ℕ → ℕ) (sum number : ℕ) where
  -- nothing is passed yet
  pub pass_none : number < passed_among many sum sum → Passing many sum number (sum - 1) number
  pass_none h =
      let some = passed_some many sum number h in
      let same : suc (sum - 1) ≡ sum = omega arith in
      record { in_sum = omega arith; left_below = rw same h; first_kept = rw same (omega arith); left_kept = rw same }

  module _ (k left : ℕ) (p : Passing many sum number k left) where
    -- one more magnitude is passed
    pub pass_one : many k ≤ left → (0 < k) × Passing many sum number (k - 1) (left - many k)
    pass_one h =
        let below : left - many k < passed_among many k k = omega (arith, p.left_below, passed_next many k k) in
        let some = passed_some many k (left - many k) below in
        let same : suc (k - 1) ≡ k = omega arith in
        let next = first_more many k left h in (
          some,
          record {
            in_sum = omega (arith, p.in_sum);
            left_below = rw same below;
            first_kept = rw same (omega (arith, p.in_sum, p.first_kept, next.0));
            left_kept = rw same (p.left_kept ∙ next.1);
          },
        )

    -- the first magnitude is found
    pub pass_found : left < many k → (sum - k ≡ first_among many sum number) × (left ≡ left_among many sum number)
    pass_found h =
        let first = first_1 many k left h in
        (omega (arith, p.in_sum, p.first_kept, first.0), sym (p.left_kept ∙ first.1))
