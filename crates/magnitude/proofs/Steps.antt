-- The steps by which a point is written, as the code takes them by a row of counts:
--     last_step, zero_step                the last coordinate, and a zero
--     passable, positive_step, negative_step
--                                         a coordinate that is no zero, behind the smaller magnitudes
--     lowerable_behind, lowered_behind    the row for what is left behind a coordinate
use Prim.Native.Nat.{ℕ, zero, suc, ◌-◌, ◌≤◌, ◌<◌}
use mathlib.Core.Path.{◌≡◌, refl, ◌∙◌}
use mathlib.Core.List.{List}
use mathlib.Core.Bool.{true}
use native.Mathlib.Nat.{le_refl}
use native.Mathlib.Omega.{arith}
use lib.Dec.{ltb}
use lib.IntN.{ℤ, pos, neg_ℤ, nat_abs}
use lib.ListN.{length, get_or}
use Rattle.counts.specs.Counts.{N}
use Rattle.enumeration.specs.Among.{first_among, left_among, passed_among}
use Rattle.enumeration.specs.Magnitude.{of_both_signs}
use Rattle.enumeration.specs.Point.{signed}
use Rattle.enumeration.proofs.Among.{IsFirst, first_read, same_first, same_passed}
use Rattle.enumeration.proofs.Magnitude.{point_first}
use Rattle.enumeration.proofs.Spread.{signed_magnitude}
use Rattle.enumeration.proofs.Values.{IsValue, zero_value, positive_value, negative_value, last_value, nonzero_below}
use Rattle.magnitude.specs.Rows.{counts_room, CountsTo, below, Lowered, Lowerable}
use Rattle.magnitude.specs.Steps.{Writable, both_in, Passable, IsPassed, IsStep}
use Rattle.magnitude.specs.declared.inner.read.Left.{Left}
use Rattle.magnitude.proofs.Rows.{countable_less, lowered_counts, lowerable}

module _ (left : Left) (behind : ℕ) (w : Writable left (suc behind)) where
  -- a step to any value that the point begins with
  step_to : (i : ℤ) (rest : Left) → rest.k ≡ left.k - nat_abs i → IsValue behind left.k left.n i rest.n
      → IsStep left behind (record { c = i; left = rest })
  step_to i rest e v =
      record {
        less = omega (arith, e);
        writable =
            record {
              countable = countable_less (omega arith) (omega (arith, e)) w.countable;
              index_below = rw e v.left_below;
            };
        first = rw e (point_first behind left.k left.n rest.n i v);
      }

  pub zero_step : left.n < N behind left.k → IsStep left behind (record { c = pos 0; left = left })
  zero_step h = step_to (pos 0) left (omega arith) (zero_value behind left.k left.n h)

  pub last_step : behind ≡ 0 → IsStep left behind (record { c = signed (ltb 0 left.n) left.k; left = record { k = 0; n = 0 } })
  last_step e =
      let i = signed (ltb 0 left.n) left.k in
      step_to i (record { k = 0; n = 0 }) (omega (arith, signed_magnitude (ltb 0 left.n) left.k))
      (rw e (last_value left.k left.n (rw e at w.index_below)))

  -- by the row of counts of the length behind
  module _ (row : List ℕ) (counts : CountsTo behind left.k row) (h : get_or row left.k 0 ≤ left.n) where
    same : (j : ℕ) → j < left.k → both_in row j ≡ of_both_signs behind j
    same j q = omega (arith, counts j (omega arith))

    zeros : get_or row left.k 0 ≡ N behind left.k
    zeros = counts left.k (le_refl left.k)

    number_below : left.n - N behind left.k < passed_among (of_both_signs behind) left.k left.k
    number_below = nonzero_below behind left.k left.n w.index_below (rw zeros at h)

    pub passable : length row ≡ counts_room → Passable row left.k (left.n - get_or row left.k 0)
    passable room =
        record {
          room = omega (arith, w.countable.room);
          limited = λ j q. rw (counts j q) (w.countable.limited behind j (omega arith) q);
          number_below = rw (zeros, same_passed (both_in row) (of_both_signs behind) left.k same) number_below;
        }

    module _ (passed : Left) (is : IsPassed row left.k (left.n - get_or row left.k 0) passed) where
      first_passed : (passed.k ≤ left.k) × IsFirst (of_both_signs behind) left.k (left.n - N behind left.k) (left.k - passed.k) passed.n
      first_passed =
          let many = of_both_signs behind in
          let k = left.k in
          let n = left.n - N behind k in
          let there = first_read many k n number_below in
          let found = same_first (both_in row) many k n same in
          let sum : passed.k ≡ k - first_among many k n = rw (zeros, found.0) at is.is_sum in
          let number : passed.n ≡ left_among many k n = rw (zeros, found.1) at is.is_number in
          let first : k - passed.k ≡ first_among many k n = omega (arith, there.to_sum) in
          (omega arith, rw (first, number) there)

      rest_left : passed.k ≡ left.k - (left.k - passed.k)
      rest_left = omega (arith, first_passed.0)

      positive : get_or row passed.k 0 ≡ N behind (left.k - (left.k - passed.k))
      positive = rw (← rest_left) (counts passed.k first_passed.0)

      pub positive_step : passed.n < get_or row passed.k 0 → IsStep left behind (record { c = pos (left.k - passed.k); left = passed })
      positive_step q =
          step_to (pos (left.k - passed.k)) passed rest_left
          (positive_value behind left.k left.n (left.k - passed.k) passed.n (rw zeros at h) first_passed.1 (rw positive at q))

      pub negative_step : get_or row passed.k 0 ≤ passed.n
          → IsStep left behind (record { c = neg_ℤ (pos (left.k - passed.k)); left = record { k = passed.k; n = passed.n - get_or row passed.k 0 } })
      negative_step q =
          let i = left.k - passed.k in
          rw positive
          (step_to (neg_ℤ (pos i)) (record { k = passed.k; n = passed.n - N behind (left.k - i) })
          (omega (arith, rest_left, signed_magnitude true i))
          (negative_value behind left.k left.n i passed.n (rw zeros at h) first_passed.1 (rw positive at q)))

-- no coordinates have no radius but 0
no_radius_lem : (k n : ℕ) → n < N 0 k → k ≡ 0
unfolding N
no_radius_lem zero n h = refl
no_radius_lem (suc k) n h = absurd (omega arith)

-- the row for what is left behind a coordinate, where `behind` is how long that is; behind the last one radius 0 is
-- left, and the row stays
module _ (left : Left) (row : List ℕ) where
  pub lowerable_behind : (behind : ℕ) → Writable left behind → length row ≡ counts_room → CountsTo behind left.k row → Lowerable left.k row
  lowerable_behind zero w room counts =
      record { room = omega (arith, w.countable.room); differs = λ j h. absurd (omega (arith, no_radius_lem left.k left.n w.index_below)) }
  lowerable_behind (suc l) w room counts = lowerable l left.k row (omega (arith, w.countable.room)) counts

  pub lowered_behind : (behind : ℕ) (made : List ℕ) → Writable left behind → CountsTo behind left.k row → Lowered left.k row made
      → CountsTo (behind - 1) left.k made
  unfolding below
  lowered_behind zero made w counts lowered j h =
      let first : j ≡ 0 = omega (arith, no_radius_lem left.k left.n w.index_below) in
      rw first (lowered 0 (omega arith) ∙ counts 0 (omega arith))
  lowered_behind (suc l) made w counts lowered j h =
      let less : suc l - 1 ≡ l = omega arith in
      rw less (lowered_counts l left.k row made counts lowered j h)
