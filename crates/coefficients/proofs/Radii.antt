-- The chosen radius misses the sum of magnitudes by the least; of two that miss it by the same, the smaller is
-- chosen; and one above 0 is chosen only where the sum is above 0.
use Prim.Native.Nat.{ℕ, zero, suc, ◌-◌, ◌*◌, ◌≤◌, ◌<◌}
use mathlib.Core.Path.{◌≡◌, ap, ◌∙◌}
use mathlib.Core.List.{List}
use native.Mathlib.Omega.{arith}
use native.Mathlib.Nat.{mul-pos, zero-mul, le_refl}
use native.Mathlib.Decide.{dec_lt}
use borrow.Author.Tests.{ltb-true, ltb-false}
use Rattle.tables.specs.Row.{radii_of, radius_at, step_of, GoodRow}
use Rattle.shares.specs.Best.{smaller, IsFirstBest}
use Rattle.coefficients.specs.Radius.{miss_by, chosen_radius_number, chosen_radius}
use Rattle.shares.proofs.Best.{first_best_lem, smaller_order}

module _ (row : List ℕ) (good : GoodRow row) (a : ℕ) where
  chosen_is : IsFirstBest smaller (miss_by row a) (radii_of row - 1) (chosen_radius_number row a)
  unfolding chosen_radius_number
  chosen_is = first_best_lem smaller smaller_order (miss_by row a) (radii_of row - 1)

  pub number_below : chosen_radius_number row a < radii_of row
  number_below = omega (arith, chosen_is.among, good.radii_from)

  pub least_miss : (n : ℕ) → n < radii_of row → miss_by row a (chosen_radius_number row a) ≤ miss_by row a n
  least_miss n h = ltb-false (miss_by row a n) (miss_by row a (chosen_radius_number row a)) (chosen_is.unbeaten n (omega arith))

  -- radii rise with their numbers
  rises_to : (m n : ℕ) → m ≤ n → n < radii_of row → radius_at row m ≤ radius_at row n
  rises_to m zero h below = let same : m ≡ 0 = omega arith in rw same (le_refl (radius_at row 0))
  rises_to m (suc n) h below = go (dec_lt n m) (λ earlier. rises_to m n earlier (omega arith))
    where
      go : Dec (n < m) → (m ≤ n → radius_at row m ≤ radius_at row n) → radius_at row m ≤ radius_at row (suc n)
      go (yes last) before = let same : m ≡ suc n = omega arith in rw same (le_refl (radius_at row (suc n)))
      go (no earlier) before = omega (arith, before (omega arith), good.radius_rises n below)

  pub smaller_on_tie : (n : ℕ) → n < radii_of row → miss_by row a n ≡ miss_by row a (chosen_radius_number row a) → chosen_radius row a ≤ radius_at row n
  smaller_on_tie n h tie = go (dec_lt n (chosen_radius_number row a))
    where
      go : Dec (n < chosen_radius_number row a) → chosen_radius row a ≤ radius_at row n
      go (yes before) = absurd (omega (arith, ltb-true (miss_by row a (chosen_radius_number row a)) (miss_by row a n) (chosen_is.first n before), tie))
      go (no after) = rises_to (chosen_radius_number row a) n (omega arith) h

  pub some_total : 0 < chosen_radius row a → 0 < a
  some_total h = go (dec_lt 0 a)
    where
      go : Dec (0 < a) → 0 < a
      go (yes some) = some
      go (no none) =
          let least : miss_by row a (chosen_radius_number row a) ≤ miss_by row a 0 = least_miss 0 (omega (arith, good.radii_from)) in
          let nothing : radius_at row 0 * step_of row ≡ 0 = ap (λ (k : ℕ). k * step_of row) good.first_radius ∙ zero-mul (step_of row) in
          let far : 0 < chosen_radius row a * step_of row = mul-pos h good.step_from in
          absurd (omega arith)
