-- The ranges of a shell, from s = m downward (eq. 26 and 29), whatever shape field F they have, for all lengths and
-- radii:
--     range_next, range_last     the start for s is the start for s+1 and that range's size; from m on it is 0
--     range_down                 the same from s to s-1, as a descending loop goes
--     range_multiple             O(s) is a multiple of 2^(s+1): below a range's start the signs' s bits, and one
--                                more, are 0
--     starts_down                a range with a smaller s starts no earlier
--     end_bound                  a range ends within the total
use Prim.Native.Nat.{ℕ, zero, suc, ◌+◌, ◌-◌, ◌*◌, ◌^◌, ◌≤◌, ◌<◌, ◌∣◌}
use mathlib.Core.Path.{◌≡◌, sym, ap, ◌∙◌}
use native.Mathlib.Omega.{arith}
use native.Mathlib.Decide.{le_ind}
use native.Mathlib.Nat.{le_refl, dvd_trans, dvd-mul_left, dvd-mul_right}
use lib.Pow.{pow-add}
use Rattle.counts.specs.Counts.{D, B, most_nonzero, sum_after, range_size, range_start}
use Rattle.counts.specs.Fields.{field_total}
use Rattle.counts.proofs.Sums.{sum_first, sum_multiple}

module _ (F : ℕ → ℕ → ℕ) (l k : ℕ) where
  pub range_next : (s : ℕ) → s < most_nonzero l k → range_start F s l k ≡ range_size F (suc s) l k + range_start F (suc s) l k
  unfolding range_start
  range_next s h =
      let one : most_nonzero l k - s ≡ suc (most_nonzero l k - suc s) = omega arith in
      rw one (sum_first (λ i. range_size F i l k) s (most_nonzero l k - suc s))

  pub range_last : (s : ℕ) → most_nonzero l k ≤ s → range_start F s l k ≡ 0
  unfolding range_start sum_after
  range_last s h =
      let none : most_nonzero l k - s ≡ 0 = omega arith in
      rw none

  pub range_down : (s : ℕ) → 0 < s → s ≤ most_nonzero l k → range_start F (s - 1) l k ≡ range_start F s l k + range_size F s l k
  range_down zero p h = omega arith
  range_down (suc s) p h =
      let less : suc s - 1 ≡ s = omega arith in
      rw less (omega (arith, range_next s h))

  pub range_multiple : (s : ℕ) → 2 ^ suc s ∣ range_start F s l k
  unfolding range_start range_size B
  range_multiple s = sum_multiple (2 ^ suc s) (λ i. range_size F i l k) s (most_nonzero l k - s) divides
    where
      divides : (i : ℕ) → s < i → 2 ^ suc s ∣ D i l * F i k * 2 ^ i
      divides i h =
          let whole : suc s + (i - suc s) ≡ i = omega arith in
          let apart : 2 ^ i ≡ 2 ^ suc s * 2 ^ (i - suc s) = ap (λ (x : ℕ). 2 ^ x) (sym whole) ∙ pow-add 2 (suc s) (i - suc s) in
          dvd_trans (2 ^ suc s) (rw apart (dvd-mul_right (2 ^ suc s) (2 ^ (i - suc s)))) (dvd-mul_left (2 ^ i) (D i l * F i k))

  -- a range with a smaller s starts no earlier
  pub starts_down : (s t : ℕ) → s ≤ t → t ≤ most_nonzero l k → range_start F t l k ≤ range_start F s l k
  starts_down s t h q = le_ind (λ (u : ℕ). u ≤ most_nonzero l k → range_start F u l k ≤ range_start F s l k) (λ p. le_refl (range_start F s l k)) down t h q
    where
      down : (u : ℕ) → s ≤ u → (u ≤ most_nonzero l k → range_start F u l k ≤ range_start F s l k) → suc u ≤ most_nonzero l k
          → range_start F (suc u) l k ≤ range_start F s l k
      down u p e r = omega (arith, e (omega arith), range_next u r)

-- a range from 1 on ends within the total
pub end_bound : (F : ℕ → ℕ → ℕ) (l k s : ℕ) → 0 < s → s ≤ most_nonzero l k → range_start F s l k + range_size F s l k ≤ field_total F l k
unfolding field_total
end_bound F l zero s p h = absurd (omega arith)
end_bound F l (suc k) s p h = omega (arith, range_down F l (suc k) s p h, starts_down F l (suc k) 0 (s - 1) (omega arith) (omega arith))
