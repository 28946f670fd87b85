-- A codeword past the end and below 2^b, for any total: its distance tells it; 2^(b-1) can be subtracted, and what is
-- left is below the total.
use Prim.Native.Nat.{ℕ, zero, suc, ◌+◌, ◌-◌, ◌^◌, ◌≤◌, ◌<◌}
use mathlib.Core.Path.{◌≡◌, refl}
use native.Mathlib.Omega.{arith}
use native.Mathlib.Decide.{dec_lt}
use native.Mathlib.Nat.{pow-suc, le_of_lt, lt_of_lt_of_le}
use Rattle.counts.specs.Distance.{distance}
use Rattle.counts.specs.Width.{width}
use Rattle.counts.proofs.Widths.{width_of_1, width_enough, width_tight}
use Rattle.rules.specs.Judging.{PastBy, Mends}

-- its distance tells it
pub past_by : (total n : ℕ) → n < 2 ^ width total → total ≤ n → PastBy total n (distance total n)
unfolding distance
past_by total n inside above = record { below = omega arith; received = omega arith }

-- a total above 1 has a width above 0
some_bits : (total : ℕ) → 1 < total → 1 ≤ width total
some_bits total h = go (width total) (width_enough total)
  where
    go : (b : ℕ) → total ≤ 2 ^ b → 1 ≤ b
    go zero e = absurd (omega arith)
    go (suc b) e = omega arith

module _ (total n : ℕ) (some : 0 < total) (inside : n < 2 ^ width total) (above : total ≤ n) where
  -- the total is not 1, where b is 0
  above_one : 1 < total
  above_one = go (dec_lt 1 total)
    where
      go : Dec (1 < total) → 1 < total
      go (yes h) = h
      go (no h) =
          let one : total ≡ 1 = omega arith in
          let none : n < 2 ^ width 1 = rw one at inside in
          let no_bits : 2 ^ width 1 ≡ 1 = rw width_of_1 refl in
          absurd (omega arith)

  -- so b is not 0
  pub width_from : 1 ≤ width total
  width_from = some_bits total above_one

  pub half_to : 2 ^ (width total - 1) ≤ n
  half_to = le_of_lt (lt_of_lt_of_le (width_tight total above_one) above)

  -- what is left when 2^(b-1) is subtracted is below the total
  pub mended_below : n - 2 ^ (width total - 1) < total
  mended_below = omega (arith, halves (width total) width_from, width_tight total above_one)
    where
      halves : (b : ℕ) → 1 ≤ b → 2 ^ b ≡ 2 ^ (b - 1) + 2 ^ (b - 1)
      halves zero h = absurd (omega arith)
      halves (suc b) h = let same : suc b - 1 ≡ b = omega arith in rw same (omega (arith, pow-suc 2 b))

  -- and with the distance it tells n
  pub mends : Mends total n (n - 2 ^ (width total - 1)) (distance total n)
  unfolding distance
  mends = record { past = past_by total n inside above; left = omega (arith, half_to) }
