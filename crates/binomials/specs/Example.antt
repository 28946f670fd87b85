-- The product form in small numbers, and the largest numbers on the way. proofs/Example.antt computes every line.
use Rattle.std.specs.Prelude.{◌*◌, ◌≡◌}
use Rattle.counts.specs.Counts.{binomial}
use Rattle.binomials.specs.ProductForm.{falling, factorial, largest_product, largest_step, largest_last}

pub record Example : Type 0 where
  -- 7 x 6 x 5 over 1 x 2 x 3: binomial(7,3) is 35
  pub factors_7_3 : falling 7 3 ≡ 210
  pub factorial_3 : factorial 3 ≡ 6
  -- no factor, and one too many: 2 x 1 x 0
  pub factors_7_0 : falling 7 0 ≡ 1
  pub factorial_0 : factorial 0 ≡ 1
  pub factors_2_3 : falling 2 3 ≡ 0
  -- the largest numbers are met: on the way to binomial(31,6), and on that to binomial(31,15)
  pub product_met : falling 31 6 ≡ largest_product
  pub step_met : binomial 31 13 * 18 ≡ largest_step
  pub last_met : binomial 31 14 * 17 ≡ largest_last
