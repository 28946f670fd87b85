-- Every line of the example holds by computation.
use mathlib.Core.Path.{refl}
use Rattle.counts.specs.Counts.{binomial}
use Rattle.binomials.specs.ProductForm.{falling}
use Rattle.binomials.specs.Example.{Example}

pub example : Example
unfolding binomial falling
example =
    record {
      factors_7_3 = refl;
      factorial_3 = refl;
      factors_7_0 = refl;
      factorial_0 = refl;
      factors_2_3 = refl;
      product_met = refl;
      step_met = refl;
      last_met = refl;
    }
