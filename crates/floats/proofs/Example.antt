-- Every line of the example holds by computation.
use mathlib.Core.Path.{refl}
use lib.Ieee.{to_bits, round, lt}
use Rattle.floats.specs.Units.{of_pattern, units_of, unusable_coefficient, negative}
use Rattle.floats.specs.Nearest.{nearest_whole}
use Rattle.floats.specs.Exact.{over256}
use Rattle.floats.specs.Example.{Example}

pub example : Example
unfolding of_pattern units_of unusable_coefficient negative nearest_whole over256 to_bits round lt
example =
    record {
      whole_1 = refl;
      whole_3 = refl;
      whole_5 = refl;
      whole_largest = refl;
      largest_usable = refl;
      limit_refused = refl;
      negative_limit_refused = refl;
      nan_refused = refl;
      infinity_refused = refl;
      negative_infinity_refused = refl;
      below_zero = refl;
      above_zero = refl;
      zero_not_below = refl;
      negative_zero_not_below = refl;
      zero = refl;
      negative_zero = refl;
      one = refl;
      smallest = refl;
      smallest_becomes = refl;
      over_775 = refl;
      over_negative = refl;
      over_zero = refl;
      over_largest = refl;
    }
