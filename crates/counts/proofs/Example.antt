-- Every line of the example holds by computation.
use mathlib.Core.Path.{refl}
use Rattle.counts.specs.Counts.{N, binomial, D, S, B, sum_after, range_size, range_start}
use Rattle.counts.specs.Width.{width, bits_from}
use Rattle.counts.specs.Distance.{distance}
use Rattle.counts.specs.Fields.{bit_field, field_total}
use Rattle.counts.specs.Example.{Example}

pub example : Example
unfolding N binomial D S B sum_after range_size range_start width bits_from distance bit_field field_total
example =
    record {
      none_0 = refl;
      none_4 = refl;
      no_length = refl;
      points_2_3 = refl;
      points_3_2 = refl;
      points_3_4 = refl;
      binomial_5_2 = refl;
      patterns_2_5 = refl;
      patterns_5_2 = refl;
      shapes_2_5 = refl;
      shapes_3_5 = refl;
      shapes_5_3 = refl;
      shapes_0_0 = refl;
      shapes_0_3 = refl;
      shapes_3_0 = refl;
      signs_3 = refl;
      size_3 = refl;
      size_2 = refl;
      size_1 = refl;
      start_3 = refl;
      start_2 = refl;
      start_1 = refl;
      width_1 = refl;
      width_2 = refl;
      width_3 = refl;
      width_4 = refl;
      width_5 = refl;
      width_18 = refl;
      width_largest = refl;
      distance_18 = refl;
      distance_20 = refl;
      field_2_4 = refl;
      field_2_5 = refl;
      field_3_5 = refl;
      field_1_5 = refl;
      field_exact = refl;
      field_bits = refl;
      bits_size_4 = refl;
      bits_size_3 = refl;
      bits_size_2 = refl;
      bits_size_1 = refl;
      bits_start_4 = refl;
      bits_start_3 = refl;
      bits_start_2 = refl;
      bits_start_1 = refl;
      bits_total_4_6 = refl;
      total_4_6 = refl;
      total_2_4 = refl;
      bits_total_2_4 = refl;
      total_2_0 = refl;
      bits_total_2_0 = refl;
    }
