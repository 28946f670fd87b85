-- The product-product enumeration in small, and what a selector selects, hold by computation.
use mathlib.Core.Path.{refl}
use Rattle.counts.specs.Counts.{N, binomial, D, S, B, sum_after, range_size, range_start}
use Rattle.counts.specs.Fields.{bit_field, field_total}
use Rattle.counts.specs.Width.{width, bits_from}
use Rattle.enumeration.specs.Among.{first_among, left_among}
use Rattle.enumeration.specs.Enumerations.{selected_by}
use Rattle.enumeration.specs.Magnitude.{offset, magnitude_index, first_nonzero, first_value, magnitude_point}
use Rattle.enumeration.specs.SelectedExample.{SelectedExample}
use Rattle.enumeration.specs.Product.{pattern_index, shape_offset, shape_index, sign_index, index_from, product_index}
use Rattle.enumeration.specs.Reading.{range_from, range_of, pattern_of, shape_of, signs_of, point_from, point_within, product_point, names_within, product_names}

pub selected_example : SelectedExample
unfolding N width bits_from bit_field field_total names_within product_names binomial D S B sum_after range_size range_start pattern_index shape_offset shape_index sign_index index_from product_index range_from range_of pattern_of shape_of signs_of point_from point_within product_point first_among left_among selected_by offset magnitude_index first_nonzero first_value magnitude_point
selected_example =
    record {
      total_2_4 = refl;
      named = refl;
      read_two = refl;
      read_one = refl;
      indexed_two = refl;
      indexed_one = refl;
      total_4_5 = refl;
      index_18 = refl;
      index_90 = refl;
      index_149 = refl;
      index_381 = refl;
      index_419 = refl;
      point_149 = refl;
      point_381 = refl;
      total_none = refl;
      named_none = refl;
      index_none = refl;
      point_none = refl;
      total_exact = refl;
      named_exact = refl;
      point_exact = refl;
      selector_0 = refl;
      selector_1 = refl;
      selector_2 = refl;
      selects_some = refl;
      selects_none_lem = refl;
      signs_lowest_0 = refl;
      signs_elsewhere = refl;
      signs_lowest_2 = refl;
    }
