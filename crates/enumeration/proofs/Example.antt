-- The enumeration in small holds by computation.
use mathlib.Core.Path.{refl}
use Rattle.counts.specs.Counts.{binomial, D, S, B, sum_after, range_size, range_start}
use Rattle.enumeration.specs.Example.{Example}
use Rattle.enumeration.specs.Product.{pattern_index, shape_offset, shape_index, sign_index, index_from, product_index}
use Rattle.enumeration.specs.Among.{first_among, left_among}
use Rattle.enumeration.specs.Reading.{range_from, range_of, pattern_of, shape_of, signs_of, point_from, point_within, product_point}

pub example : Example
unfolding binomial D S B sum_after range_size range_start pattern_index shape_offset shape_index sign_index index_from product_index range_from range_of pattern_of first_among left_among shape_of signs_of point_from point_within product_point
example =
    record {
      patterns_read = refl;
      patterns_indexed = refl;
      shapes_read = refl;
      shapes_indexed = refl;
      signs_indexed = refl;
      signs_read = refl;
      read = refl;
      indexed = refl;
      index_18 = refl;
      index_90 = refl;
      index_133 = refl;
      index_202 = refl;
      index_317 = refl;
      index_355 = refl;
      point_133 = refl;
      point_317 = refl;
      index_none = refl;
      point_none = refl;
      turned = refl;
    }
