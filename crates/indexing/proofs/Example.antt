-- The order of the checks holds by computation.
use mathlib.Core.Path.{refl}
use Rattle.counts.specs.Counts.{N, binomial, D, S, B, sum_after, range_size, range_start}
use Rattle.counts.specs.Fields.{bit_field, field_total}
use Rattle.counts.specs.Width.{width, bits_from}
use Rattle.counts.specs.Distance.{distance}
use Rattle.enumeration.specs.Enumerations.{selected_by}
use Rattle.enumeration.specs.Magnitude.{offset, magnitude_index}
use Rattle.enumeration.specs.Product.{pattern_index, shape_offset, shape_index, sign_index, index_from, product_index}
use Rattle.enumeration.specs.Reading.{range_from, range_of, names_within, product_names}
use Rattle.indexing.specs.Example.{Example}

pub example : Example
unfolding N binomial D S B sum_after range_size range_start width bits_from bit_field field_total distance selected_by offset magnitude_index pattern_index shape_offset shape_index sign_index index_from product_index range_from range_of names_within product_names
example =
    record {
      index_20 = refl;
      index_1 = refl;
      index_2 = refl;
      index_3 = refl;
      index_4 = refl;
      index_5 = refl;
      indexed = refl;
      indexed_by_1 = refl;
      indexed_by_2 = refl;
      index_3_of_2 = refl;
      index_4_of_1 = refl;
      point_20 = refl;
      point_1 = refl;
      point_2 = refl;
      point_3 = refl;
      point_4 = refl;
      point_6 = refl;
      point_6_at_end = refl;
      point_6_of_2 = refl;
      point_15 = refl;
      point_4_of_2 = refl;
      pointed = refl;
      pointed_by_2 = refl;
      kept = refl;
      kept_empty = refl;
    }
