-- The magnitude enumeration in small holds by computation.
use mathlib.Core.Path.{refl}
use Rattle.counts.specs.Counts.{N, sum_after}
use Rattle.enumeration.specs.Among.{first_among, left_among}
use Rattle.enumeration.specs.Magnitude.{offset, offset_sum, magnitude_index, first_nonzero, first_value, magnitude_point}
use Rattle.enumeration.specs.MagnitudeExample.{MagnitudeExample}

pub magnitude_example : MagnitudeExample
unfolding N sum_after first_among left_among offset offset_sum magnitude_index first_nonzero first_value magnitude_point
magnitude_example =
    record {
      read = refl;
      indexed = refl;
      index_9 = refl;
      offsets = refl;
      offset_sums = refl;
      index_126 = refl;
      index_179 = refl;
      index_331 = refl;
      point_179 = refl;
      point_331 = refl;
      index_none = refl;
      point_none = refl;
    }
