-- Every line of the example holds by computation.
use mathlib.Core.Path.{refl}
use Rattle.counts.specs.Counts.{N, binomial, D, S, B, sum_after, range_size, range_start}
use Rattle.counts.specs.Fields.{field_total}
use Rattle.floats.specs.Units.{of_pattern, units_of, unusable_coefficient, negative}
use Rattle.enumeration.specs.Enumerations.{selected_by}
use Rattle.tables.specs.Row.{byte_of, enumeration_of, bad_radius, bad_radii, bad_row}
use Rattle.tables.specs.Table.{row_at, places_before, rows_before}
use Rattle.buffers.specs.Joined.{joined}
use Rattle.wording.specs.Text.{decimal, digits_of}
use Rattle.runs.specs.File.{each_four}
use Rattle.runs.specs.Run.{coordinates_before}
use lib.Ieee.{of_bits, of_fields, odd, to_bits, lt}
use Rattle.sender.specs.Example.{Example}

pub example : Example
unfolding N binomial D S B sum_after range_size range_start field_total byte_of selected_by enumeration_of bad_radius bad_radii bad_row row_at places_before rows_before of_pattern units_of unusable_coefficient negative to_bits lt of_bits of_fields odd joined coordinates_before decimal digits_of each_four
example =
    record {
      sent = refl;
      too_short = refl;
      last_cut = refl;
      place_named_lem = refl;
      no_table = refl;
    }
