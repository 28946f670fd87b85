-- Every line of the example of layouts holds by computation.
use mathlib.Core.Path.{refl}
use Rattle.counts.specs.Counts.{N, binomial, D, S, B, sum_after, range_size, range_start}
use Rattle.counts.specs.Fields.{bit_field, field_total}
use Rattle.counts.specs.Distance.{distance}
use Rattle.counts.specs.Width.{width, bits_from}
use Rattle.enumeration.specs.Among.{first_among, left_among}
use Rattle.enumeration.specs.Reading.{range_from, range_of, pattern_of, shape_of, signs_of, point_from, point_within, product_point, names_within, product_names}
use Rattle.enumeration.specs.Enumerations.{selected_by}
use Rattle.tables.specs.Row.{byte_of, enumeration_of, bad_radius, bad_radii, bad_row}
use Rattle.tables.specs.Table.{row_at, places_before, rows_before}
use Rattle.layout.specs.Converting.{moved, converted}
use Rattle.layout.specs.Layout.{state_from, record_from, stored}
use Rattle.rules.specs.Taking.{bad_cell, take_cell, refusals, arrive, after, parts_from}
use Rattle.rules.specs.Judging.{judge_codeword, judge_record, judge}
use Rattle.rules.specs.Tallying.{count_of}
use Rattle.rules.specs.LayoutsExample.{LayoutsExample}

pub layouts_example : LayoutsExample
unfolding N binomial D S B sum_after range_size range_start bit_field field_total distance width bits_from range_from range_of pattern_of first_among left_among shape_of signs_of point_from point_within product_point names_within product_names byte_of selected_by enumeration_of bad_radius bad_radii bad_row row_at places_before rows_before state_from record_from stored moved converted bad_cell take_cell refusals arrive after parts_from judge_codeword judge_record judge count_of
layouts_example =
    record {
      kept = refl;
      back = refl;
      kept_two = refl;
      back_two = refl;
      says_0 = refl;
      says_17 = refl;
      says_17_none = refl;
      says_7 = refl;
      says_4 = refl;
      says_4_longer = refl;
      says_4_other = refl;
      says_4_books = refl;
      leaves_4 = refl;
      leaves_4_other = refl;
      as_cells_lem = refl;
      as_kept_lem = refl;
      as_cells_already = refl;
      another_length = refl;
      taken = refl;
      disputed = refl;
      take_12 = refl;
      take_4 = refl;
      read_book_1 = refl;
      tally_book_1 = refl;
    }
