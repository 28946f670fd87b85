-- Every line of the example holds by computation.
use mathlib.Core.Path.{refl}
use Rattle.counts.specs.Counts.{N, binomial, D, S, B, sum_after, range_size, range_start}
use Rattle.counts.specs.Fields.{bit_field, field_total}
use Rattle.counts.specs.Width.{width, bits_from}
use Rattle.enumeration.specs.Enumerations.{selected_by}
use Rattle.tables.specs.Row.{byte_of, enumeration_of, bad_radius, bad_radii, bad_row}
use Rattle.tables.specs.Table.{row_at, places_before, rows_before}
use Rattle.tables.specs.Example.{Example}

pub example : Example
unfolding N binomial D S B sum_after range_size range_start width bits_from bit_field field_total byte_of selected_by enumeration_of bad_radius bad_radii bad_row row_at places_before rows_before
example =
    record {
      length_0 = refl;
      length_1 = refl;
      radii_0 = refl;
      radii_1 = refl;
      radius_0_1 = refl;
      radius_1_0 = refl;
      radius_1_2 = refl;
      radius_1_7 = refl;
      step_0 = refl;
      step_1 = refl;
      places_1 = refl;
      selector_0 = refl;
      selector_1 = refl;
      first_row = refl;
      second_row = refl;
      no_row = refl;
      good_0 = refl;
      good_1 = refl;
      no_step = refl;
      no_places_lem = refl;
      step_of_1 = refl;
      one_place = refl;
      length_of_1 = refl;
      one_radius = refl;
      no_length = refl;
      length_17 = refl;
      no_radii = refl;
      nine_radii = refl;
      first_radius_1 = refl;
      equal_radii = refl;
      last_equal = refl;
      radius_33 = refl;
      past_largest = refl;
      at_largest = refl;
      unused_radius = refl;
      byte_14_of_1 = refl;
      byte_14_of_2 = refl;
      byte_14_of_3 = refl;
      byte_15 = refl;
      byte_15_behind_1 = refl;
      lost_9_27 = refl;
      lost_10_22 = refl;
      lost_13_15 = refl;
      lost_16_12 = refl;
      most_points_lem = refl;
      too_many_lem = refl;
      shell_1 = refl;
      shell_2 = refl;
      shell_3 = refl;
      shell_0 = refl;
      length_first = refl;
      whole_case_lem = refl;
      two_rows_lem = refl;
      row_alone = refl;
      row_of_1 = refl;
      row_of_2 = refl;
      row_of_261 = refl;
      length_at_1 = refl;
      length_at_2 = refl;
      enumeration_at_1 = refl;
      enumeration_at_2 = refl;
      place_261 = refl;
      place_262 = refl;
      none = refl;
      half_more = refl;
      one_along = refl;
      two_bad = refl;
      at_the_limit = refl;
      past_the_limit = refl;
      past_at_row_1 = refl;
      rows_32 = refl;
      rows_33 = refl;
      rows_cut = refl;
      books_0 = refl;
      books_1 = refl;
      books_16 = refl;
      books_17 = refl;
      books_wide = refl;
      books_first = refl;
      book_1 = refl;
      book_2 = refl;
      book_after_table = refl;
      in_book_lem = refl;
      in_no_book = refl;
      in_no_place = refl;
    }
