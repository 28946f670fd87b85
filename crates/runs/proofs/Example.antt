-- Every line of the example holds by computation.
use mathlib.Core.Path.{refl}
use Rattle.counts.specs.Counts.{N, binomial, D, S, B, sum_after, range_size, range_start}
use Rattle.counts.specs.Fields.{field_total}
use Rattle.enumeration.specs.Product.{pattern_index, shape_offset, shape_index, sign_index, index_from, product_index}
use Rattle.floats.specs.Units.{of_pattern, units_of, unusable_coefficient, negative}
use Rattle.floats.specs.Nearest.{nearest_whole}
use Rattle.enumeration.specs.Enumerations.{selected_by}
use Rattle.tables.specs.Row.{byte_of, enumeration_of, bad_radius, bad_radii, bad_row}
use Rattle.tables.specs.Table.{row_at, places_before, rows_before}
use Rattle.shares.specs.Best.{first_best}
use Rattle.coefficients.specs.Radius.{chosen_radius_number}
use Rattle.shares.specs.Shares.{largest, give, shared}
use Rattle.records.specs.Record.{record_of}
use Rattle.buffers.specs.Joined.{joined}
use lib.Ieee.{to_bits, lt, of_bits, of_fields, odd}
use Rattle.runs.specs.File.{each_four}
use Rattle.runs.specs.Run.{coordinates_before}
use Rattle.runs.specs.Example.{Example}

pub example : Example
unfolding N binomial D S B sum_after range_size range_start field_total pattern_index shape_offset shape_index sign_index index_from product_index byte_of selected_by enumeration_of bad_radius bad_radii bad_row row_at places_before rows_before of_pattern units_of unusable_coefficient negative nearest_whole to_bits lt first_best chosen_radius_number largest give shared record_of joined coordinates_before each_four of_bits of_fields odd
example =
    record {
      before_0 = refl;
      before_1 = refl;
      before_2 = refl;
      in_all = refl;
      first_vector = refl;
      second_vector = refl;
      last_vector = refl;
      says = refl;
      leaves_all = refl;
      book_9_says = refl;
      book_9_leaves = refl;
      no_books = refl;
      books_17 = refl;
      table_first = refl;
      no_book = refl;
      no_book_leaves = refl;
      bad_row_lem = refl;
      run_short = refl;
      run_long = refl;
      buffer_short = refl;
      buffer_long = refl;
      no_buffer = refl;
      lowest = refl;
      last_place = refl;
      kept = refl;
      three_read = refl;
      unusable_read = refl;
      none_read = refl;
      cut_off = refl;
      byte_more = refl;
    }
