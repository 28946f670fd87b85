-- Every line of the example of several books holds by computation.
use mathlib.Core.Path.{refl}
use lib.Ieee.{to_bits, round}
use Rattle.counts.specs.Counts.{N, binomial, D, S, B, sum_after, range_size, range_start}
use Rattle.counts.specs.Fields.{bit_field, field_total}
use Rattle.counts.specs.Distance.{distance}
use Rattle.counts.specs.Width.{width, bits_from}
use Rattle.enumeration.specs.Product.{pattern_index, shape_offset, shape_index, sign_index, index_from, product_index}
use Rattle.enumeration.specs.Among.{first_among, left_among}
use Rattle.enumeration.specs.Reading.{range_from, range_of, pattern_of, shape_of, signs_of, point_from, point_within, product_point, names_within, product_names}
use Rattle.floats.specs.Exact.{over256}
use Rattle.enumeration.specs.Enumerations.{selected_by}
use Rattle.tables.specs.Row.{byte_of, enumeration_of, bad_radius, bad_radii, bad_row}
use Rattle.tables.specs.Table.{row_at, places_before, rows_before}
use Rattle.layout.specs.Layout.{state_from, record_from, stored}
use Rattle.rules.specs.Taking.{claims, bad_cell, take_cell, refusals, arrive, after, parts_from}
use Rattle.rules.specs.Judging.{judge_codeword, judge_record, judge}
use Rattle.rules.specs.Tallying.{count_of}
use Rattle.rules.specs.BooksExample.{BooksExample}

pub books_example : BooksExample
unfolding to_bits round N binomial D S B sum_after range_size range_start bit_field field_total distance width bits_from pattern_index shape_offset shape_index sign_index index_from product_index range_from range_of pattern_of first_among left_among shape_of signs_of point_from point_within product_point names_within product_names over256 byte_of selected_by enumeration_of bad_radius bad_radii bad_row row_at places_before rows_before state_from record_from stored claims bad_cell take_cell refusals arrive after parts_from judge_codeword judge_record judge count_of
books_example =
    record {
      claims_book = refl;
      claims_other_book = refl;
      claims_no_book = refl;
      claims_last_book = refl;
      taken = refl;
      one_book_alone = refl;
      disputed = refl;
      bad_book_above = refl;
      bad_book_below = refl;
      own_book = refl;
      take_17 = refl;
      take_17_none = refl;
      take_16 = refl;
      take_7 = refl;
      take_4_one_book = refl;
      take_4_two_books = refl;
      take_8_book = refl;
      take_8_place = refl;
      take_12_book = refl;
      take_beside_it = refl;
      read_book_1 = refl;
      read_book_0 = refl;
      read_missing = refl;
      read_16 = refl;
      read_17 = refl;
      read_17_none = refl;
      read_7 = refl;
      read_8 = refl;
      read_8_leaves = refl;
      read_4 = refl;
      read_12 = refl;
      coefficient_book_1 = refl;
      coefficient_16 = refl;
      coefficient_17 = refl;
      coefficient_8 = refl;
      coefficient_12 = refl;
      tally_book_0 = refl;
      tally_book_1 = refl;
      tally_beside = refl;
      tally_before = refl;
      tally_12 = refl;
      tally_16 = refl;
      tally_17 = refl;
      tally_7 = refl;
      tally_8 = refl;
      tally_4 = refl;
    }
