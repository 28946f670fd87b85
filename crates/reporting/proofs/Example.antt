-- Every line of the example holds by computation.
use mathlib.Core.Path.{refl}
use Rattle.counts.specs.Counts.{N, binomial, D, S, B, sum_after, range_size, range_start}
use Rattle.counts.specs.Fields.{field_total}
use Rattle.counts.specs.Distance.{distance}
use Rattle.counts.specs.Width.{width, bits_from}
use Rattle.enumeration.specs.Among.{first_among, left_among}
use Rattle.enumeration.specs.Reading.{range_from, range_of, pattern_of, shape_of, signs_of, point_from, point_within, product_point, names_within, product_names}
use Rattle.enumeration.specs.Enumerations.{selected_by}
use Rattle.tables.specs.Row.{byte_of, enumeration_of, bad_radius, bad_radii, bad_row}
use Rattle.tables.specs.Table.{row_at, places_before, rows_before}
use Rattle.layout.specs.Layout.{state_from, record_from, stored}
use Rattle.rules.specs.Taking.{bad_cell, take_cell, refusals, arrive, after, parts_from}
use Rattle.rules.specs.Judging.{judge_codeword, judge_record, judge}
use Rattle.rules.specs.Tallying.{count_of}
use Rattle.wording.specs.Text.{decimal, digits_of}
use Rattle.buffers.specs.Joined.{joined}
use Rattle.reporting.specs.Example.{Example}

pub example : Example
unfolding N binomial D S B sum_after range_size range_start field_total distance width bits_from range_from range_of pattern_of first_among left_among shape_of signs_of point_from point_within product_point names_within product_names byte_of selected_by enumeration_of bad_radius bad_radii bad_row row_at places_before rows_before state_from record_from stored bad_cell take_cell refusals arrive after parts_from judge_codeword judge_record judge count_of decimal digits_of joined
example =
    record {
      whole_case_lem = refl;
      past_end_lem = refl;
      no_records = refl;
      damaged = refl;
      foreign_row = refl;
      bad_table_lem = refl;
      no_table = refl;
      two_lines = refl;
      one_line = refl;
      last_place = refl;
      line_left = refl;
      plain_line = refl;
      plain_sound = refl;
      book_lines = refl;
      book_12 = refl;
      lines_17 = refl;
      lines_16_first = refl;
      lines_8_book = refl;
      other_book = refl;
      lines_16 = refl;
      lines_16_leaves = refl;
      lines_7 = refl;
      lines_8 = refl;
      lines_4_page = refl;
      lines_4_room = refl;
      lines_12 = refl;
      lines_12_row = refl;
      lines_past_12 = refl;
      refused_leaves = refl;
      two_printed = refl;
      last_line_lem = refl;
      line_says_lem = refl;
      line_leaves_lem = refl;
      line_4 = refl;
      line_4_leaves = refl;
    }
