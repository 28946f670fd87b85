-- Every line of the table of single values holds by computation.
use mathlib.Core.Path.{refl}
use Rattle.counts.specs.Counts.{N, binomial, D, S, B, sum_after, range_size, range_start}
use Rattle.counts.specs.Fields.{bit_field, field_total}
use Rattle.counts.specs.Distance.{distance}
use Rattle.counts.specs.Width.{width, bits_from}
use Rattle.enumeration.specs.Product.{pattern_index, shape_offset, shape_index, sign_index, index_from, product_index}
use Rattle.enumeration.specs.Among.{first_among, left_among}
use Rattle.enumeration.specs.Enumerations.{selected_by}
use Rattle.enumeration.specs.Magnitude.{offset, magnitude_index, first_nonzero, first_value, magnitude_point}
use Rattle.enumeration.specs.Reading.{range_from, range_of, pattern_of, shape_of, signs_of, point_from, point_within, product_point, names_within, product_names}
use Rattle.floats.specs.Units.{of_pattern, units_of, unusable_coefficient, negative}
use Rattle.floats.specs.Nearest.{nearest_whole}
use Rattle.tables.specs.Row.{byte_of, enumeration_of, bad_radius, bad_radii, bad_row}
use Rattle.tables.specs.Table.{row_at, places_before, rows_before}
use Rattle.shares.specs.Best.{first_best}
use Rattle.coefficients.specs.Radius.{chosen_radius_number}
use Rattle.shares.specs.Shares.{largest, give, shared}
use Rattle.sharing.specs.Nearest.{sum_of_squares}
use Rattle.records.specs.Record.{record_of}
use Rattle.rules.specs.Judging.{judge_codeword, judge_record, judge}
use lib.Ieee.{to_bits, lt}
use Rattle.starred.specs.Table.{Table}

pub proved : Table
unfolding N binomial D S B sum_after range_size range_start bit_field field_total distance width bits_from pattern_index shape_offset shape_index sign_index index_from product_index range_from range_of pattern_of first_among left_among shape_of signs_of point_from point_within product_point names_within product_names offset magnitude_index first_nonzero first_value magnitude_point byte_of selected_by enumeration_of bad_radius bad_radii bad_row row_at places_before rows_before of_pattern units_of unusable_coefficient negative nearest_whole to_bits lt first_best chosen_radius_number largest give shared sum_of_squares record_of judge_codeword judge_record judge
proved =
    record {
      star_index_0 = refl;
      star_index_5 = refl;
      star_index_11 = refl;
      star_index_12 = refl;
      star_index_17 = refl;
      star_point_18 = refl;
      star_point_20 = refl;
      buffer_kept = refl;
      star_magnitude_9 = refl;
      magnitude_point_9 = refl;
      magnitude_point_18 = refl;
      magnitude_point_20 = refl;
      star_bits_total = refl;
      star_bits_width = refl;
      star_bits_12_to_15 = refl;
      star_bits_28 = refl;
      plain_bits_28 = refl;
      plain_bits_12 = refl;
      bits_27 = refl;
      bits_16 = refl;
      bits_index_16 = refl;
      bits_point_11 = refl;
      bits_point_12 = refl;
      bits_point_28 = refl;
      point_17 = refl;
      index_3 = refl;
      index_4_short = refl;
      index_4_long = refl;
      index_5_less = refl;
      index_5_more = refl;
      point_3 = refl;
      point_4_short = refl;
      point_4_long = refl;
      point_6_0 = refl;
      star_index_2_3_0 = refl;
      star_index_2_3_5 = refl;
      star_index_2_3_11 = refl;
      star_index_1_5 = refl;
      star_bit_1 = refl;
      star_point_7 = refl;
      lowest = refl;
      star_count_4_0 = refl;
      star_width_4_0 = refl;
      index_4_0 = refl;
      point_4_0 = refl;
      count_2_3 = refl;
      count_3_2 = refl;
      says_1_32 = refl;
      says_16_12 = refl;
      count_16_13 = refl;
      says_16_13 = refl;
      says_0_1 = refl;
      says_17_1 = refl;
      says_16_33 = refl;
      says_0_33 = refl;
      says_beyond = refl;
      star_quantized = refl;
      wholes = refl;
      squares_nearest = refl;
      squares_farther = refl;
      says_written = refl;
      record_0 = refl;
      record_1 = refl;
      record_kept = refl;
      record_magnitude = refl;
      record_row_1 = refl;
      quantize_7 = refl;
      quantize_8 = refl;
      quantize_17 = refl;
      quantize_7_first = refl;
      quantize_8_book = refl;
      record_book_9 = refl;
      quantize_4_short = refl;
      quantize_4_long = refl;
      quantize_4_record_short = refl;
      quantize_4_record_long = refl;
      quantize_11 = refl;
      refused_kept = refl;
      star_tie = refl;
      past_the_tie = refl;
      below_half = refl;
      above_half = refl;
      radius_14 = refl;
      last_radius = refl;
      equal_remainders = refl;
    }
