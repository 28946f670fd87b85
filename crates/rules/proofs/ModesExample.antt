-- Every line of the example of both modes holds by computation.
use mathlib.Core.Path.{refl}
use lib.Ieee.{to_bits, round}
use Rattle.counts.specs.Counts.{N, binomial, D, S, B, sum_after, range_size, range_start}
use Rattle.counts.specs.Fields.{bit_field, field_total}
use Rattle.counts.specs.Distance.{distance}
use Rattle.counts.specs.Width.{width, bits_from}
use Rattle.enumeration.specs.Product.{pattern_index, shape_offset, shape_index, sign_index, index_from, product_index}
use Rattle.enumeration.specs.Among.{first_among, left_among}
use Rattle.enumeration.specs.Reading.{range_from, range_of, pattern_of, shape_of, signs_of, point_from, point_within, product_point, names_within, product_names}
use Rattle.floats.specs.Exact.{over256}
use Rattle.enumeration.specs.Enumerations.{selected_by}
use Rattle.tables.specs.Row.{byte_of, enumeration_of, bad_radius, bad_radii, bad_row}
use Rattle.tables.specs.Table.{row_at, places_before, rows_before}
use Rattle.layout.specs.Layout.{state_from, record_from, stored}
use Rattle.rules.specs.Taking.{claims, bad_cell, take_cell, refusals, arrive, after, parts_from}
use Rattle.rules.specs.Judging.{judge_codeword, judge_record, judge}
use Rattle.rules.specs.Tallying.{count_of}
use Rattle.rules.specs.ModesExample.{ModesExample}

pub modes_example : ModesExample
unfolding to_bits round N binomial D S B sum_after range_size range_start bit_field field_total distance width bits_from pattern_index shape_offset shape_index sign_index index_from product_index range_from range_of pattern_of first_among left_among shape_of signs_of point_from point_within product_point names_within product_names over256 byte_of selected_by enumeration_of bad_radius bad_radii bad_row row_at places_before rows_before state_from record_from stored claims bad_cell take_cell refusals arrive after parts_from judge_codeword judge_record judge count_of
modes_example =
    record {
      below = refl;
      past_end_lem = refl;
      too_wide_lem = refl;
      radius_0 = refl;
      radius_0_wide = refl;
      no_radius_lem = refl;
      bits_sound = refl;
      bits_empty = refl;
      bits_past_end = refl;
      bits_wide = refl;
      told_10 = refl;
      told_14 = refl;
      told_6 = refl;
      told_15 = refl;
      field_6 = refl;
      plain_sound = refl;
      plain_point = refl;
      plain_says = refl;
      plain_leaves = refl;
      plain_value_says = refl;
      plain_carries = refl;
      plain_value = refl;
      plain_contested = refl;
      plain_missing = refl;
      plain_tally = refl;
      plain_mixed = refl;
      read_16 = refl;
      read_16_leaves = refl;
      coefficient_16 = refl;
      coefficient_16_carries = refl;
      tally_16 = refl;
      tally_16_12 = refl;
      modes = refl;
      plain_7 = refl;
      plain_12 = refl;
      overflow_17 = refl;
      overflow_18 = refl;
      overflow_31 = refl;
      overflow_32 = refl;
      overflow_no_radius = refl;
      overflow_empty = refl;
      overflow_contested = refl;
    }
