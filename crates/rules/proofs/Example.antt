-- Every line of the example holds by computation.
use mathlib.Core.Path.{refl}
use lib.Ieee.{to_bits, round}
use Rattle.counts.specs.Counts.{N, binomial, D, S, B, sum_after, range_size, range_start}
use Rattle.counts.specs.Fields.{bit_field, field_total}
use Rattle.counts.specs.Distance.{distance}
use Rattle.counts.specs.Width.{width, bits_from}
use Rattle.enumeration.specs.Product.{pattern_index, shape_offset, shape_index, sign_index, index_from, product_index}
use Rattle.enumeration.specs.Among.{first_among, left_among}
use Rattle.enumeration.specs.Reading.{range_from, range_of, pattern_of, shape_of, signs_of, point_from, point_within, product_point, names_within, product_names}
use Rattle.floats.specs.Exact.{over256}
use Rattle.enumeration.specs.Enumerations.{selected_by}
use Rattle.tables.specs.Row.{byte_of, enumeration_of, bad_radius, bad_radii, bad_row}
use Rattle.tables.specs.Table.{row_at, places_before, rows_before}
use Rattle.layout.specs.Layout.{state_from, record_from, stored}
use Rattle.rules.specs.Taking.{claims, bad_cell, take_cell, refusals, arrive, after, parts_from}
use Rattle.rules.specs.Judging.{judge_codeword, judge_record, judge}
use Rattle.rules.specs.Tallying.{count_of}
use Rattle.rules.specs.Example.{Example}

pub example : Example
unfolding to_bits round N binomial D S B sum_after range_size range_start bit_field field_total distance width bits_from pattern_index shape_offset shape_index sign_index index_from product_index range_from range_of pattern_of first_among left_among shape_of signs_of point_from point_within product_point names_within product_names over256 byte_of selected_by enumeration_of bad_radius bad_radii bad_row row_at places_before rows_before state_from record_from stored claims bad_cell take_cell refusals arrive after parts_from judge_codeword judge_record judge count_of
example =
    record {
      empty_page_lem = refl;
      taken_whole = refl;
      taken = refl;
      taken_1_byte = refl;
      claims_own = refl;
      claims_other_fields = refl;
      claims_row_above = refl;
      claims_last_of_row = refl;
      claims_row_of_next = refl;
      claims_first_of_row = refl;
      claims_row_before = refl;
      claims_another = refl;
      claims_short = refl;
      claims_long = refl;
      claims_beyond = refl;
      again = refl;
      differs = refl;
      contested_stays = refl;
      garbage = refl;
      garbage_says = refl;
      garbage_stays = refl;
      garbage_taken = refl;
      bad_state = refl;
      bad_place = refl;
      bad_row_lem = refl;
      own_place = refl;
      own_row = refl;
      not_held = refl;
      other_fields = refl;
      each_row = refl;
      foreign = refl;
      foreign_beside = refl;
      sound_says_lem = refl;
      sound_leaves = refl;
      mended_says_lem = refl;
      mended_leaves = refl;
      past_says_lem = refl;
      past_leaves = refl;
      missing_says = refl;
      missing_leaves = refl;
      contested_says = refl;
      contested_leaves = refl;
      unreadable_says = refl;
      unreadable_leaves = refl;
      garbage_missing = refl;
      garbage_contested = refl;
      codeword_17 = refl;
      codeword_18 = refl;
      codeword_20 = refl;
      codeword_31 = refl;
      codeword_32 = refl;
      codeword_0_0 = refl;
      codeword_0_1 = refl;
      bits_sound = refl;
      bits_empty = refl;
      bits_mended = refl;
      bits_mended_empty = refl;
      bits_wide = refl;
      bits_radius_0 = refl;
      product_says = refl;
      product_leaves = refl;
      empty_says_lem = refl;
      empty_leaves = refl;
      coefficient_empty = refl;
      empty_carries = refl;
      tallied_empty = refl;
      field_sound = refl;
      field_mended = refl;
      field_missing = refl;
      field_contested = refl;
      field_unreadable = refl;
      reason_10 = refl;
      any_row = refl;
      coefficient_sound = refl;
      values_0 = refl;
      values_1 = refl;
      values_2 = refl;
      coefficient_mended = refl;
      coefficient_past = refl;
      scaled_0 = refl;
      scaled_1 = refl;
      scaled_2 = refl;
      coefficient_missing = refl;
      missing_carries = refl;
      coefficient_contested = refl;
      contested_carries = refl;
      coefficient_unreadable = refl;
      unreadable_carries = refl;
      tallied = refl;
      tallied_mixed = refl;
      take_7 = refl;
      take_4_short = refl;
      take_4_long = refl;
      take_4_page_short = refl;
      take_4_page_long = refl;
      take_8 = refl;
      take_8_high = refl;
      take_4_then_9 = refl;
      take_8_any_row = refl;
      take_9_above = refl;
      take_9_below = refl;
      take_9_high = refl;
      take_9_then_12 = refl;
      take_last_of_row = refl;
      take_first_of_row = refl;
      take_12_higher = refl;
      take_12_lower = refl;
      take_12_high = refl;
      take_12_row_above = refl;
      take_12_row_below = refl;
      take_12_state = refl;
      take_beside_it = refl;
      read_7 = refl;
      read_8 = refl;
      read_8_first = refl;
      read_4_page_short = refl;
      read_4_page_long = refl;
      read_4_short = refl;
      read_4_long = refl;
      read_12 = refl;
      read_12_row_above = refl;
      read_12_row_below = refl;
      read_each_row = refl;
      read_12_leaves = refl;
      coefficient_7 = refl;
      coefficient_8 = refl;
      coefficient_4 = refl;
      coefficient_13 = refl;
      coefficient_13_missing = refl;
      coefficient_12 = refl;
      coefficient_12_row = refl;
      refused_carries = refl;
      tally_7 = refl;
      tally_4 = refl;
      tally_4_long = refl;
      tally_12 = refl;
      tally_12_row_above = refl;
      tally_12_row_below = refl;
      tally_each_row = refl;
      tally_12_lowest = refl;
    }
