-- Every line of the example holds by computation.
use mathlib.Core.Path.{refl}
use Rattle.counts.specs.Counts.{N, binomial, D, S, B, sum_after, range_size, range_start}
use Rattle.counts.specs.Fields.{field_total}
use Rattle.enumeration.specs.Enumerations.{selected_by}
use Rattle.tables.specs.Row.{byte_of, enumeration_of, bad_radius, bad_radii, bad_row}
use Rattle.tables.specs.Table.{row_at, places_before, rows_before}
use Rattle.layout.specs.Converting.{moved, converted}
use Rattle.layout.specs.Layout.{state_from, record_from, stored}
use Rattle.rules.specs.Taking.{bad_cell, take_cell}
use Rattle.slate.specs.Example.{Example}

pub example : Example
unfolding N binomial D S B sum_after range_size range_start field_total byte_of selected_by enumeration_of bad_radius bad_radii bad_row row_at places_before rows_before state_from record_from stored moved converted bad_cell take_cell
example =
    record {
      count_3_2 = refl;
      count_17_1 = refl;
      count_1_33 = refl;
      count_16_13 = refl;
      taken = refl;
      refused_7 = refl;
      refused_4 = refl;
      refused_8 = refl;
      refused_9 = refl;
      refused_12 = refl;
      held = refl;
      both_held = refl;
      contested = refl;
      refused_cell_by_cell = refl;
      refused_17_0 = refl;
      refused_17 = refl;
      refused_17_wide = refl;
      taken_book_1 = refl;
      held_book_1 = refl;
      refused_book_1 = refl;
      refused_books_3 = refl;
      converted = refl;
      converted_4 = refl;
      converted_4_page = refl;
      converted_7 = refl;
      converted_17 = refl;
    }
