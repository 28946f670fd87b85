-- Every line of the example holds by computation.
use mathlib.Core.Path.{refl}
use Rattle.layout.specs.Layout.{state_from, record_from, stored, book_at}
use Rattle.layout.specs.Converting.{moved, converted}
use Rattle.layout.specs.Example.{Example}

pub example : Example
unfolding state_from record_from stored book_at moved converted
example = record {
  two_cells = refl;
  shorter = refl;
  right = refl;
  longer = refl;
  first = refl;
  second = refl;
  first_set = refl;
  second_set = refl;
  first_in = refl;
  second_in = refl;
  second_set_in = refl;
  to_states_first = refl;
  to_cell_by_cell = refl;
  another_length = refl;
  six_cells = refl;
  in_book_0 = refl;
  in_book_1 = refl;
  book_0 = refl;
  book_1 = refl;
  no_book = refl;
  empty_page_lem = refl;
  empty_cell_lem = refl;
}
