-- Every line of the example holds by computation.
use mathlib.Core.Path.{refl}
use Rattle.records.specs.Record.{record_of}
use Rattle.records.specs.Example.{Example}

pub example : Example
unfolding record_of
example =
    record {
      written = refl;
      book = refl;
      place = refl;
      row = refl;
      number = refl;
      codeword = refl;
      book_9 = refl;
      book_of_9 = refl;
      place_of_9 = refl;
      next_book = refl;
      book_of_next = refl;
      place_of_next = refl;
      book_of_last = refl;
      place_of_last = refl;
      short = refl;
      right = refl;
      long = refl;
      same = refl;
      first_differs = refl;
      last_differs = refl;
      cut = refl;
    }
