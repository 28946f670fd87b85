-- What the functions of the call send ask of a table, a run and a lent buffer.
use Rattle.std.specs.Prelude.{ℕ, ◌+◌, ◌*◌, ◌≤◌, ◌<◌, List, ◌≡◌, Float, length}
use Rattle.tables.specs.BookNumbers.{most_books}
use Rattle.tables.specs.Row.{length_of, IsRow}
use Rattle.tables.specs.Table.{places_in, row_of, Good}
use Rattle.records.specs.Naming.{InField}
use Rattle.records.specs.Record.{record_length}
use Rattle.records.specs.declared.inner.Named.{Named}
use Rattle.coefficients.specs.Coefficients.{AllUsable}
use Rattle.runs.specs.Run.{coordinates_in, vector_for}
use Rattle.runs.specs.Sending.{records_length}

-- a good table of so many places, and the row of place 0
pub record Opened (t : List ℕ) (places first : ℕ) : Type 0 where
  pub good : Good t
  pub is_places : places ≡ places_in t
  pub is_first : first ≡ row_of t 0

-- and a run as long as all coordinates together: what a Run keeps
pub record Measured (t : List ℕ) (places first : ℕ) (run : List Float) : Type 0 where
  pub opened : Opened t places first
  pub run_long : length run ≡ coordinates_in t

-- a run of usable coefficients, with one of 16 books and a buffer of 8 bytes a place
pub record Judged (t : List ℕ) (run : List Float) (book : ℕ) (held : List ℕ) : Type 0 where
  pub book_to : book < most_books
  pub all_usable : (p : ℕ) → p < places_in t → AllUsable (vector_for t run p)
  pub has_room : length held ≡ records_length t

-- the vector of a place of this row is written where the place's record stands in the buffer
pub record Writable (row : List ℕ) (xs : List Float) (named : Named) (held : List ℕ) : Type 0 where
  pub is_row : IsRow row
  pub of_length : length xs ≡ length_of row
  pub usable : AllUsable xs
  pub in_field : InField named
  pub room : record_length * named.place + record_length ≤ length held
