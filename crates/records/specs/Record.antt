-- A record (docs/RULES.md, "Quantizing into a record"): 8 bytes, book and place in one field (2), row (1), radius
-- number within the row (1), codeword (4), high byte first.
use Rattle.std.specs.Prelude.{ℕ, ◌+◌, ◌*◌, ◌/◌, ◌%◌, ◌^◌, ◌<◌, ◌≡◌, List, ◌++◌, Bool, take, drop}
use Rattle.std.specs.Str.{bytes_eq}
use Rattle.answers.specs.Checks.{Check, length_check}
use Rattle.octets.specs.Octets.{high_first, from_high}

-- so many bytes a record
abbrev pub record_length : ℕ
record_length = 8

-- 4: record not 8; it has b bytes
abbrev pub record_check : ℕ → Check
record_check b = length_check b record_length

-- the place field: its upper four bits number the book, its lower twelve the place
abbrev pub field_of : ℕ → ℕ → ℕ
field_of book place = 4096 * book + place

unfoldable pub record_of : ℕ → ℕ → ℕ → ℕ → ℕ → List ℕ
record_of book place row radius_number codeword =
    high_first 2 (field_of book place) ++ high_first 1 row ++ high_first 1 radius_number ++ high_first 4 codeword

abbrev pub field_in : List ℕ → ℕ
field_in bytes = from_high (take 2 bytes)

abbrev pub book_in : List ℕ → ℕ
book_in bytes = field_in bytes / 4096

abbrev pub place_in : List ℕ → ℕ
place_in bytes = field_in bytes % 4096

abbrev pub row_in : List ℕ → ℕ
row_in bytes = from_high (take 1 (drop 2 bytes))

abbrev pub radius_number_in : List ℕ → ℕ
radius_number_in bytes = from_high (take 1 (drop 3 bytes))

abbrev pub codeword_in : List ℕ → ℕ
codeword_in bytes = from_high (take 4 (drop 4 bytes))

-- the same bytes, one by one, and as many
abbrev pub same_bytes : List ℕ → List ℕ → Bool
same_bytes = bytes_eq

-- what a record holds: the book, and these four
pub record Holds (bytes : List ℕ) (book place row radius_number codeword : ℕ) : Type 0 where
  pub holds_book : book_in bytes ≡ book
  pub holds_place : place_in bytes ≡ place
  pub holds_row : row_in bytes ≡ row
  pub holds_radius_number : radius_number_in bytes ≡ radius_number
  pub holds_codeword : codeword_in bytes ≡ codeword

-- they fit their bits, so that nothing is cut
pub record Fits (book place row radius_number codeword : ℕ) : Type 0 where
  pub book_fits : book < 16
  pub place_fits : place < 4096
  pub row_fits : row < 256
  pub radius_number_fits : radius_number < 256
  pub codeword_fits : codeword < 2 ^ 32
