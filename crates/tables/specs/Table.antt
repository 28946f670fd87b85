-- The pairing table as a whole (docs/RULES.md, "Pairing table"): its rows and places, which tables are bad, what
-- the call check says of one, and the row of a place. t is the table's bytes, any list of them; r is the number of
-- a row.
use Rattle.std.specs.Prelude.{ℕ, zero, suc, ◌+◌, ◌*◌, ◌/◌, ◌%◌, ◌≤◌, ◌<◌, ◌≡◌, List, [], ◌∷◌, Bool, not, eqb, leb, ltb, length, take, drop}
use Rattle.answers.specs.Checks.{Check, any_of, pick, first_of, each_from, Passes}
use Rattle.enumeration.specs.Enumeration.{Enumeration}
use Rattle.tables.specs.Row.{row_length, length_of, places_of, enumeration_of, bad_row}

-- how many rows there are
abbrev pub rows_of : List ℕ → ℕ
rows_of t = length t / row_length

-- the bytes of row r: no header, one record a row
unfoldable pub row_at : List ℕ → ℕ → List ℕ
row_at t r = take row_length (drop (row_length * r) t)

-- 1 to 32 rows, each whole
abbrev pub wrong_size : ℕ → Bool
wrong_size n = any_of (ltb n 1 ∷ ltb 512 n ∷ not (eqb (n % 16) 0) ∷ [])

-- So many bytes of a table tell whether it is too long, however long it is: one more than the largest has.
abbrev pub table_room : ℕ
table_room = 513

-- places are numbered from 0 through the rows in order: so many come before row r, the running total
unfoldable pub places_before : List ℕ → ℕ → ℕ
places_before t zero = 0
places_before t (suc r) = places_before t r + places_of (row_at t r)

-- the places of the whole table
abbrev pub places_in : List ℕ → ℕ
places_in t = places_before t (rows_of t)

-- at most 4,096 in all: the row at which the running total passes it is bad
abbrev pub passes_total : List ℕ → ℕ → Bool
passes_total t r = ltb 4096 (places_before t (suc r))

-- 7: bad pairing table, with the first bad row; a table of wrong size names row 0, and its rows are not looked at
abbrev pub row_check : List ℕ → ℕ → Check
row_check t r = record { number = 7; values = r ∷ []; fails = any_of (bad_row (row_at t r) ∷ passes_total t r ∷ []) }

abbrev pub table_checks : List ℕ → List Check
table_checks t = record { number = 7; values = 0 ∷ []; fails = wrong_size (length t) } ∷ each_from (row_check t) 0 (rows_of t)

-- a good table
abbrev pub Good : List ℕ → Type 0
Good t = Passes (table_checks t)

-- which has 1 to 32 rows of 16 bytes
pub record RightSize (t : List ℕ) : Type 0 where
  pub rows_from : 1 ≤ rows_of t
  pub rows_to : rows_of t ≤ 32
  pub whole : length t ≡ 16 * rows_of t

-- what the call check is to say: the number of places, or a refusal
abbrev pub check_says : List ℕ → List ℕ
check_says t = first_of (table_checks t) (0 ∷ places_in t ∷ [])

-- a place is in a row
pub record InRow (t : List ℕ) (p r : ℕ) : Type 0 where
  pub from : places_before t r ≤ p
  pub to : p < places_before t (suc r)

-- 8: place not in the table
abbrev pub no_such_place : List ℕ → ℕ → Bool
no_such_place t p = leb (places_in t) p

abbrev pub place_check : List ℕ → ℕ → Check
place_check t p = record { number = 8; values = []; fails = no_such_place t p }

-- how many of the first n rows end before the place
unfoldable pub rows_before : List ℕ → ℕ → ℕ → ℕ
rows_before t p zero = 0
rows_before t p (suc n) = pick (leb (places_before t (suc n)) p) (suc (rows_before t p n)) (rows_before t p n)

-- the row of a place: rows are numbered from 0, so it is the number of those before it; proofs/Places.antt shows
-- that it holds the place, and that no other row does
abbrev pub row_of : List ℕ → ℕ → ℕ
row_of t p = rows_before t p (rows_of t)

-- its bytes, and the length of the place's points
abbrev pub row_for : List ℕ → ℕ → List ℕ
row_for t p = row_at t (row_of t p)

abbrev pub length_for : List ℕ → ℕ → ℕ
length_for t p = length_of (row_for t p)

-- and the enumeration that numbers them: the row's own
abbrev pub enumeration_for : List ℕ → ℕ → Enumeration
enumeration_for t p = enumeration_of (row_for t p)

-- what is told of a table and a place once they have passed some checks: the number of places, and the row of the
-- place
abbrev pub survey_says : List Check → List ℕ → ℕ → List ℕ
survey_says checks t p = first_of checks (0 ∷ places_in t ∷ row_of t p ∷ [])
