-- Taking records into a page (docs/RULES.md, "The page", "Books", "Refusal numbers" and "Order of checks"). t is the
-- table's bytes, `books` the number of books, pg the page's bytes, x those of a record or of what arrived for one; all
-- of them any, of any length. `book` is a book, p a place in it, r the number of a row, c a cell.
use Rattle.std.specs.Prelude.{ℕ, zero, suc, ◌+◌, ◌-◌, ◌/◌, ◌≡◌, Bool, true, false, not, ◌&&◌, eqb, ltb, length, take, drop, replicate}
use mathlib.Core.List.{List, [], ◌∷◌, ◌++◌, Memᴰ}
use Rattle.answers.specs.Checks.{Check, any_of, pick, first_of, leaves, fails_of}
use Rattle.tables.specs.BookNumbers.{no_such_book, book_check, sharing_checks}
use Rattle.tables.specs.Table.{places_in, place_check, no_such_place, row_of}
use Rattle.records.specs.Record.{record_length, record_check, book_in, place_in, row_in, same_bytes}
use Rattle.layout.specs.Layout.{Cell, cells_of, cell_of, page_length_check, cell_at, set_cell, empty_page}

-- ---- claims
-- a record is of place p in a book, and of row r: it names all three
abbrev pub is_of : List ℕ → ℕ → ℕ → ℕ → Bool
is_of x book p r = eqb (book_in x) book && eqb (place_in x) p && eqb (row_in x) r

-- a record claims its place if there is such a book, if that place is in the table, and if the record is of the row of
-- that place; what is no record claims none
unfoldable pub claims : List ℕ → ℕ → List ℕ → ℕ → ℕ → Bool
claims t books x book p = eqb (length x) record_length && is_of x book p (row_of t p) && not (no_such_book books book) && not (no_such_place t p)

-- ---- one cell
-- the cell of a place in a book, by its number and as it stands
abbrev pub cell_number : List ℕ → ℕ → ℕ → ℕ
cell_number t book p = cell_of (places_in t) book p

abbrev pub cell_for : List ℕ → List ℕ → ℕ → ℕ → Cell
cell_for t pg book p = cell_at pg (cell_number t book p)

-- a cell that holds the record y, and one that is contested, its bytes zero
abbrev pub held_cell : List ℕ → Cell
held_cell y = record { state = 1; bytes = y }

abbrev pub contested_cell : Cell
contested_cell = record { state = 2; bytes = replicate record_length 0 }

-- what goes by the state: empty, held, or contested; a state above 2 is refused before it is asked
abbrev pub by_state : {A : Type 0} → ℕ → A → A → A → A
by_state zero empty held contested = empty
by_state (suc zero) empty held contested = held
by_state (suc (suc n)) empty held contested = contested

-- 12: state byte above 2, or a held record of another book, another place or another row; c is the cell of place p in
-- the book, and r the row of that place
unfoldable pub bad_cell : ℕ → ℕ → ℕ → Cell → Bool
bad_cell book p r c = any_of (ltb 2 c.state ∷ (eqb c.state 1 && not (is_of c.bytes book p r)) ∷ [])

-- of a place of a page
abbrev pub bad_at : List ℕ → List ℕ → ℕ → ℕ → Bool
bad_at t pg book p = bad_cell book p (row_of t p) (cell_for t pg book p)

-- the page rule: empty becomes held, with the 8 bytes; held with the same 8 bytes stays; held with other bytes
-- becomes contested, its 8 bytes zero; contested stays
unfoldable pub take_cell : List ℕ → Cell → Cell
take_cell x c = by_state c.state (held_cell x) (pick (same_bytes c.bytes x) c contested_cell) c

-- what taking x makes of the cell of its place p in the book, whose row is r: refusal 12 keeps it
abbrev pub arrive_cell : ℕ → ℕ → ℕ → List ℕ → Cell → Cell
arrive_cell book p r x c = pick (bad_cell book p r c) c (take_cell x c)

-- ---- the checks that calls share
-- 4: page not 9 x places x books
abbrev pub page_check : List ℕ → ℕ → List ℕ → Check
page_check t books pg = page_length_check (cells_of (places_in t) books) (length pg)

-- 12 at one place; and where it is judged at many, with the place
abbrev pub cell_check : ℕ → ℕ → ℕ → Cell → Check
cell_check book p r c = record { number = 12; values = []; fails = bad_cell book p r c }

abbrev pub cell_check_at : List ℕ → List ℕ → ℕ → ℕ → Check
cell_check_at t pg book p = record { number = 12; values = p ∷ []; fails = bad_at t pg book p }

-- of a table, its books and a page: 17, 7, 4
abbrev pub page_checks : List ℕ → ℕ → List ℕ → List Check
page_checks t books pg = sharing_checks t books ++ (page_check t books pg ∷ [])

-- ---- the call take
-- 9: row byte not the row of the record's place
abbrev pub foreign_check : List ℕ → List ℕ → Check
foreign_check t x = record { number = 9; values = []; fails = not (eqb (row_in x) (row_of t (place_in x))) }

-- 12 at the place that the record names
abbrev pub own_cell_check : List ℕ → List ℕ → List ℕ → Check
own_cell_check t pg x = cell_check (book_in x) (place_in x) (row_of t (place_in x)) (cell_for t pg (book_in x) (place_in x))

-- Take: 17, 7, 4, 8, 9, 12; first those after the page's: 8 is given for the book as for the place
abbrev pub take_rest : List ℕ → ℕ → List ℕ → List ℕ → List Check
take_rest t books pg x =
    record_check (length x)
    ∷ book_check books (book_in x)
    ∷ place_check t (place_in x)
    ∷ foreign_check t x
    ∷ own_cell_check t pg x
    ∷ []

abbrev pub take_checks : List ℕ → ℕ → List ℕ → List ℕ → List Check
take_checks t books pg x = page_checks t books pg ++ take_rest t books pg x

-- the page with the record taken: the cell of its place changes, and no other byte
abbrev pub take_into : List ℕ → List ℕ → List ℕ → List ℕ
take_into t pg x = set_cell pg (cell_number t (book_in x) (place_in x)) (take_cell x (cell_for t pg (book_in x) (place_in x)))

-- what the call is to say, and what it leaves in the page
abbrev pub take_says : List ℕ → ℕ → List ℕ → List ℕ → List ℕ
take_says t books pg x = first_of (take_checks t books pg x) (0 ∷ [])

abbrev pub take_leaves : List ℕ → ℕ → List ℕ → List ℕ → List ℕ
take_leaves t books pg x = leaves (take_checks t books pg x) (take_into t pg x) pg

-- ---- arrivals
-- whether a take is refused, as a number
unfoldable pub refusals : List ℕ → ℕ → List ℕ → List ℕ → ℕ
refusals t books pg x = pick (any_of (fails_of (take_checks t books pg x))) 1 0

-- a page, and how many takes were refused on the way to it
pub record Received : Type 0 where
  pub page : List ℕ
  pub refused : ℕ

unfoldable pub arrive : List ℕ → ℕ → Received → List ℕ → Received
arrive t books s x = record { page = take_leaves t books s.page x; refused = s.refused + refusals t books s.page x }

-- what arrives is taken in turn
unfoldable pub after : List ℕ → ℕ → Received → List (List ℕ) → Received
after t books s [] = s
after t books s (x ∷ xs) = after t books (arrive t books s x) xs

-- from an empty page on: all its books are empty
abbrev pub new_page : List ℕ → ℕ → List ℕ
new_page t books = empty_page (cells_of (places_in t) books)

abbrev pub empty : List ℕ → ℕ → Received
empty t books = record { page = new_page t books; refused = 0 }

abbrev pub grown : List ℕ → ℕ → List (List ℕ) → List ℕ
grown t books xs = (after t books (empty t books) xs).page

-- of all that arrives, nothing claims p in the book
abbrev pub Nobody : List ℕ → ℕ → List (List ℕ) → ℕ → ℕ → Type 0
Nobody t books xs book p = (x : List ℕ) → Memᴰ x xs → claims t books x book p ≡ false

-- and all that claim p in the book are equal to y
abbrev pub AllEqual : List ℕ → ℕ → List (List ℕ) → ℕ → ℕ → List ℕ → Type 0
AllEqual t books xs book p y = (x : List ℕ) → Memᴰ x xs → claims t books x book p ≡ true → x ≡ y

-- ---- the call collect
-- a run of bytes is taken record by record, and a shorter last part too
unfoldable pub parts_from : ℕ → List ℕ → List (List ℕ)
parts_from zero bytes = []
parts_from (suc n) bytes = take record_length bytes ∷ parts_from n (drop record_length bytes)

abbrev pub parts_of : List ℕ → List (List ℕ)
parts_of bytes = parts_from ((length bytes + (record_length - 1)) / record_length) bytes

-- what the call collect answers and leaves: the number of refused takes, and the page
abbrev pub collected : List ℕ → ℕ → List ℕ → List ℕ → Received
collected t books pg bytes = after t books (record { page = pg; refused = 0 }) (parts_of bytes)
