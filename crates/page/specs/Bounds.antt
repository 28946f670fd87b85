-- What the functions of the page ask of a table, its books and a page that were surveyed, and of what arrives; and what
-- the readers check of a cell.
use Rattle.std.specs.Prelude.{ℕ, Bool, false, not, List, ◌≡◌, eqb, length}
use Rattle.answers.specs.Checks.{Check, pick, Passes}
use Rattle.tables.specs.Table.{places_in, no_such_place}
use Rattle.tables.specs.Way.{Starts}
use Rattle.records.specs.Record.{record_check, place_in, row_in}
use Rattle.records.specs.declared.inner.Named.{Named}
use Rattle.layout.specs.Layout.{Cell}
use Rattle.rules.specs.Layouts.{as_cells}
use Rattle.rules.specs.Reading.{read_rest, coefficient_rest}
use Rattle.rules.specs.Taking.{page_checks, foreign_check}
use Rattle.page.specs.declared.inner.opened.Opened.{Opened}

-- a page that is kept in a layout, cell by cell
abbrev pub cells_in : Opened → List ℕ → List ℕ
cells_in opened page = as_cells opened.layout opened.table.now opened.books.0 page

-- a table, its books and a page passed their checks, and the table has so many places
pub record Ready (t : List ℕ) (books : ℕ) (pg : List ℕ) (places : ℕ) : Type 0 where
  pub passes : Passes (page_checks t books pg)
  pub is_places : places ≡ places_in t

-- so it is of what was opened and this page
abbrev pub IsOpen : Opened → List ℕ → Type 0
IsOpen opened page = Ready opened.table.now opened.books.0 (cells_in opened page) opened.places

-- and where the rows of the table begin is known
pub record Takes (opened : Opened) (page starts : List ℕ) : Type 0 where
  pub ready : IsOpen opened page
  pub begins : Starts opened.table.now starts

-- the place that x names, and whether x names another row than r; what is no record names none
abbrev pub place_named : List ℕ → ℕ
place_named x = pick (record_check (length x)).fails 0 (place_in x)

abbrev pub other_named : ℕ → List ℕ → Bool
other_named r x = pick (record_check (length x)).fails false (not (eqb (row_in x) r))

-- what is told of 9, for a record whose place is in the table
abbrev pub Tells : List ℕ → List ℕ → Bool → Type 0
Tells t x foreign = (record_check (length x)).fails ≡ false → no_such_place t (place_in x) ≡ false → foreign ≡ (foreign_check t x).fails

-- what read and coefficient check in the row of a place, whose cell c is to hold a record of this book, place and row
abbrev pub read_there : List ℕ → Named → Cell → ℕ → List Check
read_there row named c b = read_rest row named.book named.place named.row c b

abbrev pub coefficient_there : List ℕ → Named → Cell → ℕ → List Check
coefficient_there row named c i = coefficient_rest row named.book named.place named.row c i
