-- Where the state and the record of a place stand in a page (docs/RULES.md, "The page", "Books" and "States first"),
-- and how long a page is. It is said here and nowhere else. pg is the bytes of a page, n how many cells it has, c the
-- number of a cell, p a place, `places` how many places a book has.
use Rattle.std.specs.Prelude.{ℕ, zero, suc, ◌+◌, ◌*◌, List, get_or, set, take, drop, replicate}
use Rattle.answers.specs.Checks.{Check, length_check}
use Rattle.buffers.specs.Written.{written}
use Rattle.records.specs.Record.{record_length}
use Rattle.layout.specs.declared.Layout.{Layout}
use Rattle.layout.specs.declared.Layout.TheVariants as layouts

-- what a page keeps for a place of a book: a state (0 empty, 1 held, 2 contested), and the 8 bytes of a record
pub record Cell : Type 0 where
  pub state : ℕ
  pub bytes : List ℕ

-- so many cells a page has, and which of them is that of a place: the places of book 0 in order, then those of book 1,
-- and so on
abbrev pub cells_of : ℕ → ℕ → ℕ
cells_of places books = books * places

abbrev pub cell_of : ℕ → ℕ → ℕ → ℕ
cell_of places book p = book * places + p

-- so many bytes a cell
abbrev pub cell_length : ℕ
cell_length = 1 + record_length

-- the bytes of a page of n cells, in each layout
abbrev pub page_length : ℕ → ℕ
page_length n = cell_length * n

-- 4: page not 9 x places x books; it has b bytes
abbrev pub page_length_check : ℕ → ℕ → Check
page_length_check cells b = length_check b (page_length cells)

-- ---- the two layouts
-- by number, where a caller has nothing but numbers
abbrev pub layout_of : ℕ → Layout
layout_of zero = layouts.CellByCell
layout_of (suc n) = layouts.StatesFirst

-- the state of a cell: at the cell's start; or behind the states of the cells before it
abbrev pub state_offset : Layout → ℕ → ℕ → ℕ
state_offset layouts.CellByCell n c = cell_length * c
state_offset layouts.StatesFirst n c = c

-- its record: behind its state; or behind all states and the records of the cells before it
abbrev pub record_offset : Layout → ℕ → ℕ → ℕ
record_offset layouts.CellByCell n c = cell_length * c + 1
record_offset layouts.StatesFirst n c = n + record_length * c

-- the state and the record that stand from a byte on, and a cell stored there
unfoldable pub state_from : List ℕ → ℕ → ℕ
state_from pg at = get_or pg at 0

unfoldable pub record_from : List ℕ → ℕ → List ℕ
record_from pg at = take record_length (drop at pg)

unfoldable pub stored : List ℕ → ℕ → ℕ → Cell → List ℕ
stored pg s r cell = written (set pg s cell.state) r cell.bytes record_length

-- a cell of a page in a layout, and the page with another cell there
abbrev pub cell_in : Layout → ℕ → List ℕ → ℕ → Cell
cell_in layout n pg c = record { state = state_from pg (state_offset layout n c); bytes = record_from pg (record_offset layout n c) }

abbrev pub set_in : Layout → ℕ → List ℕ → ℕ → Cell → List ℕ
set_in layout n pg c cell = stored pg (state_offset layout n c) (record_offset layout n c) cell

-- ---- cell by cell, where it does not matter how many cells there are: so the rules of a page speak of it
abbrev pub cell_at : List ℕ → ℕ → Cell
cell_at pg c = cell_in layouts.CellByCell 0 pg c

abbrev pub set_cell : List ℕ → ℕ → Cell → List ℕ
set_cell pg c cell = set_in layouts.CellByCell 0 pg c cell

-- the bytes of a book
unfoldable pub book_at : ℕ → List ℕ → ℕ → List ℕ
book_at places pg book = take (page_length places) (drop (page_length (cell_of places book 0)) pg)

-- ---- an empty page is all zeros, in each layout
abbrev pub empty_page : ℕ → List ℕ
empty_page n = replicate (page_length n) 0

-- the cell of a place that nothing came for
abbrev pub empty_cell : Cell
empty_cell = record { state = 0; bytes = replicate record_length 0 }
