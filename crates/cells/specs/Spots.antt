-- The cell of a place in code: what is asked of a place and a book, which cell is then meant, and what stands in that
-- cell of a page.
use Rattle.std.specs.Prelude.{ℕ, ◌≤◌, ◌<◌, Bool, List, ◌≡◌}
use Rattle.records.specs.declared.inner.Named.{Named}
use Rattle.layout.specs.Layout.{Cell, cells_of, cell_of}
use Rattle.layout.specs.Positions.{InPage, page_told, cell_told}
use Rattle.layout.specs.declared.Layout.{Layout}
use Rattle.rules.specs.Taking.{bad_cell}
use Rattle.cells.specs.declared.inner.spot.Spot.{Spot}

-- there is such a book, and such a place
pub record Locatable (places books : ℕ) (named : Named) : Type 0 where
  pub places_to : places ≤ 4096
  pub books_to : books ≤ 16
  pub in_books : named.book < books
  pub in_book_lem : named.place < places

pub record IsSpot (layout : Layout) (places books : ℕ) (named : Named) (spot : Spot) : Type 0 where
  pub is_layout : spot.position.layout ≡ layout
  pub is_cells : spot.position.cells ≡ cells_of places books
  pub is_cell : spot.position.cell ≡ cell_of places named.book named.place
  pub is_named : spot.named ≡ named

-- the page has that cell
abbrev pub SpotIn : List ℕ → Spot → Type 0
SpotIn pg spot = InPage pg spot.position

-- the page cell by cell, and what stands there
abbrev pub page_there : List ℕ → Spot → List ℕ
page_there pg spot = page_told pg spot.position

abbrev pub cell_there : List ℕ → Spot → Cell
cell_there pg spot = cell_told pg spot.position

-- 12 of a cell that is to hold a record of this book, place and row, and of the one that stands there
abbrev pub bad_named : Named → Cell → Bool
bad_named named c = bad_cell named.book named.place named.row c

abbrev pub bad_there : List ℕ → Spot → Bool
bad_there pg spot = bad_named spot.named (cell_there pg spot)
