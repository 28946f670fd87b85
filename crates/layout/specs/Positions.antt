-- A cell of a page by its position: the page has it if it has as many cells, and it is told of as it is cell by cell.
use Rattle.std.specs.Prelude.{ℕ, List, ◌≡◌, length}
use Rattle.layout.specs.Converting.{cell_by_cell}
use Rattle.layout.specs.Layout.{Cell, page_length, cell_at}
use Rattle.layout.specs.declared.Position.{Position}

abbrev pub InPage : List ℕ → Position → Type 0
InPage pg at = length pg ≡ page_length at.cells

abbrev pub page_told : List ℕ → Position → List ℕ
page_told pg at = cell_by_cell at.layout at.cells pg

abbrev pub cell_told : List ℕ → Position → Cell
cell_told pg at = cell_at (page_told pg at) at.cell
