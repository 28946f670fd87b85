-- The page of a spot, cell by cell: it has the length of the page, and it is as it was where its cell is put back.
use Prim.Native.Nat.{ℕ}
use mathlib.Core.List.{List}
use mathlib.Core.Path.{◌≡◌}
use lib.ListN.{length}
use Rattle.layout.proofs.Cells.{set_back}
use Rattle.layout.proofs.Converting.{converted_size}
use Rattle.layout.specs.Layout.{page_length, set_cell}
use Rattle.layout.specs.declared.Layout.TheVariants as layouts
use Rattle.cells.specs.Spots.{SpotIn, page_there, cell_there}
use Rattle.cells.specs.declared.inner.spot.Spot.{Spot}

module _ (pg : List ℕ) (spot : Spot) (inside : SpotIn pg spot) where
  pub page_there_lem : length (page_there pg spot) ≡ page_length spot.position.cells
  page_there_lem = converted_size spot.position.layout layouts.CellByCell spot.position.cells pg inside

  pub stays : set_cell (page_there pg spot) spot.position.cell (cell_there pg spot) ≡ page_there pg spot
  stays = set_back layouts.CellByCell spot.position.cells (page_there pg spot) page_there_lem spot.position.cell spot.position.below
