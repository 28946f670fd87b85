-- The way through the places of a page along a run of coefficients. t is the table's bytes, `row` the row of the place
-- that was reached or of the one before it, `end` the place where that row ends.
use Rattle.std.specs.Prelude.{ℕ, suc, ◌≤◌, ◌≡◌, List}
use Rattle.tables.specs.Table.{places_in}
use Rattle.tables.specs.Way.{Walked, AtRow}
use Rattle.runs.specs.Run.{coordinates_before}

-- place p is reached, and its coordinates begin at `from`
pub record Reached (t : List ℕ) (row end from p : ℕ) : Type 0 where
  pub to : p ≤ places_in t
  pub on : Walked t row end p
  pub is_from : from ≡ coordinates_before t p

-- place p is passed: the way stands in its row, and the coordinates of the next place begin at `from`
pub record Passed (t : List ℕ) (row end from p : ℕ) : Type 0 where
  pub at : AtRow t row end p
  pub is_from : from ≡ coordinates_before t (suc p)
