-- The way through the places of a good table, row by row. t is the table's bytes, r the number of a row, p a place.
use Rattle.std.specs.Prelude.{ℕ, suc, ◌≤◌, ◌<◌, ◌≡◌, List, length, get_or}
use Rattle.tables.specs.Table.{rows_of, places_before, places_in, Good, InRow}

-- a place of a good table, and its row
pub record Placed (t : List ℕ) (p r : ℕ) : Type 0 where
  pub good : Good t
  pub inside : p < places_in t
  pub in_row : InRow t p r

-- on the way: a row, and the place where it ends. Place p is in that row, or the row ends just before it.
pub record Walked (t : List ℕ) (r end p : ℕ) : Type 0 where
  pub good : Good t
  pub below : r < rows_of t
  pub is_end : end ≡ places_before t (suc r)
  pub from : places_before t r ≤ p
  pub to : p ≤ places_before t (suc r)

-- place p is in that row
pub record AtRow (t : List ℕ) (r end p : ℕ) : Type 0 where
  pub good : Good t
  pub below : r < rows_of t
  pub is_end : end ≡ places_before t (suc r)
  pub in_row : InRow t p r

-- where rows begin, up to row n: number r says how many places come before row r
abbrev pub StartsTo : List ℕ → ℕ → List ℕ → Type 0
StartsTo t n starts = (r : ℕ) → r ≤ n → get_or starts r 0 ≡ places_before t r

-- where all rows of a good table begin, and behind the last one where it ends
pub record Starts (t starts : List ℕ) : Type 0 where
  pub good : Good t
  pub room : length starts ≡ 33
  pub each : StartsTo t (rows_of t) starts
