-- What is asked of a vector that is coded.
use Rattle.std.specs.Prelude.{ℕ, ◌<◌, ◌≡◌, List, Float, length}
use Rattle.tables.specs.Row.{length_of, IsRow}
use Rattle.numbering.specs.declared.inner.Numbering.{Numbering}
use Rattle.records.specs.Record.{record_length}
use Rattle.coefficients.specs.Coefficients.{AllUsable}
use Rattle.coefficients.specs.Points.{magnitudes_of, total_of}

-- the row, the vector and the lent record have passed every check
pub record Accepted (row : List ℕ) (xs : List Float) (held : List ℕ) : Type 0 where
  pub is_row : IsRow row
  pub of_length : length xs ≡ length_of row
  pub all_usable : AllUsable xs
  pub has_room : length held ≡ record_length

-- a vector can be coded in a usable shell of its length and of a radius above 0, the one that m numbers, if not all
-- of it becomes 0; `magnitudes` are its own
pub record Codable (m : Numbering) (total : ℕ) (xs : List Float) (magnitudes : List ℕ) : Type 0 where
  pub above_0 : 0 < m.radius.0
  pub some : 0 < total
  pub of_length : length xs ≡ m.length.0
  pub all_usable : AllUsable xs
  pub is_total : total ≡ total_of xs
  pub is_magnitudes : magnitudes ≡ magnitudes_of xs
