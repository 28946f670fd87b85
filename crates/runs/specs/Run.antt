-- A run of coefficients (docs/RULES.md, "Sending a page": "places in order, each place's coordinates together"). t is
-- the table's bytes, p a place, `run` the coefficients; all of them any.
use Rattle.std.specs.Prelude.{ℕ, zero, suc, ◌+◌, List, Float, take, drop}
use Rattle.tables.specs.Table.{places_in, length_for}

-- so many coordinates come before those of place p: all of the places before it
unfoldable pub coordinates_before : List ℕ → ℕ → ℕ
coordinates_before t zero = 0
coordinates_before t (suc p) = coordinates_before t p + length_for t p

-- the coordinates of all places together
abbrev pub coordinates_in : List ℕ → ℕ
coordinates_in t = coordinates_before t (places_in t)

-- the coefficients of place p
abbrev pub vector_for : List ℕ → List Float → ℕ → List Float
vector_for t run p = take (length_for t p) (drop (coordinates_before t p) run)
