-- The coordinates of the rows, counted one row after the other.
use Rattle.std.proofs.Common.{ℕ, ◌+◌, ◌*◌, ◌≤◌, ◌<◌, ◌≡◌, List, sym, ap, ◌∙◌, add-one, arith}
use Rattle.tables.proofs.Places.{places_grow}
use Rattle.tables.proofs.Walking.{none_before as no_place}
use Rattle.tables.specs.Row.{length_of, places_of}
use Rattle.tables.specs.Table.{rows_of, row_at, places_before, Good}
use Rattle.runs.proofs.Positions.{none_before, before_to, row_coordinates}
use Rattle.runs.specs.Run.{coordinates_before}

-- before the first row there are none
pub no_row : (t : List ℕ) → 0 ≡ coordinates_before t (places_before t 0)
no_row t = sym (ap (coordinates_before t) (sym (no_place t)) ∙ none_before t)

-- one row more
pub row_more : (t : List ℕ) (r : ℕ) → r < rows_of t
    → coordinates_before t (places_before t (r + 1)) ≡ coordinates_before t (places_before t r) + places_of (row_at t r) * length_of (row_at t r)
row_more t r h = rw (add-one r) (row_coordinates t r h)

-- they stay few
pub rows_small : (t : List ℕ) (r : ℕ) → Good t → r < rows_of t
    → coordinates_before t (places_before t r) + places_of (row_at t r) * length_of (row_at t r) ≤ 65536
rows_small t r good h =
    let most = before_to t good (places_before t (r + 1)) (places_grow t (r + 1) (rows_of t) (omega arith)) in
    rw row_more at most
