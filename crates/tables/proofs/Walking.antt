-- The row of each place on the way through the places of a good table: it is the row of the place before, or the
-- next, which has places of its own.
use Prim.Native.Nat.{ℕ, suc, ◌+◌, ◌≤◌, ◌<◌}
use mathlib.Core.List.{List}
use mathlib.Core.Path.{◌≡◌, refl, ap}
use native.Mathlib.Decide.{dec_lt}
use native.Mathlib.Numerals.{add-one}
use native.Mathlib.Omega.{arith}
use Rattle.tables.proofs.Good.{right_size, good_row, good_total}
use Rattle.tables.proofs.Places.{places_grow, row_below, row_holds, row_only}
use Rattle.tables.proofs.Rows.{row_length_lem, total_next}
use Rattle.tables.specs.Table.{rows_of, row_at, places_before, places_in, row_of, Good}
use Rattle.tables.specs.Row.{places_of, IsRow}
use Rattle.tables.specs.Way.{Placed, Walked, AtRow}

module _ {t : List ℕ} {row end p : ℕ} (on : Walked t row end p) (inside : p < places_in t) where
  pub end_to : end ≤ 4096
  end_to = omega (arith, on.is_end, good_total t on.good (suc row) on.below)

  module _ (past : end ≤ p) where
    pub next_below : row + 1 < rows_of t
    next_below = rw (add-one row) (go (dec_lt (suc row) (rows_of t)))
      where
        go : Dec (suc row < rows_of t) → suc row < rows_of t
        go (yes h) = h
        go (no h) =
            let last : suc row ≡ rows_of t = omega (arith, on.below) in
            let same : places_before t (suc row) ≡ places_in t = ap (places_before t) last in
            absurd (omega (arith, on.is_end))

    pub next_row : {places : ℕ} → places ≡ places_of (row_at t (row + 1)) → AtRow t (row + 1) (end + places) p
    next_row is_places =
        let row_good = good_row t on.good (row + 1) next_below in
        let next = total_next t (suc row) in
        let here = rw (add-one row) at is_places in
        let some = rw (add-one row) at row_good.places_from in
        record {
          good = on.good;
          below = next_below;
          is_end = rw (add-one row) (omega (arith, next, on.is_end, here));
          in_row = rw (add-one row) (record { from = omega (arith, on.is_end); to = omega (arith, next, on.is_end, on.to, some) });
        }

module _ {t : List ℕ} {row end p : ℕ} (at_row : AtRow t row end p) where
  -- it is the row of the place
  pub its_row : p < places_in t → row ≡ row_of t p
  its_row inside = row_only t p row inside at_row.in_row

  pub row_bytes : IsRow (row_at t row)
  row_bytes = record { sixteen = row_length_lem t row at_row.below; row_good = good_row t at_row.good row at_row.below }

  walks_to : (n : ℕ) → p ≤ n → n ≤ p + 1 → Walked t row end n
  walks_to n from to = record {
    good = at_row.good;
    below = at_row.below;
    is_end = at_row.is_end;
    from = omega (arith, at_row.in_row.from);
    to = omega (arith, at_row.in_row.to);
  }

  -- the way begins at it, and goes on to the next place
  pub walks_here : Walked t row end p
  walks_here = walks_to p (omega arith) (omega arith)

  pub walks_on : Walked t row end (p + 1)
  walks_on = walks_to (p + 1) (omega arith) (omega arith)

-- no place is before the first row
pub none_before : (t : List ℕ) → 0 ≡ places_before t 0
unfolding places_before
none_before t = refl

-- a place and its row
module _ {t : List ℕ} {p row : ℕ} (placed : Placed t p row) where
  pub is_its_row : row ≡ row_of t p
  is_its_row = row_only t p row placed.inside placed.in_row

  pub row_in_table : row < rows_of t
  row_in_table = rw is_its_row (row_below t p placed.inside)

  pub at_place : {end : ℕ} → end ≡ places_before t (row + 1) → AtRow t row end p
  at_place is_end = record { good = placed.good; below = row_in_table; is_end = rw (add-one row) at is_end; in_row = placed.in_row }

-- a place of a good table, in the row of that place
pub placed_in : {t : List ℕ} {p row : ℕ} → Good t → p < places_in t → row ≡ row_of t p → Placed t p row
placed_in {t} {p} good inside is_row = record { good = good; inside = inside; in_row = rw is_row (row_holds t p inside) }

-- a good table has a place: its first row has one
pub first_place : (t : List ℕ) → Good t → 0 < places_in t
unfolding places_before
first_place t good =
    let some = (right_size t good).rows_from in
    let row_good = good_row t good 0 (omega arith) in
    omega (arith, places_grow t 1 (rows_of t) some, row_good.places_from)
