-- Places are numbered from 0 through the rows in order: every place of the table is in exactly one row, which is
-- `row_of`, and the places of a row are consecutive. This holds of any bytes.
use Prim.Native.Nat.{ℕ, zero, suc, ◌+◌, ◌≤◌, ◌<◌}
use mathlib.Core.Path.{◌≡◌, refl, sym, ap, ◌∙◌}
use mathlib.Core.List.{List}
use native.Mathlib.Omega.{arith}
use native.Mathlib.Decide.{dec_lt, dec_le}
use Rattle.tables.specs.Row.{places_of}
use Rattle.tables.specs.Table.{rows_of, row_at, places_before, places_in, InRow, rows_before, row_of}
use Rattle.tables.proofs.Rows.{total_next, ends_before, ends_after}

pub places_grow : (t : List ℕ) (i j : ℕ) → i ≤ j → places_before t i ≤ places_before t j
places_grow t i zero h = let same : i ≡ 0 = omega arith in rw same (omega arith)
places_grow t i (suc j) h = go (dec_le i j) (places_grow t i j)
  where
    go : Dec (i ≤ j) → (i ≤ j → places_before t i ≤ places_before t j) → places_before t i ≤ places_before t (suc j)
    go (yes g) rest = omega (arith, rest g, total_next t j)
    go (no g) rest = let same : i ≡ suc j = omega arith in rw same (omega arith)

-- one row ends where the next begins, so no place is in two
pub row_unique : (t : List ℕ) (p r r' : ℕ) → InRow t p r → InRow t p r' → r ≡ r'
row_unique t p r r' a b = go (dec_lt r r') (dec_lt r' r)
  where
    go : Dec (r < r') → Dec (r' < r) → r ≡ r'
    go (yes h) d = absurd (omega (arith, places_grow t (suc r) r' h, a.to, b.from))
    go (no h) (yes g) = absurd (omega (arith, places_grow t (suc r') r g, b.to, a.from))
    go (no h) (no g) = omega arith

module _ (t : List ℕ) (p : ℕ) where
  all_end : (n : ℕ) → places_before t n ≤ p → rows_before t p n ≡ n
  unfolding rows_before
  all_end zero h = refl
  all_end (suc n) h = ends_before t p n h ∙ ap suc (all_end n (omega (arith, total_next t n)))

  found : (n : ℕ) → p < places_before t n → (rows_before t p n < n) × InRow t p (rows_before t p n)
  unfolding places_before
  found zero h = absurd (omega arith)
  found (suc n) h = rw (ends_after t p n h) (go (dec_lt p (places_before t n)) (found n))
    where
      go : Dec (p < places_before t n) → (p < places_before t n → (rows_before t p n < n) × InRow t p (rows_before t p n))
          → (rows_before t p n < suc n) × InRow t p (rows_before t p n)
      go (yes g) rest = (omega (arith, (rest g).0), (rest g).1)
      go (no g) rest = rw (all_end n (omega arith)) (omega arith, record { from = omega arith; to = h })

  pub row_below : p < places_in t → row_of t p < rows_of t
  row_below h = (found (rows_of t) h).0

  pub row_holds : p < places_in t → InRow t p (row_of t p)
  row_holds h = (found (rows_of t) h).1

  pub row_only : (r : ℕ) → p < places_in t → InRow t p r → r ≡ row_of t p
  row_only r h a = row_unique t p r (row_of t p) a (row_holds h)

-- place i of row r
pub place_in : (t : List ℕ) (r i : ℕ) → r < rows_of t → i < places_of (row_at t r)
    → (places_before t r + i < places_in t) × (row_of t (places_before t r + i) ≡ r)
place_in t r i h g =
    let p = places_before t r + i in
    let below : p < places_in t = omega (arith, total_next t r, places_grow t (suc r) (rows_of t) h) in
    (below, sym (row_only t p r below (record { from = omega arith; to = omega (arith, total_next t r) })))
