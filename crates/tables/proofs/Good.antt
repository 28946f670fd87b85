-- What a good table gives to those that work with it: its size, and every row in range, each of its radii usable.
use Prim.Native.Nat.{ℕ, zero, suc, ◌%◌, ◌≤◌, ◌<◌}
use mathlib.Core.Path.{◌≡◌}
use mathlib.Core.List.{List, [], ◌∷◌}
use mathlib.Core.Bool.{not}
use native.Mathlib.Omega.{arith}
use lib.Dec.{eqb, ltb}
use lib.ListN.{length}
use borrow.Author.Tests.{ltb-false}
use Rattle.answers.specs.Checks.{NoneOf}
use Rattle.answers.proofs.InOrder.{none_of}
use Rattle.answers.proofs.Each.{each_passes}
use Rattle.tables.specs.Row.{bad_row, GoodRow}
use Rattle.tables.specs.Table.{rows_of, row_at, RightSize, places_before, places_in, passes_total, row_check, Good, row_of, row_for}
use Rattle.tables.proofs.Places.{row_below}
use Rattle.tables.proofs.GoodRow.{is_zero, good_exactly}

pub right_size : (t : List ℕ) → Good t → RightSize t
right_size t good =
    let n = length t in
    let none = none_of (ltb n 1 ∷ ltb 512 n ∷ not (eqb (n % 16) 0) ∷ []) good.0 in
    let from : 1 ≤ n = ltb-false n 1 none.0 in
    let to : n ≤ 512 = ltb-false 512 n none.1.0 in
    let whole : n % 16 ≡ 0 = is_zero (n % 16) none.1.1.0 in
    record { rows_from = omega arith; rows_to = omega arith; whole = omega arith }

module _ (t : List ℕ) (good : Good t) where
  row_good : (r : ℕ) → r < rows_of t → NoneOf (bad_row (row_at t r) ∷ passes_total t r ∷ [])
  row_good r h = none_of (bad_row (row_at t r) ∷ passes_total t r ∷ []) (each_passes (row_check t) 0 (rows_of t) r good.1 (omega arith) (omega arith))

  pub good_row : (r : ℕ) → r < rows_of t → GoodRow (row_at t r)
  good_row r h = (good_exactly (row_at t r)).0 (row_good r h).0

  pub good_total : (r : ℕ) → r ≤ rows_of t → places_before t r ≤ 4096
  unfolding places_before
  good_total zero h = omega arith
  good_total (suc r) h = ltb-false 4096 (places_before t (suc r)) (row_good r (omega arith)).1.0

  pub places_to : places_in t ≤ 4096
  places_to = good_total (rows_of t) (omega arith)

-- the row of a place of a good table
pub good_place : (t : List ℕ) (p : ℕ) → Good t → p < places_in t → (row_of t p < rows_of t) × GoodRow (row_for t p)
good_place t p good h = let below = row_below t p h in (below, good_row t good (row_of t p) below)
