-- The rows of a table as a survey goes through them: their bytes, the running total, and whether a row is bad.
use Prim.Native.Nat.{ℕ, zero, suc, ◌+◌, ◌-◌, ◌*◌, ◌≤◌, ◌<◌}
use mathlib.Core.Path.{◌≡◌, refl}
use mathlib.Core.List.{List}
use mathlib.Core.Bool.{true, false}
use mathlib.Core.Logic.{◌⊎◌, ⊎_elim}
use native.Mathlib.Omega.{arith}
use native.Mathlib.Decide.{dec_le}
use lib.ListN.{length, drop, length-drop}
use lib.Seq.{length-take-le}
use borrow.Author.Tests.{lt-ltb, le-ltb, le-leb, lt-leb}
use Rattle.answers.specs.Checks.{first_of, each_from}
use Rattle.tables.specs.Row.{row_length, places_of, bad_row}
use Rattle.tables.specs.Table.{rows_of, row_at, wrong_size, places_before, passes_total, row_check, table_checks, rows_before}

-- a row has 16 bytes
pub row_length_lem : (t : List ℕ) (r : ℕ) → r < rows_of t → length (row_at t r) ≡ row_length
unfolding row_at
row_length_lem t r h = length-take-le row_length (drop (row_length * r) t) (rw (length-drop (row_length * r) t) (omega arith))

-- a table of the right size is judged by its rows
pub size_passes : (t : List ℕ) → wrong_size (length t) ≡ false → (answer : List ℕ)
    → first_of (each_from (row_check t) 0 (rows_of t - 0)) answer ≡ first_of (table_checks t) answer
size_passes t e answer = let all : rows_of t - 0 ≡ rows_of t = omega arith in rw (e, all)

module _ (t : List ℕ) (r : ℕ) where
  pub total_next : places_before t (suc r) ≡ places_before t r + places_of (row_at t r)
  unfolding places_before
  total_next = refl

  -- 4,096 places are good, and one more is not
  past_total : 4096 < places_before t (suc r) → passes_total t r ≡ true
  past_total h = lt-ltb _ (places_before t (suc r)) (omega arith)

  within_total : places_before t (suc r) ≤ 4096 → passes_total t r ≡ false
  within_total h = le-ltb _ (places_before t (suc r)) (omega arith)

  pub row_fails : bad_row (row_at t r) ≡ true → (row_check t r).fails ≡ true
  row_fails e = rw e

  pub total_fails : bad_row (row_at t r) ≡ false → 4096 < places_before t (suc r) → (row_check t r).fails ≡ true
  total_fails e h = rw (e, past_total h)

  pub row_passes : bad_row (row_at t r) ≡ false → places_before t (suc r) ≤ 4096 → (row_check t r).fails ≡ false
  row_passes e h = rw (e, within_total h)

module _ (t : List ℕ) (p : ℕ) where
  -- the row of a place after one row more
  pub ends_before : (r : ℕ) → places_before t (suc r) ≤ p → rows_before t p (suc r) ≡ suc (rows_before t p r)
  unfolding rows_before
  ends_before r h = rw (le-leb (places_before t (suc r)) p h)

  pub ends_after : (r : ℕ) → p < places_before t (suc r) → rows_before t p (suc r) ≡ rows_before t p r
  unfolding rows_before
  ends_after r h = rw (lt-leb (places_before t (suc r)) p h)

  pub rows_to : (n : ℕ) → rows_before t p n ≤ n
  unfolding rows_before
  rows_to zero = omega arith
  rows_to (suc n) = go (dec_le (places_before t (suc n)) p) (rows_to n)
    where
      go : Dec (places_before t (suc n) ≤ p) → rows_before t p n ≤ n → rows_before t p (suc n) ≤ suc n
      go (yes h) rest = omega (arith, ends_before n h)
      go (no h) rest = omega (arith, ends_after n (omega arith))

  -- the row that a survey has found so far, with the places up to the end of row r
  pub row_next : (r row places next : ℕ) → row ≡ rows_before t p r → places ≡ places_before t (suc r)
      → ((places ≤ p) × (next ≡ row + 1)) ⊎ ((p < places) × (next ≡ row)) → next ≡ rows_before t p (suc r)
  row_next r row places next e total =
      ⊎_elim (λ w. omega (arith, ends_before r (omega (arith, w.0)), w.1)) (λ w. omega (arith, ends_after r (omega (arith, w.0)), w.1))
