-- The way through the places of a page along a run of coefficients: where the next place's coordinates begin.
use Prim.Native.Nat.{ℕ, suc, ◌+◌, ◌≤◌, ◌<◌}
use mathlib.Core.List.{List}
use mathlib.Core.Path.{◌≡◌, refl, sym, ap, ◌∙◌}
use native.Mathlib.Numerals.{add-one}
use native.Mathlib.Omega.{arith}
use lib.Ieee.{Float}
use lib.ListN.{length, take, drop}
use Rattle.tables.proofs.Places.{places_grow}
use Rattle.tables.proofs.Walking.{its_row, walks_here, walks_on}
use Rattle.tables.specs.Row.{length_of}
use Rattle.tables.specs.Table.{rows_of, row_at, places_in, length_for}
use Rattle.tables.specs.Way.{AtRow}
use Rattle.runs.specs.Run.{coordinates_before, coordinates_in, vector_for}
use Rattle.runs.specs.Way.{Reached, Passed}
use Rattle.runs.proofs.Positions.{none_before, before_next, before_to, ends_within}

-- the way begins at place 0
pub begins : {t : List ℕ} {row end : ℕ} → AtRow t row end 0 → Reached t row end 0 0
begins {t} at_row = record { to = omega arith; on = walks_here at_row; is_from = sym (none_before t) }

-- behind a place that is passed, the next one is reached
pub goes_on : {t : List ℕ} {row end from p : ℕ} → Passed t row end from p → Reached t row end from (p + 1)
goes_on {t} {row} {p = p} passed =
    let at_row = passed.at in
    record {
      to = omega (arith, at_row.in_row.to, places_grow t (suc row) (rows_of t) at_row.below);
      on = walks_on at_row;
      is_from = rw (add-one p) passed.is_from;
    }

-- place p is in row r of the table, whose bytes are `row`, and l is its length
module _ {t row : List ℕ} {r₀ end₀ r end from p l : ℕ} (so_far : Reached t r₀ end₀ from p) (inside : p < places_in t) (at_row : AtRow t r end p)
    (is_row : row ≡ row_at t r) (is_length : l ≡ length_of row) where
  pub its_length : l ≡ length_for t p
  its_length = is_length ∙ ap length_of is_row ∙ ap (λ (n : ℕ). length_of (row_at t n)) (its_row at_row inside)

  -- its coordinates are in the run, and are its vector
  module _ (run : List Float) (run_long : length run ≡ coordinates_in t) where
    pub part_in : from + l ≤ length run
    part_in = rw (so_far.is_from, its_length, run_long) (ends_within t p inside)

    pub its_vector : {v : List Float} → v ≡ take l (drop from run) → v ≡ vector_for t run p
    its_vector lent = lent ∙ rw (so_far.is_from, its_length) refl

  -- where the next place's begin
  pub next_begins : from + l ≡ coordinates_before t (p + 1)
  next_begins = rw (so_far.is_from, its_length, add-one p) (sym (before_next t p))

  pub passed : Passed t r end (from + l) p
  passed = record { at = at_row; is_from = rw (add-one p) at next_begins }

  pub next_fits : from + l ≤ 65536
  next_fits = rw next_begins (before_to t at_row.good (p + 1) (omega (arith, inside)))
