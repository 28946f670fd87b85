-- What each turn of the loop keeps in `pairing::inner::survey::survey`: of the rows from `number` on, what is left of
-- the checks decides; the places and the row are those of the rows before.
use Prim.Native.Nat.{ℕ, ◌-◌, ◌≤◌}
use mathlib.Core.Path.{◌≡◌}
use mathlib.Core.List.{List}
use Rattle.answers.specs.Checks.{first_of, each_from}
use Rattle.tables.specs.Table.{rows_of, places_before, rows_before, row_check, table_checks}
use Rattle.pairing.proofs.inner.survey.survey.Given as goal

abbrev pub invariant-loop-number : goal.invariant-loop-number
invariant-loop-number l =
    (l.number ≤ rows_of l.table)
    × (l.sum ≡ places_before l.table l.number)
    × (l.sum ≤ 4096)
    × (l.row ≡ rows_before l.table l.place l.number)
    × ((answer : List ℕ)
    → first_of (each_from (row_check l.table) l.number (rows_of l.table - l.number)) answer ≡ first_of (table_checks l.table) answer)
