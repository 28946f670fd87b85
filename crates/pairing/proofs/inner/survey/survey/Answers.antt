-- `pairing::inner::survey::survey` says what the checks of a table say, with the places and the row of the place
-- where they pass.
use Prim.Native.Nat.{ℕ, suc, ◌+◌}
use mathlib.Core.Path.{◌≡◌, refl, sym, ap, ◌∙◌}
use mathlib.Core.List.{List, [], ◌∷◌}
use mathlib.Core.Logic.{inl, inr}
use native.Mathlib.Numerals.{add-one}
use native.Mathlib.Omega.{arith}
use Rattle.answers.proofs.Each.{each_refused, each_passed}
use Rattle.tables.specs.Row.{places_of, bad_row}
use Rattle.tables.specs.Table.{rows_of, places_in, places_before, rows_before, row_of, row_check}
use Rattle.tables.proofs.Rows.{size_passes, total_next, row_fails, total_fails, row_passes, rows_to, row_next}
use Rattle.pairing.proofs.inner.survey.survey.Goals.{then-sum-place, else-sum-place}
use Rattle.pairing.proofs.inner.survey.survey.Goals as goal

pub loop-number-init : goal.loop-number-init
unfolding places_before rows_before
loop-number-init c = (omega arith, refl, omega arith, refl, size_passes c.args.table.now (sym c.wrong_size.ensures ∙ c.if-wrong_size.false))

pub returns-then-bad_row : goal.returns-then-bad_row
returns-then-bad_row c =
    let t = c.args.table.now in
    let i = c.loop-number in
    let answer : List ℕ = 0 ∷ places_in t ∷ row_of t c.args.place ∷ [] in
    let bad = ap bad_row (sym (c.rows-bytes-items.ensures.each i.number (omega arith))) ∙ sym c.bad_row.ensures ∙ c.if-bad_row.true in
    sym (each_refused (row_check t) answer i.number (rows_of t) (omega arith) (row_fails t i.number bad)) ∙ i.invariant.4 answer

pub returns-then-sum-gt4096 : goal.returns-then-sum-gt4096
returns-then-sum-gt4096 c =
    let t = c.args.table.now in
    let i = c.loop-number in
    let answer : List ℕ = 0 ∷ places_in t ∷ row_of t c.args.place ∷ [] in
    let bytes = c.rows-bytes-items.ensures.each i.number (omega arith) in
    let good = ap bad_row (sym bytes) ∙ sym c.bad_row.ensures ∙ c.if-bad_row.false in
    let places = c.places-sum.ensures.0 ∙ ap places_of bytes in
    sym (each_refused (row_check t) answer i.number (rows_of t) (omega arith) (total_fails t i.number good (omega (arith, places, total_next t i.number))))
    ∙ i.invariant.4 answer

pub overflow_add-row : goal.overflow_add-row
overflow_add-row c = record { fits = omega (arith, c.loop-number.invariant.3, rows_to c.args.table.now c.args.place c.loop-number.number) }

pub loop-number-preserved : goal.loop-number-preserved
loop-number-preserved c =
    let t = c.args.table.now in
    let i = c.loop-number in
    let bytes = c.rows-bytes-items.ensures.each i.number (omega arith) in
    let places = c.places-sum.ensures.0 ∙ ap places_of bytes in
    let sum = i.sum + c.places-sum.result in
    let total : sum ≡ places_before t (suc i.number) = omega (arith, places, total_next t i.number) in
    let good = ap bad_row (sym bytes) ∙ sym c.bad_row.ensures ∙ c.if-bad_row.false in
    let passed = row_passes t i.number good (omega arith) in
    let row =
    row_next t c.args.place i.number i.row sum c.if-sum-place.row i.invariant.3 total
    (elim c.if-sum-place.branch [ then-sum-place w ↦ inl (w.if-sum-place.true, w.row-is) | else-sum-place w ↦ inr (w.if-sum-place.false, w.row-is) ]) in
    rw add-one
    (omega arith, total, omega arith, row, λ answer. sym (each_passed (row_check t) answer i.number (rows_of t) (omega arith) passed) ∙ i.invariant.4 answer)
