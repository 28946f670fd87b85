-- The lines of places of a book, one after the other, in a buffer.
use Prim.Native.Nat.{ℕ, ◌+◌, ◌-◌, ◌*◌, ◌≤◌}
use mathlib.Core.List.{List}
use mathlib.Core.Path.{◌≡◌, sym, ap, ap₂, subst, ◌∙◌}
use native.Mathlib.Omega.{arith}
use Rattle.buffers.proofs.Joining.{joined_none, joined_more}
use Rattle.buffers.proofs.Writing.{wrote_none}
use Rattle.buffers.specs.Written.{Wrote}
use Rattle.tables.specs.Table.{row_at, row_of}
use Rattle.layout.specs.Layout.{Cell}
use Rattle.rules.specs.Taking.{cell_for}
use Rattle.reporting.specs.Calls.{line_space}
use Rattle.reporting.specs.Listing.{line_in, line_at, lines_from}

module _ (mode : ℕ) (t pg : List ℕ) (book : ℕ) where
  -- so many lines are written, and no more than that many bytes
  abbrev pub LinesTo : ℕ → ℕ → List ℕ → ℕ → List ℕ → Type 0
  LinesTo from p held end holds = Wrote held 0 (lines_from mode t pg book from (p - from)) (line_space * (p - from)) end holds

  pub begins_lines : (from : ℕ) (held : List ℕ) → LinesTo from from held 0 held
  begins_lines from held = let none : from - from ≡ 0 = omega arith in rw (none, joined_none (line_at mode t pg book) from) (wrote_none held 0)

  -- `row` is what is lent of the row of place p, n its number
  pub line_more : {held x y row : List ℕ} {from p n end r : ℕ} {c : Cell} → from ≤ p → n ≡ row_of t p → row ≡ row_at t n → c ≡ cell_for t pg book p
      → LinesTo from p held end x → Wrote x end (line_in mode row p c) line_space r y → LinesTo from (p + 1) held r y
  line_more {x = x} {y = y} {row = row} {from = from} {p = p} {end = end} {r = r} {c = c} h is_number is_row is_cell so_far line =
      let one : p + 1 - from ≡ (p - from) + 1 = omega arith in
      let here : from + (p - from) ≡ p = omega arith in
      let same : line_in mode row p c ≡ line_at mode t pg book (from + (p - from)) =
      ap₂ (λ (row : List ℕ) (c : Cell). line_in mode row p c) (is_row ∙ ap (row_at t) is_number) is_cell ∙ ap (line_at mode t pg book) (sym here) in
      let next = subst (λ (text : List ℕ). Wrote x end text line_space r y) same line in
      let all = joined_more (line_at mode t pg book) from (p - from) so_far next in
      rw one (record { ends = all.ends; made = all.made; to = omega (arith, all.to) })
