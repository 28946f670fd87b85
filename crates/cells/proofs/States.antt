-- What refusal 12 says of a held record: one of another book is at fault, and at home the row decides.
use Prim.Native.Nat.{ℕ}
use mathlib.Core.Bool.{or-false, true, not}
use mathlib.Core.Path.{◌≡◌, refl, sym}
use lib.Dec.{eqb}
use borrow.Author.Tests.{eq-eqb, ne_eqb}
use Rattle.records.specs.Record.{book_in, place_in, row_in}
use Rattle.layout.specs.Layout.{Cell}
use Rattle.rules.specs.Taking.{bad_cell}

module _ (book p r : ℕ) (c : Cell) (held : c.state ≡ 1) where
  pub of_another_book : (book_in c.bytes ≡ book → ⊥) → true ≡ bad_cell book p r c
  unfolding bad_cell
  of_another_book other = rw (held, ne_eqb (book_in c.bytes) book other) refl

  pub held_here : book_in c.bytes ≡ book → place_in c.bytes ≡ p → not (eqb (row_in c.bytes) r) ≡ bad_cell book p r c
  unfolding bad_cell
  held_here of_book here =
      rw (held, eq-eqb (book_in c.bytes) book of_book, eq-eqb (place_in c.bytes) p here) (sym (or-false (not (eqb (row_in c.bytes) r))))
