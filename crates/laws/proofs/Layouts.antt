-- A page that is kept in a layout, cell by cell: it passes the same checks of its length; and what a page is cell by
-- cell tells the page.
use Prim.Native.Nat.{ℕ}
use mathlib.Core.List.{List, [], ◌∷◌, ◌++◌}
use mathlib.Core.Path.{◌≡◌, sym, ap, ◌∙◌}
use lib.ListN.{length}
use Rattle.answers.specs.Checks.{Check}
use Rattle.tables.specs.BookNumbers.{sharing_checks, book_checks, place_checks}
use Rattle.tables.specs.Table.{places_in}
use Rattle.layout.proofs.Converting.{converted_length, converted_back, converted_same}
use Rattle.layout.specs.Layout.{cells_of, page_length_check}
use Rattle.layout.specs.declared.Layout.{Layout}
use Rattle.layout.specs.declared.Layout.TheVariants as layouts
use Rattle.rules.specs.Layouts.{as_cells, as_kept}
use Rattle.rules.specs.Modes.{mode_check}
use Rattle.rules.specs.Reading.{look_checks}
use Rattle.rules.specs.Taking.{page_check, page_checks}
use Rattle.rules.specs.Tallying.{whole_checks}
use Rattle.laws.proofs.Pages.{Sized}

module _ (layout : Layout) (t : List ℕ) (books : ℕ) (pg : List ℕ) where
  pub as_cells_length : length (as_cells layout t books pg) ≡ length pg
  as_cells_length = converted_length layout layouts.CellByCell (cells_of (places_in t) books) pg

  same_check : page_check t books pg ≡ page_check t books (as_cells layout t books pg)
  same_check = ap (page_length_check (cells_of (places_in t) books)) (sym as_cells_length)

  pub same_page_checks : page_checks t books pg ≡ page_checks t books (as_cells layout t books pg)
  same_page_checks = ap (λ (check : Check). sharing_checks t books ++ (check ∷ [])) same_check

  pub same_whole_checks : (mode book : ℕ) → whole_checks mode t books book pg ≡ whole_checks mode t books book (as_cells layout t books pg)
  same_whole_checks mode book = ap (λ (check : Check). mode_check mode ∷ book_checks t books book ++ (check ∷ [])) same_check

  pub same_look_checks : (mode book p : ℕ) → look_checks mode t books book pg p ≡ look_checks mode t books book (as_cells layout t books pg) p
  same_look_checks mode book p = ap (λ (check : Check). mode_check mode ∷ place_checks t books book p ++ (check ∷ [])) same_check

  pub as_sized : Sized t books (as_cells layout t books pg) → Sized t books pg
  as_sized size = sym as_cells_length ∙ size

  -- a page is what is left of it cell by cell, as it is kept
  pub as_kept_lem : {left : List ℕ} → as_cells layout t books pg ≡ left → pg ≡ as_kept layout t books left
  as_kept_lem same = sym (converted_back layout layouts.CellByCell (cells_of (places_in t) books) pg) ∙ ap (as_kept layout t books) same

-- a page that is kept cell by cell is what it is
pub cells_already : (t : List ℕ) (books : ℕ) (pg : List ℕ) → as_cells layouts.CellByCell t books pg ≡ pg
cells_already t books pg = converted_same layouts.CellByCell (cells_of (places_in t) books) pg
