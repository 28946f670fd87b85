-- A table with its books and a page that take records: what the checks of all three tell where they pass, and the other
-- way round; and refusal 12 at a place, judged on the way through the rows. With a mode before them and a book they are
-- what a reading call asks.
use Prim.Native.Nat.{ℕ, ◌<◌}
use mathlib.Core.Bool.{Bool, true, false}
use mathlib.Core.List.{List, [], ◌∷◌}
use mathlib.Core.Logic.{◌⊎◌, inl, inr}
use mathlib.Core.Path.{◌≡◌, refl, sym, ap, ◌∙◌}
use lib.Dec.{lit<}
use lib.ListN.{length}
use borrow.Author.Tests.{eq-eqb}
use Rattle.answers.proofs.InOrder.{Numbered, numbered_then, none_of, passes_apart, passes_then}
use Rattle.answers.proofs.Lengths.{right_length}
use Rattle.answers.specs.Checks.{any_of, fails_of, Passes}
use Rattle.tables.proofs.PlaceChecks.{sharing_numbered, sharing_good, book_numbered, book_passes, place_numbered, place_passes}
use Rattle.tables.proofs.Walking.{its_row}
use Rattle.tables.specs.BookNumbers.{sharing_checks, GoodBooks, book_checks, place_checks}
use Rattle.tables.specs.Table.{places_in, Good}
use Rattle.tables.specs.Way.{AtRow}
use Rattle.layout.specs.Layout.{cells_of, page_length}
use Rattle.rules.specs.Modes.{no_such_mode}
use Rattle.rules.specs.Taking.{cell_for, bad_cell, bad_at, page_check, page_checks}
use Rattle.rules.specs.Reading.{look_checks}
use Rattle.rules.specs.Tallying.{whole_checks}

-- a page of the right length, for its table and its books
abbrev pub Sized : List ℕ → ℕ → List ℕ → Type 0
Sized t books pg = length pg ≡ page_length (cells_of (places_in t) books)

pub right_page : (t : List ℕ) (books : ℕ) (pg : List ℕ) → Sized t books pg → (page_check t books pg).fails ≡ false
right_page t books pg size = rw (eq-eqb (length pg) (page_length (cells_of (places_in t) books)) size) refl

pub page_right : (t : List ℕ) (books : ℕ) (pg : List ℕ) → (page_check t books pg).fails ≡ false → Sized t books pg
page_right t books pg passes = right_length (length pg) (page_length (cells_of (places_in t) books)) passes

-- ---- a table, its books and a page: 17, 7, 4
module _ (t : List ℕ) (books : ℕ) (pg : List ℕ) where
  pub page_numbered : Numbered (page_checks t books pg)
  page_numbered = numbered_then (sharing_checks t books) (page_check t books pg ∷ []) (sharing_numbered t books) (lit< tt, tt)

  pub page_passes : GoodBooks t books → Sized t books pg → Passes (page_checks t books pg)
  page_passes good size = passes_then (sharing_checks t books) (page_check t books pg ∷ []) good (right_page t books pg size, tt)

  module _ (ready : Passes (page_checks t books pg)) where
    pub page_books : GoodBooks t books
    page_books = (passes_apart (sharing_checks t books) (page_check t books pg ∷ []) ready).0

    pub page_good : Good t
    page_good = sharing_good t books page_books

    pub page_size : Sized t books pg
    page_size = page_right t books pg (passes_apart (sharing_checks t books) (page_check t books pg ∷ []) ready).1.0

  -- either they pass, or every take is refused
  pub ready_or_shut : Passes (page_checks t books pg) ⊎ (any_of (fails_of (page_checks t books pg)) ≡ true)
  ready_or_shut = go (any_of (fails_of (page_checks t books pg))) refl
    where
      go : (b : Bool) → any_of (fails_of (page_checks t books pg)) ≡ b → Passes (page_checks t books pg) ⊎ (b ≡ true)
      go true e = inr refl
      go false e = inl (none_of (fails_of (page_checks t books pg)) e)

-- ---- a mode, a table, its books, a book and a page: 16, 17, 7, 8, 4
module _ (mode : ℕ) (t : List ℕ) (books book : ℕ) (pg : List ℕ) where
  pub whole_numbered : Numbered (whole_checks mode t books book pg)
  whole_numbered = (lit< tt, numbered_then (book_checks t books book) (page_check t books pg ∷ []) (book_numbered t books book) (lit< tt, tt))

  pub whole_passes : no_such_mode mode ≡ false → Passes (book_checks t books book) → Sized t books pg → Passes (whole_checks mode t books book pg)
  whole_passes known good size = (known, passes_then (book_checks t books book) (page_check t books pg ∷ []) good (right_page t books pg size, tt))

  pub whole_page : Passes (whole_checks mode t books book pg) → Passes (page_checks t books pg) × (book < books)
  whole_page ready =
      let both = passes_apart (book_checks t books book) (page_check t books pg ∷ []) ready.1 in
      let shared = book_passes t books book both.0 in
      (page_passes t books pg shared.0 (page_right t books pg both.1.0), shared.1)

-- ---- a mode, a table, its books, a book, a place in it and a page: 16, 17, 7, 8, 4
module _ (mode : ℕ) (t : List ℕ) (books book : ℕ) (pg : List ℕ) (p : ℕ) where
  pub look_numbered : Numbered (look_checks mode t books book pg p)
  look_numbered =
      (lit< tt, numbered_then (place_checks t books book p) (page_check t books pg ∷ []) (place_numbered t books book p) (lit< tt, tt))

  pub look_passes : no_such_mode mode ≡ false → Passes (place_checks t books book p) → Sized t books pg → Passes (look_checks mode t books book pg p)
  look_passes known place size = (known, passes_then (place_checks t books book p) (page_check t books pg ∷ []) place (right_page t books pg size, tt))

  module _ (ready : Passes (look_checks mode t books book pg p)) where
    look_both : Passes (book_checks t books book) × (p < places_in t)
    look_both = place_passes t books book p (passes_apart (place_checks t books book p) (page_check t books pg ∷ []) ready.1).0

    -- the table is good with its books, and the book is one of them
    pub look_shared : GoodBooks t books × (book < books)
    look_shared = book_passes t books book look_both.0

    pub look_place : Good t × (p < places_in t)
    look_place = (sharing_good t books look_shared.0, look_both.1)

    pub look_size : Sized t books pg
    look_size = page_right t books pg (passes_apart (place_checks t books book p) (page_check t books pg ∷ []) ready.1).1.0

-- ---- a place on the way through the rows: 12 in the row that was reached is 12 in the row of the place
pub bad_on_way : {t : List ℕ} {row end p : ℕ} → AtRow t row end p → p < places_in t → (pg : List ℕ) (book : ℕ) {b : Bool}
    → bad_cell book p row (cell_for t pg book p) ≡ b → bad_at t pg book p ≡ b
bad_on_way {t = t} {p = p} at_row inside pg book found = ap (λ (r : ℕ). bad_cell book p r (cell_for t pg book p)) (sym (its_row at_row inside)) ∙ found
