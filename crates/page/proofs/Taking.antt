-- What take says and leaves with books, a table and a page that passed, check by check.
use Prim.Native.Nat.{ℕ, ◌≤◌, ◌<◌}
use mathlib.Core.Bool.{Bool, true, false, not, false≢true}
use mathlib.Core.List.{List, [], ◌∷◌}
use mathlib.Core.Path.{◌≡◌, refl, sym, ap, ◌∙◌}
use native.Mathlib.Omega.{arith}
use lib.Dec.{eqb}
use lib.ListN.{length}
use borrow.Author.Tests.{eqb-true}
use Rattle.answers.specs.Checks.{first_of, leaves}
use Rattle.tables.proofs.PlaceChecks.{no_book, some_book, no_place_lem, some_place}
use Rattle.tables.specs.Table.{row_of}
use Rattle.records.specs.Naming.{IsNamed}
use Rattle.records.specs.Record.{record_check, place_in, row_in}
use Rattle.records.specs.declared.inner.Named.{Named}
use Rattle.layout.specs.Layout.{set_cell}
use Rattle.layout.specs.declared.Layout.{Layout}
use Rattle.cells.specs.Spots.{Locatable, IsSpot, SpotIn, page_there, cell_there, bad_there}
use Rattle.cells.specs.declared.inner.spot.Spot.{Spot}
use Rattle.cells.proofs.Spots as spots
use Rattle.laws.proofs.Layouts.{as_sized}
use Rattle.laws.proofs.Pages.{page_books, page_size}
use Rattle.rules.specs.Layouts.{as_cells}
use Rattle.rules.specs.Taking.{cell_for, bad_at, arrive_cell, take_rest, take_into}
use Rattle.places.proofs.Opening.{locatable, spot_in, page_there_lem, cell_there_lem}
use Rattle.page.specs.Bounds.{Ready, place_named, other_named, Tells}

module _ (layout : Layout) {t : List ℕ} {books : ℕ} (page : List ℕ) {places : ℕ} (ready : Ready t books (as_cells layout t books page) places) (x : List ℕ) where
  -- the page cell by cell
  abbrev pg : List ℕ
  pg = as_cells layout t books page

  -- what is said and what is left
  abbrev Does : List ℕ → List ℕ → Type 0
  Does said left = (said ≡ first_of (take_rest t books pg x) (0 ∷ [])) × (left ≡ leaves (take_rest t books pg x) (take_into t pg x) pg)

  pub take_4 : (record_check (length x)).fails ≡ true → Does (4 ∷ []) pg
  take_4 e = rw e (refl, refl)

  module _ (eight : (record_check (length x)).fails ≡ false) {named : Named} (is : IsNamed x named) where
    pub take_8_book : books ≤ named.book → Does (8 ∷ []) pg
    take_8_book h = rw (eight, ← is.is_book, no_book books named.book h) (refl, refl)

    module _ (in_books : named.book < books) where
      pub take_8 : places ≤ named.place → Does (8 ∷ []) pg
      take_8 h = rw (eight, ← is.is_book, some_book books named.book in_books, ← is.is_place, no_place_lem t named.place ready.is_places h) (refl, refl)

      module _ (h : named.place < places) where
        pub its_spot : Locatable places books named
        its_spot = locatable t books (page_books t books pg ready.passes) ready.is_places named in_books (omega (arith, ready.is_places))

        -- `foreign` is what was told of 9
        module _ {foreign : Bool} (told : Tells t x foreign) where
          row_byte : {b : Bool} → foreign ≡ b → not (eqb (row_in x) (row_of t named.place)) ≡ b
          row_byte same = rw is.is_place (sym (told eight (rw (← is.is_place) (some_place t named.place ready.is_places h))) ∙ same)

          pub take_9 : foreign ≡ true → Does (9 ∷ []) pg
          take_9 e =
              rw (eight, ← is.is_book, some_book books named.book in_books, ← is.is_place, some_place t named.place ready.is_places h, row_byte e)
              (refl, refl)

          -- the cell was found
          module _ (own : foreign ≡ false) {spot : Spot} (located : IsSpot layout places books named spot) where
            pub its_cell : SpotIn page spot
            its_cell =
                spot_in t books (page_books t books pg ready.passes) ready.is_places named in_books (omega (arith, ready.is_places)) located page
                (as_sized layout t books page (page_size t books pg ready.passes))

            its_page : (page : List ℕ) → page_there page spot ≡ as_cells layout t books page
            its_page =
                page_there_lem t books (page_books t books pg ready.passes) ready.is_places named in_books (omega (arith, ready.is_places)) located

            its_bytes : cell_there page spot ≡ cell_for t pg named.book named.place
            its_bytes =
                cell_there_lem t books (page_books t books pg ready.passes) ready.is_places named in_books (omega (arith, ready.is_places)) located page

            own_row : named.row ≡ row_of t named.place
            own_row = is.is_row ∙ go (eqb (row_in x) (row_of t named.place)) refl (row_byte own)
              where
                go : (b : Bool) → eqb (row_in x) (row_of t named.place) ≡ b → not b ≡ false → row_in x ≡ row_of t named.place
                go true e f = eqb-true (row_in x) (row_of t named.place) e
                go false e f = absurd (false≢true (sym f))

            -- `bad` is what was found of the cell, `left` what was made of the page
            module _ {bad : Bool} (found : bad ≡ bad_there page spot) (left : List ℕ)
                (made : page_there left spot
                ≡ set_cell (page_there page spot) spot.position.cell (arrive_cell spot.named.book spot.named.place spot.named.row x (cell_there page spot))) where
              found_is : {b : Bool} → bad ≡ b → bad_at t pg named.book named.place ≡ b
              found_is same = rw (← own_row, ← its_bytes, ← located.is_named) (sym found ∙ same)

              pub take_12 : bad ≡ true → Does (12 ∷ []) (as_cells layout t books left)
              take_12 e =
                  let there = page_there page spot in
                  let back : page_there left spot ≡ there =
                  made ∙ rw (sym found ∙ e) (spots.stays page spot its_cell) in
                  let kept : as_cells layout t books left ≡ pg = sym (its_page left) ∙ back ∙ its_page page in
                  rw (eight, ← is.is_book, some_book books named.book in_books, ← is.is_place, some_place t named.place ready.is_places h, row_byte own, found_is e)
                  (refl, kept)

              pub take_0 : bad ≡ false → Does (0 ∷ []) (as_cells layout t books left)
              take_0 e =
                  let taken = rw (sym found ∙ e) at made in
                  rw (eight, ← is.is_book, some_book books named.book in_books, ← is.is_place, some_place t named.place ready.is_places h, row_byte own, found_is e)
                  (refl, sym (its_page left) ∙ taken ∙ rw (its_bytes, its_page page, located.is_cell, ready.is_places) refl)

-- 9 is told by the row of the place that x names
pub tells_by : (t x : List ℕ) {q row : ℕ} {foreign : Bool} → q ≡ place_named x → row ≡ row_of t q → foreign ≡ other_named row x → Tells t x foreign
tells_by t x is_place is_row is eight inside =
    let own : place_named x ≡ place_in x = rw eight refl in
    is ∙ rw eight (ap (λ (r : ℕ). not (eqb (row_in x) r)) (is_row ∙ ap (row_of t) (is_place ∙ own)))
