-- The check of the page's length behind a survey by any checks, and what a place of such a page is known by.
use Prim.Native.Nat.{ℕ, ◌≤◌, ◌<◌}
use mathlib.Core.Bool.{Bool}
use mathlib.Core.List.{List, [], ◌∷◌, ◌++◌}
use mathlib.Core.Path.{◌≡◌, refl, ap, ap₂, ◌∙◌}
use lib.ListN.{length}
use Rattle.std.specs.Prelude.{Result, Ok}
use Rattle.answers.proofs.InOrder.{passed_says}
use Rattle.answers.specs.Checks.{Check, first_of, Passes}
use Rattle.answers.specs.declared.Refusal.{Refusal}
use Rattle.pairing.proofs.Surveys.{Surveys, survey_good}
use Rattle.pairing.specs.Meanings.{survey_meaning}
use Rattle.pairing.specs.declared.inner.survey.Surveyed.{Surveyed}
use Rattle.tables.proofs.Good.{good_row, places_to}
use Rattle.tables.proofs.PlaceChecks.{sharing_good, sharing_to}
use Rattle.tables.proofs.Places.{row_below}
use Rattle.tables.proofs.Rows.{row_length_lem}
use Rattle.tables.specs.BookNumbers.{GoodBooks}
use Rattle.tables.specs.Row.{IsRow}
use Rattle.tables.specs.Table.{places_in, row_of, row_for, Good, survey_says}
use Rattle.tables.specs.Way.{AtRow}
use Rattle.records.specs.declared.inner.Named.{Named}
use Rattle.layout.proofs.Books.{cells_to}
use Rattle.layout.specs.Layout.{cells_of, page_length_check}
use Rattle.layout.specs.declared.Layout.{Layout}
use Rattle.cells.specs.Spots.{Locatable, IsSpot, SpotIn, page_there, cell_there, bad_there}
use Rattle.cells.specs.declared.inner.spot.Spot.{Spot}
use Rattle.laws.proofs.Layouts.{as_sized, same_look_checks}
use Rattle.laws.proofs.Pages.{Sized, look_numbered, look_shared, look_place, look_size, bad_on_way}
use Rattle.rules.specs.Layouts.{as_cells}
use Rattle.rules.specs.Reading.{look_checks}
use Rattle.rules.specs.Taking.{cell_for, bad_at, page_check}

-- the check of the page's length stands behind those of any survey
module _ {checks : List Check} {t : List ℕ} {p places row : ℕ} (books : ℕ) (found : Surveys checks t p places row) where
  pub page_behind : (pg : List ℕ) {said : List ℕ} → said ≡ first_of (page_length_check (cells_of places books) (length pg) ∷ []) (0 ∷ places ∷ row ∷ [])
      → said ≡ survey_says (checks ++ (page_check t books pg ∷ [])) t p
  page_behind pg says =
      says
      ∙ ap₂ (λ (n r : ℕ). first_of (page_length_check (cells_of n books) (length pg) ∷ []) (0 ∷ n ∷ r ∷ [])) found.is_places found.is_row
      ∙ passed_says checks (page_check t books pg ∷ []) (0 ∷ places_in t ∷ row_of t p ∷ []) found.passes

  -- a table that passes has at most 4,096 places, and at most 16 books share it
  pub told_to : (Passes checks → GoodBooks t books) → cells_of places books ≤ 65536
  told_to good =
      let shared = good found.passes in
      cells_to places books (rw found.is_places (places_to t (sharing_good t books shared))) (sharing_to t books shared)

-- ---- a place of a book in a page of the right length: where it is looked for, and what stands there
module _ (t : List ℕ) (books : ℕ) (shared : GoodBooks t books) {places : ℕ} (is_places : places ≡ places_in t) (named : Named)
    (in_books : named.book < books) (below : named.place < places_in t) where
  pub locatable : Locatable places books named
  locatable =
      record {
        places_to = rw is_places (places_to t (sharing_good t books shared));
        books_to = sharing_to t books shared;
        in_books = in_books;
        in_book_lem = rw is_places below;
      }

  module _ {layout : Layout} {spot : Spot} (located : IsSpot layout places books named spot) where
    pub spot_in : (pg : List ℕ) → Sized t books pg → SpotIn pg spot
    spot_in pg size = rw (located.is_cells, is_places) size

    pub page_there_lem : (pg : List ℕ) → page_there pg spot ≡ as_cells layout t books pg
    page_there_lem pg = rw (located.is_layout, located.is_cells, is_places) refl

    pub cell_there_lem : (pg : List ℕ) → cell_there pg spot ≡ cell_for t (as_cells layout t books pg) named.book named.place
    cell_there_lem pg = rw (page_there_lem pg, located.is_cell, is_places) refl

    -- 12 of it, in a row that was reached on the way through the rows
    pub bad_there_lem : {end : ℕ} → AtRow t named.row end named.place → (pg : List ℕ) {b : Bool} → bad_there pg spot ≡ b
        → bad_at t (as_cells layout t books pg) named.book named.place ≡ b
    bad_there_lem at_row pg found = bad_on_way at_row below (as_cells layout t books pg) named.book (rw (located.is_named, cell_there_lem pg) at found)

-- the row of a place
pub row_of_place : (t : List ℕ) (p : ℕ) → Good t → p < places_in t → IsRow (row_for t p)
row_of_place t p good below =
    let in_table = row_below t p below in
    record { sixteen = row_length_lem t (row_of t p) in_table; row_good = good_row t good (row_of t p) in_table }

-- ---- a place that may be looked at in a page that is kept in a layout
module _ (layout : Layout) (mode : ℕ) (t : List ℕ) (books book : ℕ) (page : List ℕ) (p : ℕ) where
  abbrev pg : List ℕ
  pg = as_cells layout t books page

  -- what its survey says, of the page cell by cell
  pub look_says : {said : List ℕ} → said ≡ survey_says (look_checks mode t books book page p) t p → said ≡ survey_says (look_checks mode t books book pg p) t p
  look_says says = says ∙ ap (λ (checks : List Check). survey_says checks t p) (same_look_checks layout t books page mode book p)

  pub look_found : {survey : Result Surveyed Refusal} {s : Surveyed} → survey_meaning survey ≡ survey_says (look_checks mode t books book page p) t p
      → survey ≡ Ok s → Surveys (look_checks mode t books book pg p) t p s.places s.row
  look_found says told = survey_good (look_checks mode t books book pg p) t p (look_says says) (look_numbered mode t books book pg p) told

  module _ {places row : ℕ} (found : Surveys (look_checks mode t books book pg p) t p places row) where
    abbrev pub named_at : Named
    named_at = record { book = book; place = p; row = row }

    shared : GoodBooks t books
    shared = (look_shared mode t books book pg p found.passes).0

    in_books : book < books
    in_books = (look_shared mode t books book pg p found.passes).1

    below : p < places_in t
    below = (look_place mode t books book pg p found.passes).1

    pub look_locatable : Locatable places books named_at
    look_locatable = locatable t books shared found.is_places named_at in_books below

    module _ {spot : Spot} (located : IsSpot layout places books named_at spot) where
      pub look_spot_in : SpotIn page spot
      look_spot_in =
          spot_in t books shared found.is_places named_at in_books below located page
          (as_sized layout t books page (look_size mode t books book pg p found.passes))

      pub look_cell : cell_there page spot ≡ cell_for t pg book p
      look_cell = cell_there_lem t books shared found.is_places named_at in_books below located page
