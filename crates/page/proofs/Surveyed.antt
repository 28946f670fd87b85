-- What a call of the page knows once its survey has answered.
use Prim.Native.Nat.{ℕ, ◌<◌}
use mathlib.Core.List.{List}
use mathlib.Core.Path.{◌≡◌, ap, ◌∙◌}
use Rattle.std.specs.Prelude.{Result, Ok}
use Rattle.answers.specs.Checks.{Check}
use Rattle.answers.specs.declared.Refusal.{Refusal}
use Rattle.layout.specs.declared.Layout.{Layout}
use Rattle.pairing.proofs.Surveys.{Surveys, survey_good}
use Rattle.pairing.specs.Meanings.{survey_meaning}
use Rattle.pairing.specs.declared.inner.survey.Surveyed.{Surveyed}
use Rattle.laws.proofs.Layouts.{same_page_checks, same_whole_checks}
use Rattle.laws.proofs.Pages.{page_numbered, whole_numbered, whole_page}
use Rattle.rules.specs.Layouts.{as_cells}
use Rattle.rules.specs.Taking.{page_checks}
use Rattle.rules.specs.Tallying.{whole_checks}
use Rattle.tables.specs.Table.{survey_says}
use Rattle.page.specs.Bounds.{Ready}

-- a table, its books, a page that is kept in a layout, and a place
module _ (layout : Layout) (t : List ℕ) (books : ℕ) (page : List ℕ) (p : ℕ) where
  abbrev pg : List ℕ
  pg = as_cells layout t books page

  pub page_says : {said : List ℕ} → said ≡ survey_says (page_checks t books page) t p → said ≡ survey_says (page_checks t books pg) t p
  page_says says = says ∙ ap (λ (checks : List Check). survey_says checks t p) (same_page_checks layout t books page)

  module _ {survey : Result Surveyed Refusal} {s : Surveyed} (says : survey_meaning survey ≡ survey_says (page_checks t books page) t p) (told : survey ≡ Ok s) where
    pub page_found : Surveys (page_checks t books pg) t p s.places s.row
    page_found = survey_good (page_checks t books pg) t p (page_says says) (page_numbered t books pg) told

    pub page_ready : Ready t books pg s.places
    page_ready = record { passes = page_found.passes; is_places = page_found.is_places }

-- a mode, a table, its books, a book and such a page
module _ (mode : ℕ) (layout : Layout) (t : List ℕ) (books book : ℕ) (page : List ℕ) where
  abbrev its : List ℕ
  its = as_cells layout t books page

  pub whole_says : {said : List ℕ} → said ≡ survey_says (whole_checks mode t books book page) t 0 → said ≡ survey_says (whole_checks mode t books book its) t 0
  whole_says says = says ∙ ap (λ (checks : List Check). survey_says checks t 0) (same_whole_checks layout t books page mode book)

  module _ {survey : Result Surveyed Refusal} {s : Surveyed} (says : survey_meaning survey ≡ survey_says (whole_checks mode t books book page) t 0) (told : survey ≡ Ok s) where
    pub whole_found : Surveys (whole_checks mode t books book its) t 0 s.places s.row
    whole_found = survey_good (whole_checks mode t books book its) t 0 (whole_says says) (whole_numbered mode t books book its) told

    pub whole_ready : Ready t books its s.places × (book < books)
    whole_ready =
        let passed = whole_page mode t books book its whole_found.passes in
        (record { passes = passed.0; is_places = whole_found.is_places }, passed.1)
