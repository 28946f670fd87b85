-- What a conversion says and leaves with a number of books, a table and a page that passed: 4 for the other page, or
-- the page in the other layout.
use Prim.Native.Nat.{ℕ, ◌≤◌}
use mathlib.Core.Bool.{Bool, true, false}
use mathlib.Core.List.{List, [], ◌∷◌}
use mathlib.Core.Path.{◌≡◌, refl, sym, ap, ◌∙◌}
use lib.ListN.{length}
use Rattle.std.specs.Prelude.{Result, Ok}
use Rattle.answers.specs.declared.Refusal.{Refusal}
use Rattle.answers.proofs.InOrder.{passed_says, passed_leaves}
use Rattle.answers.proofs.Lengths.{right_length}
use Rattle.pairing.proofs.Surveys.{Surveys, survey_good}
use Rattle.pairing.specs.Meanings.{survey_meaning}
use Rattle.pairing.specs.declared.inner.survey.Surveyed.{Surveyed}
use Rattle.tables.specs.Table.{places_in, survey_says}
use Rattle.layout.specs.Converting.{converted}
use Rattle.layout.specs.Layout.{cells_of, page_length, page_length_check}
use Rattle.layout.specs.declared.Layout.{Layout}
use Rattle.laws.proofs.Pages.{page_numbered, page_books, page_size}
use Rattle.rules.specs.Layouts.{turned, convert_says, convert_leaves}
use Rattle.rules.specs.Taking.{page_check, page_checks}
use Rattle.places.proofs.Opening.{told_to}

module _ (t : List ℕ) (books : ℕ) (pg : List ℕ) {survey : Result Surveyed Refusal} {s : Surveyed} (says : survey_meaning survey ≡ survey_says (page_checks t books pg) t 0)
    (told : survey ≡ Ok s) where
  found : Surveys (page_checks t books pg) t 0 s.places s.row
  found = survey_good (page_checks t books pg) t 0 says (page_numbered t books pg) told

  -- so many cells are few enough
  pub few_cells : cells_of s.places books ≤ 65536
  few_cells = told_to books found (page_books t books pg)

  -- n is their number, and `wrong` what was found of the other page's length
  module _ {n : ℕ} (is_n : n ≡ cells_of s.places books) where
    its_cells : n ≡ cells_of (places_in t) books
    its_cells = is_n ∙ ap (λ (p : ℕ). cells_of p books) found.is_places

    pub page_sized : length pg ≡ page_length n
    page_sized = page_size t books pg found.passes ∙ ap page_length (sym its_cells)

    module _ (held : List ℕ) {wrong : Bool} (is_wrong : wrong ≡ (page_length_check n (length held)).fails) where
      its_check : {b : Bool} → wrong ≡ b → (page_check t books held).fails ≡ b
      its_check same = ap (λ (m : ℕ). (page_length_check m (length held)).fails) (sym its_cells) ∙ sym is_wrong ∙ same

      pub other_sized : wrong ≡ false → length held ≡ page_length n
      other_sized right = right_length (length held) (page_length n) (sym is_wrong ∙ right)

      module _ (from to : Layout) where
        abbrev Does : List ℕ → List ℕ → Type 0
        Does said left = (said ≡ convert_says t books pg held) × (left ≡ convert_leaves from to t books pg held)

        pub convert_4 : wrong ≡ true → Does (4 ∷ []) held
        convert_4 bad =
            let all = turned from to t books pg in
            let check = page_check t books held in
            let fails : check.fails ≡ true = its_check bad in (
              rw fails refl ∙ passed_says (page_checks t books pg) (check ∷ []) (0 ∷ []) found.passes,
              rw fails refl ∙ passed_leaves (page_checks t books pg) (check ∷ []) all held found.passes,
            )

        pub convert_0 : wrong ≡ false → {left : List ℕ} → left ≡ converted from to n pg → Does (0 ∷ []) left
        convert_0 right did =
            let all = turned from to t books pg in
            let check = page_check t books held in
            let passes : check.fails ≡ false = its_check right in (
              rw passes refl ∙ passed_says (page_checks t books pg) (check ∷ []) (0 ∷ []) found.passes,
              did ∙ ap (λ (m : ℕ). converted from to m pg) its_cells ∙ rw passes refl ∙ passed_leaves (page_checks t books pg) (check ∷ []) all held found.passes,
            )
