-- A survey by any checks: what its answer tells, what a call says and leaves whose survey is refused, one check before
-- all others, and one more; and the row of a surveyed place, with what a call says and leaves that goes on with that
-- row. So every call that begins with a survey is argued in the same way, whatever the checks are.
use Prim.Native.Nat.{ℕ, ◌<◌}
use mathlib.Core.Path.{◌≡◌, refl, sym, ap, ap₂, ◌∙◌}
use mathlib.Core.List.{List, [], ◌∷◌, ◌++◌}
use mathlib.Core.Bool.{true, false}
use lib.ListN.{length}
use Rattle.std.specs.Prelude.{Result, Ok, Err}
use Rattle.answers.specs.Refusals.{meaning}
use Rattle.answers.specs.Checks.{Check, any_of, first_of, leaves, fails_of, Passes}
use Rattle.answers.specs.declared.Refusal.{Refusal}
use Rattle.answers.proofs.InOrder.{Numbered, says_passes, passes_says, passed_says, passed_leaves, refused_says, refused_leaves, refusal_fails}
use Rattle.tables.specs.Row.{IsRow}
use Rattle.tables.specs.Table.{rows_of, row_at, places_in, Good, row_of, row_for, survey_says}
use Rattle.tables.specs.BookNumbers.{place_checks}
use Rattle.tables.proofs.Good.{good_place}
use Rattle.tables.proofs.Rows.{row_length_lem}
use Rattle.tables.proofs.PlaceChecks.{place_numbered}
use Rattle.pairing.specs.Meanings.{survey_meaning}
use Rattle.pairing.specs.declared.inner.survey.Surveyed.{Surveyed}

-- what was surveyed: the checks pass, and these are the places of the table and the row of the place
pub record Surveys (checks : List Check) (t : List ℕ) (p places row : ℕ) : Type 0 where
  pub passes : Passes checks
  pub is_places : places ≡ places_in t
  pub is_row : row ≡ row_of t p

module _ (checks : List Check) (t : List ℕ) (p : ℕ) {survey : Result Surveyed Refusal} (says : survey_meaning survey ≡ survey_says checks t p) where
  pub survey_good : {s : Surveyed} → Numbered checks → survey ≡ Ok s → Surveys checks t p s.places s.row
  survey_good {s} numbered told =
      let e = ap survey_meaning (sym told) ∙ says in
      let good = says_passes (places_in t ∷ row_of t p ∷ []) (s.places ∷ s.row ∷ []) checks numbered (sym e) in
      let said = e ∙ passes_says (0 ∷ places_in t ∷ row_of t p ∷ []) checks good in
      record { passes = good; is_places = cc; is_row = cc }

  -- a refusal stands whatever else would have been checked, and leaves a lent buffer as it was
  module _ {r : Refusal} (told : survey ≡ Err r) where
    said : meaning r ≡ survey_says checks t p
    said = ap survey_meaning (sym told) ∙ says

    pub survey_fails : any_of (fails_of checks) ≡ true
    survey_fails = refusal_fails (places_in t ∷ row_of t p ∷ []) checks r said

    pub survey_says_lem : (rest : List Check) (answer : List ℕ) → meaning r ≡ first_of (checks ++ rest) answer
    survey_says_lem rest answer = refused_says checks rest (places_in t ∷ row_of t p ∷ []) answer r said

    pub survey_leaves : {A : Type 0} (rest : List Check) (made held : A) → held ≡ leaves (checks ++ rest) made held
    survey_leaves rest made held = refused_leaves checks rest made held (places_in t ∷ row_of t p ∷ []) r said

-- a check before all others: it is given, or it is not and they are asked
module _ (c : Check) (checks : List Check) (t : List ℕ) (p : ℕ) where
  pub first_fails : c.fails ≡ true → c.number ∷ c.values ≡ survey_says (c ∷ checks) t p
  first_fails fails = rw fails refl

  pub first_passes : {said : List ℕ} → c.fails ≡ false → said ≡ survey_says checks t p → said ≡ survey_says (c ∷ checks) t p
  first_passes passes says = rw passes says

-- one check more
module _ {checks : List Check} {t : List ℕ} {p places row : ℕ} (found : Surveys checks t p places row) (c : Check) where
  pub one_fails : c.fails ≡ true → c.number ∷ c.values ≡ survey_says (checks ++ (c ∷ [])) t p
  one_fails fails = rw fails refl ∙ passed_says checks (c ∷ []) (0 ∷ places_in t ∷ row_of t p ∷ []) found.passes

  pub one_passes : c.fails ≡ false → 0 ∷ places ∷ row ∷ [] ≡ survey_says (checks ++ (c ∷ [])) t p
  one_passes passes =
      let told : ◌≡◌ {A = List ℕ} (0 ∷ places ∷ row ∷ []) (first_of (c ∷ []) (0 ∷ places_in t ∷ row_of t p ∷ [])) = rw (passes, found.is_places, found.is_row) refl in
      told ∙ passed_says checks (c ∷ []) (0 ∷ places_in t ∷ row_of t p ∷ []) found.passes

-- a table and a place of a book that were found good
pub surveyed_place : (t : List ℕ) (books book p : ℕ) {survey : Result Surveyed Refusal} {s : Surveyed}
    → survey_meaning survey ≡ survey_says (place_checks t books book p) t p
    → survey ≡ Ok s → Surveys (place_checks t books book p) t p s.places s.row
surveyed_place t books book p says told = survey_good (place_checks t books book p) t p says (place_numbered t books book p) told

-- the row of a surveyed place is one of the table
module _ {checks : List Check} {t : List ℕ} {p places n : ℕ} (found : Surveys checks t p places n) (placed : Good t × (p < places_in t)) where
  pub number_in : n < rows_of t
  number_in = rw found.is_row (good_place t p placed.0 placed.1).0

  -- `row` is what is lent of it
  module _ {row : List ℕ} (lent : row ≡ row_at t n) where
    is_its_row : row ≡ row_for t p
    is_its_row = lent ∙ ap (row_at t) found.is_row

    pub row_surveyed : IsRow row
    row_surveyed = record { sixteen = ap length lent ∙ row_length_lem t n number_in; row_good = rw is_its_row (good_place t p placed.0 placed.1).1 }

    -- what is said and left for the row, by its number and bytes, is what is said and left for the place
    module _ (rest : ℕ → List ℕ → List Check) where
      pub place_says : (answer : ℕ → List ℕ → List ℕ) {said : List ℕ} → said ≡ first_of (rest n row) (answer n row)
          → said ≡ first_of (checks ++ rest (row_of t p) (row_for t p)) (answer (row_of t p) (row_for t p))
      place_says answer says =
          says
          ∙ ap₂ (λ (m : ℕ) (bytes : List ℕ). first_of (rest m bytes) (answer m bytes)) found.is_row is_its_row
          ∙ passed_says (checks) (rest (row_of t p) (row_for t p)) (answer (row_of t p) (row_for t p)) found.passes

      pub place_leaves : {A : Type 0} (made : ℕ → List ℕ → A) (held : A) {left : A} → left ≡ leaves (rest n row) (made n row) held
          → left ≡ leaves (checks ++ rest (row_of t p) (row_for t p)) (made (row_of t p) (row_for t p)) held
      place_leaves made held keeps =
          keeps
          ∙ ap₂ (λ (m : ℕ) (bytes : List ℕ). leaves (rest m bytes) (made m bytes) held) found.is_row is_its_row
          ∙ passed_leaves (checks) (rest (row_of t p) (row_for t p)) (made (row_of t p) (row_for t p)) held found.passes
