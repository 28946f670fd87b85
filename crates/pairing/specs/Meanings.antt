-- What the answers of the call check and of a survey say: 0 and the values of the rules, or a refusal's number and
-- values.
use Rattle.std.specs.Prelude.{ℕ, List, [], ◌∷◌, Result}
use Rattle.answers.specs.declared.Refusal.{Refusal}
use Rattle.answers.specs.Refusals.{one_number, result_meaning}
use Rattle.pairing.specs.declared.inner.survey.Surveyed.{Surveyed}

-- what the call check answers: the number of places, or a refusal
abbrev pub check_meaning : Result ℕ Refusal → List ℕ
check_meaning = result_meaning one_number

-- what a survey tells of a good table: its places, and the row of the place that was asked for
abbrev pub survey_tells : Surveyed → List ℕ
survey_tells s = s.places ∷ s.row ∷ []

abbrev pub survey_meaning : Result Surveyed Refusal → List ℕ
survey_meaning = result_meaning survey_tells
