-- Two answers that the contract of check, or of a survey, allows are equal.
use Prim.Native.Nat.{ℕ}
use mathlib.Core.Path.{◌≡◌, refl}
use lib.ListN.{get_or}
use Rattle.std.specs.Prelude.{Result}
use Rattle.answers.specs.declared.Refusal.{Refusal}
use Rattle.answers.specs.Refusals.{one_number}
use Rattle.answers.proofs.OneToOne.{result_one_to_one}
use Rattle.pairing.specs.declared.inner.survey.Surveyed.{Surveyed}
use Rattle.pairing.specs.Meanings.{check_meaning, survey_tells, survey_meaning}

pub check_one_to_one : (a b : Result ℕ Refusal) → check_meaning a ≡ check_meaning b → a ≡ b
check_one_to_one = result_one_to_one one_number (λ vs. get_or vs 0 0) (λ n. refl)

pub survey_one_to_one : (a b : Result Surveyed Refusal) → survey_meaning a ≡ survey_meaning b → a ≡ b
survey_one_to_one = result_one_to_one survey_tells (λ vs. record { places = get_or vs 0 0; row = get_or vs 1 0 }) (λ s. refl)
