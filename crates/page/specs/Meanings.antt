-- What the answers of the page's calls say, case by case: 0 and the values of the rules, or a refusal's number and
-- values.
use Rattle.std.specs.Prelude.{ℕ, List, [], ◌∷◌, Float, Result, Ok, Err}
use Rattle.answers.specs.declared.Refusal.{Refusal}
use Rattle.answers.specs.Refusals.{result_meaning, verdict_meaning}
use Rattle.rules.specs.Judging.{reason_number, reason_distance}
use Rattle.page.specs.declared.Answer.{Answer}
use Rattle.page.specs.declared.Answer.TheVariants as answer
use Rattle.page.specs.declared.Counts.{Counts}

-- taken, or refused
abbrev pub take_meaning : Result (Unit {0}) Refusal → List ℕ
take_meaning = verdict_meaning

-- the answer of a place: its number in the tally's order, the reason, 0 where there is none, and the distance of one
-- that has it
abbrev pub answer_tells : {A : Type 0} → Answer A → List ℕ
answer_tells (answer.Sound v) = 0 ∷ 0 ∷ []
answer_tells (answer.Mended v distance) = 1 ∷ 0 ∷ distance ∷ []
answer_tells answer.Missing = 2 ∷ 0 ∷ []
answer_tells answer.Contested = 3 ∷ 0 ∷ []
answer_tells (answer.Unreadable why) = 4 ∷ reason_number why ∷ reason_distance why

abbrev pub answer_meaning : {A : Type 0} → Answer A → List ℕ
answer_meaning a = 0 ∷ answer_tells a

-- and the value that it carries
abbrev pub values_in : {A : Type 0} → Answer A → List A
values_in (answer.Sound v) = v ∷ []
values_in (answer.Mended v distance) = v ∷ []
values_in answer.Missing = []
values_in answer.Contested = []
values_in (answer.Unreadable why) = []

abbrev pub read_meaning : Result (Answer (Unit {0})) Refusal → List ℕ
read_meaning = result_meaning answer_tells

abbrev pub coefficient_meaning : Result (Answer Float) Refusal → List ℕ
coefficient_meaning = result_meaning answer_tells

abbrev pub coefficient_values : Result (Answer Float) Refusal → List Float
coefficient_values (Ok a) = values_in a
coefficient_values (Err refusal) = []

-- the five counts, in the order of the rules
abbrev pub counts_meaning : Counts → List ℕ
counts_meaning c = c.sound ∷ c.mended ∷ c.missing ∷ c.contested ∷ c.unreadable ∷ []

abbrev pub tally_meaning : Result Counts Refusal → List ℕ
tally_meaning = result_meaning counts_meaning
