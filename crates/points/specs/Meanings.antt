-- What the calls index and point answer, in the numbers of the rules: docs/RULES.md, "Refusal numbers".
use Rattle.std.specs.Prelude.{ℕ, List, Result}
use Rattle.answers.specs.declared.Refusal.{Refusal}
use Rattle.answers.specs.Refusals.{one_number, result_meaning, verdict_meaning}

-- the index, or a refusal
abbrev pub index_meaning : Result ℕ Refusal → List ℕ
index_meaning = result_meaning one_number

-- that the point is written, or a refusal
abbrev pub point_meaning : Result (Unit {0}) Refusal → List ℕ
point_meaning = verdict_meaning
