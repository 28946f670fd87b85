-- What the answers of the call send say, case by case.
use Rattle.std.specs.Prelude.{ℕ, List, Result}
use Rattle.answers.specs.declared.Refusal.{Refusal}
use Rattle.answers.specs.Refusals.{verdict_meaning}

-- that every record is written, or a refusal
abbrev pub send_meaning : Result (Unit {0}) Refusal → List ℕ
send_meaning = verdict_meaning
