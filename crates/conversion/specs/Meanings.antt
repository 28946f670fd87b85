-- What the answers of the conversions say: 0, or a refusal's number and values.
use Rattle.std.specs.Prelude.{ℕ, List, Result}
use Rattle.answers.specs.declared.Refusal.{Refusal}
use Rattle.answers.specs.Refusals.{verdict_meaning}

abbrev pub conversion_meaning : Result (Unit {0}) Refusal → List ℕ
conversion_meaning = verdict_meaning
