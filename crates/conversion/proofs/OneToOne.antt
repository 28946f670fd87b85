-- Two answers that the contract of a conversion allows are equal.
use mathlib.Core.Path.{◌≡◌}
use Rattle.std.specs.Prelude.{Result}
use Rattle.answers.proofs.OneToOne.{verdict_one_to_one}
use Rattle.answers.specs.declared.Refusal.{Refusal}
use Rattle.conversion.specs.Meanings.{conversion_meaning}

pub conversion_one_to_one : (a b : Result (Unit {0}) Refusal) → conversion_meaning a ≡ conversion_meaning b → a ≡ b
conversion_one_to_one = verdict_one_to_one
