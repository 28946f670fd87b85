-- Two answers that the contract of quantize allows are equal.
use mathlib.Core.Path.{◌≡◌}
use Rattle.std.specs.Prelude.{Result}
use Rattle.answers.specs.declared.Refusal.{Refusal}
use Rattle.answers.proofs.OneToOne.{verdict_one_to_one}
use Rattle.quantizer.specs.Calls.{quantize_meaning}

pub quantize_one_to_one : (a b : Result (Unit {0}) Refusal) → quantize_meaning a ≡ quantize_meaning b → a ≡ b
quantize_one_to_one = verdict_one_to_one
