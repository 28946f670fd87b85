-- Two answers that the contract of send allows are equal.
use mathlib.Core.Path.{◌≡◌}
use Rattle.std.specs.Prelude.{Result}
use Rattle.answers.specs.declared.Refusal.{Refusal}
use Rattle.answers.proofs.OneToOne.{verdict_one_to_one}
use Rattle.sending.specs.Meanings.{send_meaning}

pub send_one_to_one : (a b : Result (Unit {0}) Refusal) → send_meaning a ≡ send_meaning b → a ≡ b
send_one_to_one = verdict_one_to_one
