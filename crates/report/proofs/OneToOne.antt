-- Two answers that the contract of a call of the report allows are equal: answers that say the same are the same.
use Prim.Native.Nat.{ℕ}
use mathlib.Core.Path.{◌≡◌, refl}
use lib.ListN.{get_or}
use Rattle.std.specs.Prelude.{Result}
use Rattle.answers.proofs.OneToOne.{result_one_to_one}
use Rattle.answers.specs.Refusals.{one_number}
use Rattle.answers.specs.declared.Refusal.{Refusal}
use Rattle.report.specs.Meanings.{listed_tells, listed_meaning, lined_meaning}
use Rattle.report.specs.declared.Listed.{Listed}

pub listed_one_to_one : (a b : Result Listed Refusal) → listed_meaning a ≡ listed_meaning b → a ≡ b
listed_one_to_one = result_one_to_one listed_tells (λ vs. record { to = get_or vs 0 0; size = get_or vs 1 0 }) (λ l. refl)

pub lined_one_to_one : (a b : Result ℕ Refusal) → lined_meaning a ≡ lined_meaning b → a ≡ b
lined_one_to_one = result_one_to_one one_number (λ vs. get_or vs 0 0) (λ n. refl)
