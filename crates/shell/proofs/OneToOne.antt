-- Two answers that the contract of count allows are equal.
use mathlib.Core.Path.{◌≡◌, refl}
use Prim.Native.Nat.{ℕ}
use lib.ListN.{get_or}
use Rattle.std.specs.Prelude.{Result}
use Rattle.answers.specs.declared.Refusal.{Refusal}
use Rattle.answers.specs.Refusals.{one_number}
use Rattle.answers.proofs.OneToOne.{result_one_to_one}
use Rattle.shell.specs.Shell.{count_meaning}

pub count_one_to_one : (a b : Result ℕ Refusal) → count_meaning a ≡ count_meaning b → a ≡ b
count_one_to_one = result_one_to_one one_number (λ vs. get_or vs 0 0) (λ n. refl)
