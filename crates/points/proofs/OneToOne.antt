-- Two answers that the contract of index, or of point, allows are equal.
use Prim.Native.Nat.{ℕ}
use mathlib.Core.Path.{◌≡◌, refl}
use lib.ListN.{get_or}
use Rattle.std.specs.Prelude.{Result}
use Rattle.answers.proofs.OneToOne.{result_one_to_one, verdict_one_to_one}
use Rattle.answers.specs.Refusals.{one_number}
use Rattle.answers.specs.declared.Refusal.{Refusal}
use Rattle.points.specs.Meanings.{index_meaning, point_meaning}

pub index_one_to_one : (a b : Result ℕ Refusal) → index_meaning a ≡ index_meaning b → a ≡ b
index_one_to_one = result_one_to_one one_number (λ vs. get_or vs 0 0) (λ n. refl)

pub point_one_to_one : (a b : Result (Unit {0}) Refusal) → point_meaning a ≡ point_meaning b → a ≡ b
point_one_to_one = verdict_one_to_one
