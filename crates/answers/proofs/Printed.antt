-- What a program prints of a refusal, by how many values it names: both of two, and else its number alone.
use Prim.Native.Nat.{ℕ, suc, ◌≤◌}
use mathlib.Core.List.{List, [], ◌∷◌}
use mathlib.Core.Path.{◌≡◌, refl}
use native.Mathlib.Omega.{arith}
use lib.ListN.{length, get_or}
use Rattle.answers.specs.declared.Refusal.{Refusal}
use Rattle.answers.specs.Refusals.{meaning, number_of, first_named, second_named, named_by, printed}
use Rattle.answers.proofs.OneToOne.{said}

-- of any list with at most two values behind the number
two : (n : ℕ) (vs : List ℕ) → length vs ≤ 2 → length vs ≡ 2 → printed (n ∷ vs) ≡ n ∷ get_or vs 0 0 ∷ get_or vs 1 0 ∷ []
two n [] to is = absurd (omega arith)
two n (v ∷ []) to is = absurd (omega arith)
two n (v ∷ w ∷ vs) to is = refl

fewer : (n : ℕ) (vs : List ℕ) → length vs ≤ 2 → (length vs ≡ 2 → ⊥) → printed (n ∷ vs) ≡ n ∷ []
fewer n [] to not = refl
fewer n (v ∷ []) to not = refl
fewer n (v ∷ w ∷ vs) to not = absurd (not (omega arith))

module _ (r : Refusal) where
  pub two_printed : named_by r ≡ 2 → printed (meaning r) ≡ number_of r ∷ first_named r ∷ second_named r ∷ []
  two_printed is = let s = said r in rw s.says (two (suc s.before) s.values s.two (rw s.says at is))

  pub number_printed : (named_by r ≡ 2 → ⊥) → printed (meaning r) ≡ number_of r ∷ []
  number_printed not = let s = said r in rw s.says (fewer (suc s.before) s.values s.two (rw s.says at not))
