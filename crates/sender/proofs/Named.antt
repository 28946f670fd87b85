-- What the checks of a run name: each has number 11, and names a place and a coordinate. So does a refusal that is
-- one of theirs.
use Prim.Native.Nat.{ℕ, zero, suc}
use mathlib.Core.Bool.{Bool, true, false}
use mathlib.Core.List.{List, [], ◌∷◌, ◌++◌}
use mathlib.Core.Path.{◌≡◌, refl, sym, ap, ◌∙◌}
use native.Mathlib.Omega.{arith}
use lib.Ieee.{Float}
use Rattle.answers.proofs.OneToOne.{said}
use Rattle.answers.specs.Checks.{Check, number_said, first_of, each_from, pick}
use Rattle.answers.specs.Refusals.{meaning}
use Rattle.answers.specs.declared.Refusal.{Refusal}
use Rattle.buffers.proofs.Joining.{joined_keeps}
use Rattle.tables.specs.Table.{places_in, length_for}
use Rattle.runs.specs.Sending.{usable_check_at, usable_checks_at, run_checks}

abbrev pub Eleven : List ℕ → Type 0
Eleven says = (p : ℕ) × (i : ℕ) × (says ≡ 11 ∷ p ∷ i ∷ [])

abbrev Elevens : List Check → Type 0
Elevens [] = Unit {0}
Elevens (c ∷ cs) = Eleven (c.number ∷ c.values) × Elevens cs

elevens_then : (cs ds : List Check) → Elevens cs → Elevens ds → Elevens (cs ++ ds)
elevens_then [] ds p q = q
elevens_then (c ∷ cs) ds p q = (p.0, elevens_then cs ds p.1 q)

one_of : (cs : List Check) (r : Refusal) → Elevens cs → meaning r ≡ first_of cs (0 ∷ []) → Eleven (meaning r)
one_of [] r p says = let above : 0 ≡ suc (said r).before = ap number_said (sym says ∙ (said r).says) in absurd (omega arith)
one_of (c ∷ cs) r p says = go c.fails says (one_of cs r p.1)
  where
    go : (b : Bool) → meaning r ≡ pick b (c.number ∷ c.values) (first_of cs (0 ∷ [])) → (meaning r ≡ first_of cs (0 ∷ []) → Eleven (meaning r)) → Eleven (meaning r)
    go true says rest = (p.0.0, p.0.1, says ∙ p.0.2)
    go false says rest = rest says

module _ (t : List ℕ) (run : List Float) where
  of_place : (p i n : ℕ) → Elevens (each_from (usable_check_at t run p) i n)
  of_place p i zero = tt
  of_place p i (suc n) = ((p, i, refl), of_place p (suc i) n)

  pub run_names : (r : Refusal) → meaning r ≡ first_of (run_checks t run) (0 ∷ []) → Eleven (meaning r)
  run_names r says =
      let each = joined_keeps (usable_checks_at t run) Elevens tt elevens_then (λ p. of_place p 0 (length_for t p)) 0 (places_in t) in
      one_of (run_checks t run) r each says
