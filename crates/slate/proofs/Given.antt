-- What C is given for what the calls say: N or 0, and 0 for nothing but a refusal; 0 or the refusal's number.
use Prim.Native.Nat.{ℕ, zero, suc, ◌≤◌, ◌<◌}
use mathlib.Core.Bool.{Bool, true, false}
use mathlib.Core.List.{List, [], ◌∷◌}
use mathlib.Core.Logic.{◌↔◌}
use mathlib.Core.Path.{◌≡◌, refl, sym, ap, ◌∙◌}
use native.Mathlib.Omega.{arith}
use lib.Dec.{lit<}
use lib.ListN.{get_or}
use Rattle.answers.proofs.InOrder.{says_passes, passes_says, passes_leaves, fails_leaves, refusal_leaves, none_of}
use Rattle.answers.specs.Checks.{Check, any_of, fails_of}
use Rattle.answers.specs.Refusals.{meaning}
use Rattle.answers.specs.declared.Refusal.{Refusal}
use Rattle.counts.proofs.Growth.{N_grows}
use Rattle.counts.specs.Counts.{N}
use Rattle.shell.specs.Shell.{count_says}
use Rattle.tables.proofs.Usable.{passes_usable}
use Rattle.tables.specs.Usable.{shell_checks}
use Rattle.slate.specs.Given.{count_gives}

module _ (l k : ℕ) where
  -- what the call count says is N, or a refusal
  pub points_given : (n : ℕ) → 0 ∷ n ∷ [] ≡ count_says l k → n ≡ count_gives l k
  points_given n said =
      let passes = says_passes (N l k ∷ []) (n ∷ []) (shell_checks l k (N l k)) (lit< tt, (lit< tt, (lit< tt, tt))) (sym said) in
      ap (λ (says : List ℕ). get_or says 1 0) (said ∙ passes_says (0 ∷ N l k ∷ []) (shell_checks l k (N l k)) passes)
      ∙ sym (passes_leaves (N l k) 0 (shell_checks l k (N l k)) passes)

  pub refusal_given : (r : Refusal) → meaning r ≡ count_says l k → 0 ≡ count_gives l k
  refusal_given r said = refusal_leaves (N l k) 0 (N l k ∷ []) (shell_checks l k (N l k)) r said

-- a shell of length 1 or more has a point
pub some_point : (l k : ℕ) → 1 ≤ l → 0 < N l k
unfolding N
some_point zero k h = absurd (omega arith)
some_point (suc l) k h = omega (arith, N_grows l 0 k (omega arith))

-- so 0 is given for a refusal and for nothing else
pub zero_refuses : (l k : ℕ) → (count_gives l k ≡ 0) ↔ (any_of (fails_of (shell_checks l k (N l k))) ≡ true)
zero_refuses l k = (refused (any_of (fails_of cs)) refl, fails_leaves (N l k) 0 cs)
  where
    cs : List Check
    cs = shell_checks l k (N l k)

    refused : (b : Bool) → any_of (fails_of cs) ≡ b → count_gives l k ≡ 0 → any_of (fails_of cs) ≡ true
    refused true e given = e
    refused false e given =
        let passes = none_of (fails_of cs) e in
        absurd (omega (arith, some_point l k (passes_usable l k (N l k) passes).length_from, passes_leaves (N l k) 0 cs passes, given))
