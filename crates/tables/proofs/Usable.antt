-- What the checks of a shell say, and what they tell: the refusals 1, 2 and 3 by the facts that a call finds, and
-- that a shell which passes them is usable.
use Prim.Native.Nat.{ℕ, ◌≤◌, ◌<◌}
use mathlib.Core.Path.{◌≡◌, sym}
use mathlib.Core.List.{List, [], ◌∷◌}
use mathlib.Core.Bool.{true, false}
use native.Mathlib.Omega.{arith}
use lib.Dec.{ltb, lit<}
use borrow.Author.Tests.{ltb-false, lt-ltb, le-ltb}
use Rattle.answers.specs.Checks.{first_of, Passes}
use Rattle.answers.proofs.InOrder.{none_of, says_passes, passes_says}
use Rattle.counts.specs.Fields.{size_of, field_total}
use Rattle.counts.specs.declared.Field.{Field}
use Rattle.tables.specs.Largest.{largest_radius}
use Rattle.tables.specs.Usable.{length_outside, most_points, too_many, shell_checks, IsUsable}
use Rattle.tables.proofs.Largest.{usable_up_to, unusable_past}

-- refusal 3 is judged at 2^32 exactly
past_limit : (n : ℕ) → most_points < n → too_many n ≡ true
past_limit n h = lt-ltb _ n (omega arith)

within_limit : (n : ℕ) → n ≤ most_points → too_many n ≡ false
within_limit n h = le-ltb _ n (omega arith)

module _ (f : Field) (l k : ℕ) (answer : List ℕ) where
  abbrev total : ℕ
  total = field_total (size_of f) l k

  pub below_says : l < 1 → 1 ∷ [] ≡ first_of (shell_checks l k total) answer
  below_says h = rw (lt-ltb l 1 h)

  pub above_says : 16 < l → 1 ∷ [] ≡ first_of (shell_checks l k total) answer
  above_says h = rw (le-ltb l 1 (omega arith), lt-ltb 16 l h)

  pub radius_says : 1 ≤ l → l ≤ 16 → 32 < k → 2 ∷ [] ≡ first_of (shell_checks l k total) answer
  radius_says p q h = rw (le-ltb l 1 p, le-ltb 16 l q, lt-ltb 32 k h)

  pub past_says_lem : 1 ≤ l → l ≤ 16 → k ≤ 32 → largest_radius f l < k → 3 ∷ [] ≡ first_of (shell_checks l k total) answer
  past_says_lem p q r h = rw (le-ltb l 1 p, le-ltb 16 l q, le-ltb 32 k r, past_limit total (unusable_past f l p q k r h))

  pub usable_says : 1 ≤ l → l ≤ 16 → k ≤ 32 → k ≤ largest_radius f l → answer ≡ first_of (shell_checks l k total) answer
  usable_says p q r h = rw (le-ltb l 1 p, le-ltb 16 l q, le-ltb 32 k r, within_limit total (usable_up_to f l p q k h))

-- a length that is not refused
pub length_inside : (l : ℕ) → length_outside l ≡ false → (1 ≤ l) × (l ≤ 16)
length_inside l e =
    let none = none_of (ltb l 1 ∷ ltb 16 l ∷ []) e in
    (ltb-false l 1 none.0, ltb-false 16 l none.1.0)

pub passes_usable : (l k total : ℕ) → Passes (shell_checks l k total) → IsUsable l k total
passes_usable l k total p =
    let inside = length_inside l p.0 in
    record {
      length_from = inside.0;
      length_to = inside.1;
      radius_to = ltb-false 32 k p.1.0;
      points_to = ltb-false most_points total p.1.1.0;
    }

-- the checks let the shell through: then all pass
pub let_through : (l k total : ℕ) → 0 ∷ [] ≡ first_of (shell_checks l k total) (0 ∷ []) → Passes (shell_checks l k total)
let_through l k total e = says_passes [] [] (shell_checks l k total) (lit< tt, (lit< tt, (lit< tt, tt))) (sym e)

pub says_usable : (l k total : ℕ) → 0 ∷ [] ≡ first_of (shell_checks l k total) (0 ∷ []) → IsUsable l k total
says_usable l k total e = passes_usable l k total (let_through l k total e)

pub usable_answers : (l k total : ℕ) (answer : List ℕ) → 0 ∷ [] ≡ first_of (shell_checks l k total) (0 ∷ []) → answer ≡ first_of (shell_checks l k total) answer
usable_answers l k total answer e = sym (passes_says answer (shell_checks l k total) (let_through l k total e))
