-- What the calls index and point say and leave in a usable shell, by the facts that a call finds.
use Prim.Native.Nat.{ℕ, ◌≤◌, ◌<◌}
use mathlib.Core.Path.{◌≡◌, refl, sym, ap, ◌∙◌, subst}
use mathlib.Core.List.{List, [], ◌∷◌}
use mathlib.Core.Bool.{true, false}
use native.Mathlib.Omega.{arith}
use lib.IntN.{ℤ}
use lib.Dec.{lit<}
use lib.ListN.{length}
use borrow.Author.Tests.{eq-eqb, ne_eqb, le-leb, lt-leb}
use Rattle.answers.specs.Checks.{first_of, leaves, Passes}
use Rattle.answers.proofs.InOrder.{says_passes}
use Rattle.counts.specs.Distance.{distance}
use Rattle.enumeration.specs.Point.{OnShell, radius_of}
use Rattle.enumeration.specs.Enumeration.{Enumeration}
use Rattle.enumeration.specs.Enumerations.{selected_by}
use Rattle.tables.specs.Usable.{IsUsable}
use Rattle.tables.proofs.Usable.{passes_usable}
use Rattle.numbering.specs.Numbered.{enumeration_in}
use Rattle.numbering.specs.declared.inner.Numbering.{Numbering}
use Rattle.selectors.specs.Selected.{selected_of, enumeration_named}
use Rattle.selectors.specs.declared.inner.Selected.{Selected}
use Rattle.selectors.proofs.Named.{named_by}
use Rattle.indexing.specs.Calls.{past_end, selected_checks, index_rest, point_rest}

-- the checks of a selector and a shell let them through: then all pass
pub let_through : (v l k : ℕ) → 0 ∷ [] ≡ first_of (selected_checks v l k) (0 ∷ []) → Passes (selected_checks v l k)
let_through v l k e = says_passes [] [] (selected_checks v l k) (lit< tt, (lit< tt, (lit< tt, (lit< tt, tt)))) (sym e)

-- the enumeration that was selected
module _ (v : ℕ) {s : Selected} (e : s ≡ selected_of v) where
  named : enumeration_named s ≡ selected_by v
  named = ap enumeration_named e ∙ named_by v

  pub usable_in : (l k : ℕ) → 0 ∷ [] ≡ first_of (selected_checks v l k) (0 ∷ []) → IsUsable l k ((enumeration_named s).total l k)
  usable_in l k through =
      subst (λ (f : Enumeration). IsUsable l k (f.total l k)) (sym named) (passes_usable l k ((selected_by v).total l k) (let_through v l k through).1)

pub selected_in : (v : ℕ) (m : Numbering) → m.selected ≡ selected_of v → enumeration_in m ≡ selected_by v
unfolding enumeration_in
selected_in v m e = named v e

-- refusal 6 is judged at the total exactly
at_end : (total n : ℕ) → total ≤ n → past_end n total ≡ true
at_end total n h = le-leb _ n (omega arith)

before_end : (total n : ℕ) → n < total → past_end n total ≡ false
before_end total n h = lt-leb _ n (omega arith)

-- index n of x, by some enumeration
module _ (l k n : ℕ) (x : List ℤ) where
  -- what is said
  abbrev IndexAnswers : List ℕ → Type 0
  IndexAnswers said = said ≡ first_of (index_rest l k x) (0 ∷ n ∷ [])

  pub index_4 : (length x ≡ l → ⊥) → IndexAnswers (4 ∷ [])
  index_4 h = rw (ne_eqb (length x) l h)

  pub index_5 : length x ≡ l → (radius_of x ≡ k → ⊥) → IndexAnswers (5 ∷ [])
  index_5 e h = rw (eq-eqb (length x) l e, ne_eqb (radius_of x) k h)

  pub index_0 : OnShell l k x → IndexAnswers (0 ∷ n ∷ [])
  index_0 on = rw (eq-eqb (length x) l on.of_length, eq-eqb (radius_of x) k on.of_radius)

module _ (e : Enumeration) (l k n : ℕ) (held : List ℤ) where
  -- what is said and what is left
  abbrev PointDoes : List ℕ → List ℤ → Type 0
  PointDoes said left =
      (said ≡ first_of (point_rest e l k n (length held)) (0 ∷ [])) × (left ≡ leaves (point_rest e l k n (length held)) (e.point l k n) held)

  pub point_4 : (length held ≡ l → ⊥) → PointDoes (4 ∷ []) held
  point_4 h = rw (ne_eqb (length held) l h) (refl, refl)

  pub point_6 : length held ≡ l → e.total l k ≤ n → PointDoes (6 ∷ distance (e.total l k) n ∷ []) held
  point_6 long h = rw (eq-eqb (length held) l long, at_end (e.total l k) n h) (refl, refl)

  pub point_15 : length held ≡ l → n < e.total l k → e.names l k n ≡ false → PointDoes (15 ∷ []) held
  point_15 long h empty = rw (eq-eqb (length held) l long, before_end (e.total l k) n h, empty) (refl, refl)

  pub point_0 : length held ≡ l → n < e.total l k → e.names l k n ≡ true → PointDoes (0 ∷ []) (e.point l k n)
  point_0 long h named = rw (eq-eqb (length held) l long, before_end (e.total l k) n h, named) (refl, refl)
