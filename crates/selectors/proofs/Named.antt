-- The enumerations by the code's names: a selector selects in the code what it selects in the rules, and the total of
-- each is that of its shape field.
use Prim.Native.Nat.{ℕ, zero, suc}
use mathlib.Core.Path.{◌≡◌, refl, sym, ap, ◌∙◌}
use Rattle.counts.specs.Fields.{size_of, field_total}
use Rattle.counts.proofs.Fields.{total_exact}
use Rattle.enumeration.specs.Enumeration.{Enumeration}
use Rattle.enumeration.specs.Enumerations.{selected_by}
use Rattle.selectors.specs.Selected.{selected_of, enumeration_named, field_in}
use Rattle.selectors.specs.declared.inner.Selected.{Selected}
use Rattle.selectors.specs.declared.inner.Selected.TheVariants as selected

pub named_by : (v : ℕ) → enumeration_named (selected_of v) ≡ selected_by v
unfolding selected_by
named_by zero = refl
named_by (suc zero) = refl
named_by (suc (suc v)) = refl

pub total_named_lem : (s : Selected) (l k : ℕ) → (enumeration_named s).total l k ≡ field_total (size_of (field_in s)) l k
total_named_lem (selected.Product f) l k = refl
total_named_lem selected.Magnitude l k = sym (total_exact l k)

pub total_selected : (v l k : ℕ) → (selected_by v).total l k ≡ field_total (size_of (field_in (selected_of v))) l k
total_selected v l k = ap (λ (e : Enumeration). e.total l k) (sym (named_by v)) ∙ total_named_lem (selected_of v) l k
