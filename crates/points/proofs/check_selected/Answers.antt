-- A selector above 2 is refused, and else what the checks of the shell refuse, by the selected total.
use native.Mathlib.Omega.{arith}
use borrow.Author.Tests.{lt-ltb, le-ltb}
use Prim.Native.Nat.{ℕ}
use mathlib.Core.List.{[], ◌∷◌}
use mathlib.Core.Path.{◌≡◌, sym, ap, ◌∙◌}
use Rattle.answers.specs.Checks.{first_of}
use Rattle.counts.specs.Fields.{size_of, field_total}
use Rattle.counts.specs.declared.Field.{Field}
use Rattle.enumeration.specs.Enumerations.{selected_by}
use Rattle.selectors.specs.Selected.{selected_of, field_in}
use Rattle.selectors.proofs.Named.{total_selected}
use Rattle.tables.specs.Usable.{shell_checks}
use Rattle.points.proofs.check_selected.Goals as goal

pub returns-then-selector-gt2 : goal.returns-then-selector-gt2
returns-then-selector-gt2 c = rw (lt-ltb 2 c.args.selector.0 (omega arith))

-- what the checks say by the field that the code has found
by_field : (v l k : ℕ) {f : Field} → f ≡ field_in (selected_of v)
    → first_of (shell_checks l k (field_total (size_of f) l k)) (0 ∷ []) ≡ first_of (shell_checks l k ((selected_by v).total l k)) (0 ∷ [])
by_field v l k is =
    ap (λ (n : ℕ). first_of (shell_checks l k n) (0 ∷ [])) (ap (λ (f : Field). field_total (size_of f) l k) is ∙ sym (total_selected v l k))

pub returns : goal.returns
returns c =
    let a = c.args in
    let is_field = c.field.ensures ∙ ap field_in c.from.ensures in
    rw (le-ltb 2 a.selector.0 (omega arith)) (c.check_shell.ensures ∙ by_field a.selector.0 a.length.0 a.radius.0 is_field)
