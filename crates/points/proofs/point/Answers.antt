-- A refusal of the checks of the selector and the shell, and the buffer as it was; or else what is said and left in a
-- usable shell.
use mathlib.Core.Path.{ap, ◌∙◌}
use mathlib.Core.List.{List, [], ◌∷◌}
use lib.ListN.{length}
use Rattle.answers.specs.Checks.{Check, first_of, leaves}
use Rattle.std.proofs.lemmas.Result.{err_from_is_err_and}
use Rattle.answers.proofs.InOrder.{refused_says, refused_leaves, passed_says, passed_leaves}
use Rattle.enumeration.specs.Enumeration.{Enumeration}
use Rattle.enumeration.specs.Enumerations.{selected_by}
use Rattle.indexing.specs.Calls.{selected_checks, point_rest}
use Rattle.points.proofs.Says.{let_through, selected_in, usable_in}
use Rattle.points.proofs.point.Goals as goal

pub invariant_of-numbering : goal.invariant_of-numbering
invariant_of-numbering c =
    let a = c.args in
    record { usable = usable_in a.selector.0 c.from.ensures a.length.0 a.radius.0 c.in_ok-check_selected.ensures }

pub returns : goal.returns
returns c =
    let a = c.args in
    let v = a.selector.0 in
    let l = a.length.0 in
    let k = a.radius.0 in
    let held = a.out.now in
    let rest : Enumeration → List Check = λ f. point_rest f l k a.n (length held) in
    let through = let_through v l k c.in_ok-check_selected.ensures in
    let e = selected_in v _ c.from.ensures in
    let did = c.point_usable.ensures in (
      did.0 ∙ ap (λ (f : Enumeration). first_of (rest f) (0 ∷ [])) e ∙ passed_says (selected_checks v l k) (rest (selected_by v)) (0 ∷ []) through,
      did.1 ∙ ap (λ (f : Enumeration). leaves (rest f) (f.point l k a.n) held) e
          ∙ passed_leaves (selected_checks v l k) (rest (selected_by v)) ((selected_by v).point l k a.n) held through,
    )

pub returns-in_err-check_selected : goal.returns-in_err-check_selected
returns-in_err-check_selected c =
    let a = c.args in
    let v = a.selector.0 in
    let l = a.length.0 in
    let k = a.radius.0 in
    let held = a.out.now in
    let rest = point_rest (selected_by v) l k a.n (length held) in
    let e = c.in_err-check_selected.ensures in
    let p = err_from_is_err_and c.from_residual.result c.from_residual.ensures.1 in
    rw (p.1, p.2) (
      refused_says (selected_checks v l k) rest [] (0 ∷ []) c.in_err-check_selected.field-0.0 e,
      refused_leaves (selected_checks v l k) rest ((selected_by v).point l k a.n) held [] c.in_err-check_selected.field-0.0 e,
    )
