-- A refusal of the checks of the selector and the shell as it stands, and else what is said in a usable shell.
use mathlib.Core.Path.{ap, ◌∙◌}
use mathlib.Core.List.{[], ◌∷◌}
use Rattle.answers.specs.Checks.{first_of}
use Rattle.std.proofs.lemmas.Result.{err_from_is_err_and}
use Rattle.answers.proofs.InOrder.{refused_says, passed_says}
use Rattle.enumeration.specs.Enumeration.{Enumeration}
use Rattle.enumeration.specs.Enumerations.{selected_by}
use Rattle.indexing.specs.Calls.{selected_checks, index_rest}
use Rattle.points.proofs.Says.{let_through, selected_in, usable_in}
use Rattle.points.proofs.index.Goals as goal

pub invariant_of-numbering : goal.invariant_of-numbering
invariant_of-numbering c =
    let a = c.args in
    record { usable = usable_in a.selector.0 c.from.ensures a.length.0 a.radius.0 c.in_ok-check_selected.ensures }

pub returns : goal.returns
returns c =
    let a = c.args in
    let v = a.selector.0 in
    let l = a.length.0 in
    let k = a.radius.0 in
    let e = selected_in v _ c.from.ensures in
    c.index_usable.ensures
    ∙ ap (λ (f : Enumeration). first_of (index_rest l k a.x.now) (0 ∷ f.index a.x.now ∷ [])) e
    ∙ passed_says (selected_checks v l k) (index_rest l k a.x.now) (0 ∷ (selected_by v).index a.x.now ∷ [])
    (let_through v l k c.in_ok-check_selected.ensures)

pub returns-in_err-check_selected : goal.returns-in_err-check_selected
returns-in_err-check_selected c =
    let a = c.args in
    let v = a.selector.0 in
    let l = a.length.0 in
    let k = a.radius.0 in
    let p = err_from_is_err_and c.from_residual.result c.from_residual.ensures.1 in
    rw (p.1, p.2)
    (refused_says (selected_checks v l k) (index_rest l k a.x.now) [] (0 ∷ (selected_by v).index a.x.now ∷ []) c.in_err-check_selected.field-0.0
    c.in_err-check_selected.ensures)
