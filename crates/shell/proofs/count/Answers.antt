-- `shell::count` says what the call count is to say: a refusal of the checks as it stands, and else N, which is the
-- total of the exact field.
use Prim.Native.Nat.{ℕ}
use mathlib.Core.Path.{◌≡◌, ap, ◌∙◌}
use mathlib.Core.List.{[], ◌∷◌}
use Rattle.answers.specs.Checks.{first_of}
use Rattle.std.proofs.lemmas.Result.{err_from_is_err_and}
use Rattle.answers.proofs.InOrder.{refusal_stands}
use Rattle.counts.specs.Counts.{N, S}
use Rattle.counts.specs.Fields.{field_total}
use Rattle.counts.proofs.Fields.{total_exact}
use Rattle.tables.specs.Usable.{shell_checks}
use Rattle.tables.proofs.Usable.{usable_answers}
use Rattle.shell.proofs.count.Goals as goal

-- what the checks say of the exact field's total they say of N
by_count : (l k : ℕ) → first_of (shell_checks l k (field_total S l k)) (0 ∷ []) ≡ first_of (shell_checks l k (N l k)) (0 ∷ [])
by_count l k = ap (λ (n : ℕ). first_of (shell_checks l k n) (0 ∷ [])) (total_exact l k)

pub returns-in_err-check_shell : goal.returns-in_err-check_shell
returns-in_err-check_shell c =
    let l = c.args.length.0 in
    let k = c.args.radius.0 in
    let p = err_from_is_err_and c.from_residual.result c.from_residual.ensures.1 in
    rw (p.1, p.2) (refusal_stands [] (0 ∷ N l k ∷ []) (shell_checks l k (N l k)) c.in_err-check_shell.field-0.0 (c.in_err-check_shell.ensures ∙ by_count l k))

pub returns : goal.returns
returns c =
    let l = c.args.length.0 in
    let k = c.args.radius.0 in
    ap (λ (n : ℕ). 0 ∷ n ∷ []) (c.index_count.ensures ∙ total_exact l k)
    ∙ usable_answers l k (N l k) (0 ∷ N l k ∷ []) (c.in_ok-check_shell.ensures ∙ by_count l k)
