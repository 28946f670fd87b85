-- `pairing::check` says what the checks of the table say, with the places where they pass: the survey says the
-- same, with a row besides.
use Prim.Native.Nat.{ℕ}
use mathlib.Core.Path.{sym, ap, ◌∙◌}
use mathlib.Core.List.{List, [], ◌∷◌}
use Rattle.std.proofs.lemmas.Result.{err_from_is_err_and}
use Rattle.answers.proofs.InOrder.{passes_says, refusal_stands}
use Rattle.tables.proofs.Seven.{table_numbered}
use Rattle.tables.specs.Table.{places_in, row_of, table_checks}
use Rattle.pairing.proofs.Surveys.{survey_good}
use Rattle.pairing.proofs.check.Goals as goal

pub returns : goal.returns
returns c =
    let t = c.args.table.now in
    let answer : List ℕ = 0 ∷ places_in t ∷ [] in
    let found = survey_good (table_checks t) t 0 c.survey.ensures (table_numbered t) c.in_ok-survey.was in
    ap (λ (n : ℕ). 0 ∷ n ∷ []) found.is_places ∙ sym (passes_says answer (table_checks t) found.passes)

pub returns-in_err-survey : goal.returns-in_err-survey
returns-in_err-survey c =
    let t = c.args.table.now in
    let p = err_from_is_err_and c.from_residual.result c.from_residual.ensures.1 in
    rw (p.1, p.2)
    (refusal_stands (places_in t ∷ row_of t 0 ∷ []) (0 ∷ places_in t ∷ []) (table_checks t) c.in_err-survey.field-0.0 c.in_err-survey.ensures)
