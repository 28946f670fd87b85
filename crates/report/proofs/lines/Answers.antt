-- A refusal of the checks of the mode, the books, the table, the book, the place and the page leaves the buffer as it
-- was, or else what is said and left behind them.
use Rattle.std.proofs.Common.{refl, ◌∙◌, arith, length, subst, sym}
use Rattle.std.proofs.lemmas.Result.{err_from_is_err_and}
use Rattle.answers.proofs.InOrder.{passed_says, passed_leaves}
use Rattle.answers.specs.Checks.{Passes}
use Rattle.pairing.proofs.Surveys.{survey_says_lem, survey_leaves}
use Rattle.places.proofs.Opening.{look_says, look_found}
use Rattle.laws.proofs.Layouts.{same_look_checks}
use Rattle.rules.specs.Layouts.{as_cells}
use Rattle.rules.specs.Reading.{look_checks}
use Rattle.reporting.specs.Calls.{starting_with, lines_rest, lines_text, lines_answer}
use Rattle.report.proofs.lines.Goals as goal

pub lines_from-requires : goal.lines_from-requires
lines_from-requires c =
    let a = c.args in
    let t = a.table.now in
    let found = look_found a.layout a.mode.0 t a.books.0 a.book.0 a.page.now a.from c.survey_look.ensures c.in_ok-surveyed.was in
    record {
      passes = subst Passes (sym (same_look_checks a.layout t a.books.0 a.page.now a.mode.0 a.book.0 a.from)) found.passes;
      is_places = found.is_places;
      is_row = found.is_row;
      to_end = refl;
    }

pub returns : goal.returns
returns c =
    let a = c.args in
    let t = a.table.now in
    let pg = as_cells a.layout t a.books.0 a.page.now in
    let book = a.book.0 in
    let held = a.out.now in
    let checks = look_checks a.mode.0 t a.books.0 book pg a.from in
    let passes = (look_found a.layout a.mode.0 t a.books.0 book a.page.now a.from c.survey_look.ensures c.in_ok-surveyed.was).passes in
    let rest = lines_rest t pg book a.from (length held) in
    let did = c.lines_from.ensures in (
      did.says ∙ passed_says checks rest (lines_answer a.mode.0 t pg book a.from (length held)) passes,
      did.leaves ∙ passed_leaves checks rest (starting_with (lines_text a.mode.0 t pg book a.from (length held)) held) held passes,
      did.fits,
    )

pub returns-in_err-surveyed : goal.returns-in_err-surveyed
returns-in_err-surveyed c =
    let a = c.args in
    let t = a.table.now in
    let pg = as_cells a.layout t a.books.0 a.page.now in
    let book = a.book.0 in
    let held = a.out.now in
    let checks = look_checks a.mode.0 t a.books.0 book pg a.from in
    let says = look_says a.layout a.mode.0 t a.books.0 book a.page.now a.from c.survey_look.ensures in
    let told = c.in_err-surveyed.was in
    let e = err_from_is_err_and c.from_residual.result c.from_residual.ensures.1 in
    let rest = lines_rest t pg book a.from (length held) in
    rw (e.1, e.2) (
      survey_says_lem checks t a.from says told rest (lines_answer a.mode.0 t pg book a.from (length held)),
      survey_leaves checks t a.from says told rest (starting_with (lines_text a.mode.0 t pg book a.from (length held)) held) held,
      omega arith,
    )
