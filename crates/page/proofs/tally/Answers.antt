-- A refusal of the checks of the mode, the books, the table, the book and the page, or else what is said behind them.
use Rattle.std.proofs.Common.{◌∷◌, ◌∙◌}
use Rattle.std.proofs.lemmas.Result.{err_from_is_err_and}
use Rattle.answers.proofs.InOrder.{passed_says}
use Rattle.pairing.proofs.Surveys.{survey_says_lem}
use Rattle.rules.specs.Layouts.{as_cells}
use Rattle.rules.specs.Tallying.{whole_checks, tally_rest, tally_of}
use Rattle.page.proofs.Surveyed.{whole_says, whole_found, whole_ready}
use Rattle.page.proofs.tally.Goals as goal

pub tally_page-requires : goal.tally_page-requires
tally_page-requires c =
    let t = c.args.table.now in
    let books = c.args.books.0 in
    let says = c.survey_whole.ensures in
    let told = c.in_ok-surveyed.was in
    let ready = whole_ready c.args.mode.0 c.args.layout t books c.args.book.0 c.args.page.now says told in
    (ready.0, ready.1, (whole_found c.args.mode.0 c.args.layout t books c.args.book.0 c.args.page.now says told).is_row)

pub returns : goal.returns
returns c =
    let t = c.args.table.now in
    let books = c.args.books.0 in
    let book = c.args.book.0 in
    let pg = as_cells c.args.layout t books c.args.page.now in
    let found = whole_found c.args.mode.0 c.args.layout t books book c.args.page.now c.survey_whole.ensures c.in_ok-surveyed.was in
    c.tally_page.ensures ∙ passed_says (whole_checks c.args.mode.0 t books book pg) (tally_rest t pg book) (0 ∷ tally_of c.args.mode.0 t pg book) found.passes

pub returns-in_err-surveyed : goal.returns-in_err-surveyed
returns-in_err-surveyed c =
    let t = c.args.table.now in
    let books = c.args.books.0 in
    let book = c.args.book.0 in
    let pg = as_cells c.args.layout t books c.args.page.now in
    let e = err_from_is_err_and c.from_residual.result c.from_residual.ensures.1 in
    rw (e.1, e.2)
    (survey_says_lem (whole_checks c.args.mode.0 t books book pg) t 0 (whole_says c.args.mode.0 c.args.layout t books book c.args.page.now c.survey_whole.ensures) c.in_err-surveyed.was (tally_rest t pg book) (0 ∷ tally_of c.args.mode.0 t pg book))
