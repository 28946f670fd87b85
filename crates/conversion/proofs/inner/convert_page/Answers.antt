-- A refusal of the books, the table or either page leaves the other page as it was; or else it is the page in the other
-- layout.
use Rattle.std.proofs.Common.{[], ◌∷◌}
use Rattle.std.proofs.lemmas.Result.{err_from_is_err_and}
use Rattle.pairing.proofs.Surveys.{survey_says_lem, survey_leaves}
use Rattle.rules.specs.Layouts.{turned}
use Rattle.rules.specs.Taking.{page_check, page_checks}
use Rattle.conversion.proofs.Converting.{few_cells, page_sized, other_sized, convert_4, convert_0}
use Rattle.conversion.proofs.inner.convert_page.Goals as goal

pub cells-n-requires : goal.cells-n-requires
cells-n-requires c = few_cells c.args.table.now c.args.books.0 c.args.page.now c.survey_page.ensures c.in_ok-surveyed.was

pub wrong_page-requires : goal.wrong_page-requires
wrong_page-requires c = rw c.cells-n.ensures (few_cells c.args.table.now c.args.books.0 c.args.page.now c.survey_page.ensures c.in_ok-surveyed.was)

pub returns-then-wrong_page : goal.returns-then-wrong_page
returns-then-wrong_page c =
    convert_4 c.args.table.now c.args.books.0 c.args.page.now c.survey_page.ensures c.in_ok-surveyed.was c.cells-n.ensures c.args.other.now c.wrong_page.ensures
    c.args.from c.args.to c.if-wrong_page.true

pub convert-requires : goal.convert-requires
convert-requires c =
    let t = c.args.table.now in
    let books = c.args.books.0 in
    let pg = c.args.page.now in
    let says = c.survey_page.ensures in
    let told = c.in_ok-surveyed.was in
    let is_n = c.cells-n.ensures in (
      page_sized t books pg says told is_n,
      other_sized t books pg says told is_n c.args.other.now c.wrong_page.ensures c.if-wrong_page.false,
      rw is_n (few_cells t books pg says told),
    )

pub returns : goal.returns
returns c =
    convert_0 c.args.table.now c.args.books.0 c.args.page.now c.survey_page.ensures c.in_ok-surveyed.was c.cells-n.ensures c.args.other.now c.wrong_page.ensures
    c.args.from c.args.to c.if-wrong_page.false c.convert.ensures

pub returns-in_err-surveyed : goal.returns-in_err-surveyed
returns-in_err-surveyed c =
    let t = c.args.table.now in
    let books = c.args.books.0 in
    let pg = c.args.page.now in
    let held = c.args.other.now in
    let says = c.survey_page.ensures in
    let told = c.in_err-surveyed.was in
    let e = err_from_is_err_and c.from_residual.result c.from_residual.ensures.1 in
    rw (e.1, e.2) (
      survey_says_lem (page_checks t books pg) t 0 says told (page_check t books held ∷ []) (0 ∷ []),
      survey_leaves (page_checks t books pg) t 0 says told (page_check t books held ∷ []) (turned c.args.from c.args.to t books pg) held,
    )
