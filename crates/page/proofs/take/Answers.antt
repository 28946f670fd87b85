-- A refusal of the books, the table or the page leaves the page as it was, or else what is said and left behind their
-- checks.
use Rattle.std.proofs.Common.{[], ◌∷◌, ◌∙◌}
use Rattle.std.proofs.lemmas.Result.{err_from_is_err_and}
use Rattle.answers.proofs.InOrder.{passed_says, passed_leaves}
use Rattle.pairing.proofs.Surveys.{survey_says_lem, survey_leaves}
use Rattle.laws.proofs.Layouts.{as_kept_lem}
use Rattle.rules.specs.Layouts.{as_cells}
use Rattle.rules.specs.Taking.{page_checks, take_rest, take_into}
use Rattle.page.proofs.Surveyed.{page_says, page_found, page_ready}
use Rattle.page.proofs.Taking.{tells_by}
use Rattle.page.proofs.take.Goals as goal

pub take_record-requires : goal.take_record-requires
take_record-requires c =
    let t = c.args.table.now in
    let books = c.args.books.0 in
    let page = c.args.page.now in
    let named = c.place_named in
    let says = c.survey_page.ensures in
    let told = c.in_ok-surveyed.was in
    let found = page_found c.args.layout t books page named.result says told in (
      page_ready c.args.layout t books page named.result says told,
      tells_by t c.args.bytes.now named.ensures found.is_row c.names_other_row-foreign.ensures,
    )

pub returns : goal.returns
returns c =
    let t = c.args.table.now in
    let books = c.args.books.0 in
    let pg = as_cells c.args.layout t books c.args.page.now in
    let x = c.args.bytes.now in
    let checks = page_checks t books pg in
    let rest = take_rest t books pg x in
    let passes = (page_ready c.args.layout t books c.args.page.now c.place_named.result c.survey_page.ensures c.in_ok-surveyed.was).passes in
    let did = c.take_record.ensures in (
      did.0 ∙ passed_says checks rest (0 ∷ []) passes,
      as_kept_lem c.args.layout t books c.take_record.new.page (did.1 ∙ passed_leaves checks rest (take_into t pg x) pg passes),
    )

pub returns-in_err-surveyed : goal.returns-in_err-surveyed
returns-in_err-surveyed c =
    let t = c.args.table.now in
    let books = c.args.books.0 in
    let pg = as_cells c.args.layout t books c.args.page.now in
    let x = c.args.bytes.now in
    let p = c.place_named.result in
    let checks = page_checks t books pg in
    let rest = take_rest t books pg x in
    let says = page_says c.args.layout t books c.args.page.now p c.survey_page.ensures in
    let told = c.in_err-surveyed.was in
    let e = err_from_is_err_and c.from_residual.result c.from_residual.ensures.1 in
    rw (e.1, e.2) (
      survey_says_lem checks t p says told rest (0 ∷ []),
      as_kept_lem c.args.layout t books c.args.page.now (survey_leaves checks t p says told rest (take_into t pg x) pg),
    )
