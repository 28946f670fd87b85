-- All parts are refused where the books, the table or the page are, or else what is done behind their checks.
use Rattle.std.proofs.Common.{sym, ap, ◌∙◌}
use Rattle.pairing.proofs.Surveys.{survey_fails}
use Rattle.laws.proofs.Layouts.{as_kept_lem}
use Rattle.rules.specs.Layouts.{as_cells}
use Rattle.rules.specs.Taking.{page_checks, Received}
use Rattle.page.proofs.Collecting.{shut_collected}
use Rattle.page.proofs.Surveyed.{page_says, page_ready}
use Rattle.page.proofs.collect.Goals as goal

pub collect_records-requires : goal.collect_records-requires
collect_records-requires c = page_ready c.args.layout c.args.table.now c.args.books.0 c.args.page.now 0 c.survey_page.ensures c.in-Ok.is

pub returns-in-Ok : goal.returns-in-Ok
returns-in-Ok c =
    let did = c.collect_records.ensures in
    (did.0, as_kept_lem c.args.layout c.args.table.now c.args.books.0 c.collect_records.new.page did.1)

pub returns-in-Err : goal.returns-in-Err
returns-in-Err c =
    let t = c.args.table.now in
    let books = c.args.books.0 in
    let pg = as_cells c.args.layout t books c.args.page.now in
    let all = shut_collected t books pg c.args.bytes.now
    (survey_fails (page_checks t books pg) t 0 (page_says c.args.layout t books c.args.page.now 0 c.survey_page.ensures) c.in-Err.is) in
    (c.parts.ensures ∙ ap (λ (s : Received). s.refused) (sym all), as_kept_lem c.args.layout t books c.args.page.now (ap (λ (s : Received). s.page) (sym all)))
