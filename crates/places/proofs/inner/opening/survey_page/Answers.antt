-- The books and the table are surveyed, and the length of the page is looked at behind that.
use Rattle.std.proofs.Common.{[], ◌∷◌}
use Rattle.rules.specs.Taking.{page_check}
use Rattle.std.proofs.lemmas.Result.{err_from_is_err_and}
use Rattle.pairing.proofs.Surveys.{survey_good, survey_says_lem}
use Rattle.tables.specs.Table.{places_in, row_of}
use Rattle.tables.proofs.PlaceChecks.{sharing_numbered}
use Rattle.tables.specs.BookNumbers.{sharing_checks}
use Rattle.places.proofs.Opening.{page_behind, told_to}
use Rattle.places.proofs.inner.opening.survey_page.Goals as goal

pub with_page-requires : goal.with_page-requires
with_page-requires c =
    let t = c.args.table.now in
    let books = c.args.books.0 in
    let found = survey_good (sharing_checks t books) t c.args.place c.survey_shared.ensures (sharing_numbered t books) c.in_ok-survey_shared.was in
    told_to books found (λ h. h)

pub returns : goal.returns
returns c =
    let t = c.args.table.now in
    let books = c.args.books.0 in
    let pg = c.args.page.now in
    let found = survey_good (sharing_checks t books) t c.args.place c.survey_shared.ensures (sharing_numbered t books) c.in_ok-survey_shared.was in
    page_behind books found pg c.with_page.ensures

pub returns-in_err-survey_shared : goal.returns-in_err-survey_shared
returns-in_err-survey_shared c =
    let t = c.args.table.now in
    let books = c.args.books.0 in
    let pg = c.args.page.now in
    let p = err_from_is_err_and c.from_residual.result c.from_residual.ensures.1 in
    rw (p.1, p.2) (survey_says_lem (sharing_checks t books) t c.args.place c.survey_shared.ensures c.in_err-survey_shared.was (page_check t books pg ∷ []) (0 ∷ places_in t ∷ row_of t c.args.place ∷ []))
