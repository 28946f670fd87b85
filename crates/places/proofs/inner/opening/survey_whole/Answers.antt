-- The mode is asked first, then the books, the table and the book are surveyed, and then the length of the page is
-- looked at.
use Rattle.std.proofs.lemmas.Result.{err_from_is_err_and}
use Rattle.pairing.proofs.Surveys.{survey_good, survey_says_lem, first_passes}
use Rattle.tables.specs.Table.{places_in, row_of}
use Rattle.std.proofs.Common.{[], ◌∷◌, ◌++◌, sym, ◌∙◌}
use Rattle.tables.proofs.PlaceChecks.{book_numbered, book_passes}
use Rattle.tables.specs.BookNumbers.{book_checks}
use Rattle.rules.specs.Modes.{mode_check}
use Rattle.rules.specs.Taking.{page_check}
use Rattle.places.proofs.Opening.{page_behind, told_to}
use Rattle.places.proofs.inner.opening.survey_whole.Goals as goal

pub with_page-requires : goal.with_page-requires
with_page-requires c =
    let t = c.args.table.now in
    let books = c.args.books.0 in
    let book = c.args.book.0 in
    let found = survey_good (book_checks t books book) t 0 c.survey_book.ensures (book_numbered t books book) c.in_ok-survey_book.was in
    told_to books found (λ h. (book_passes t books book h).0)

pub returns : goal.returns
returns c =
    let t = c.args.table.now in
    let books = c.args.books.0 in
    let book = c.args.book.0 in
    let pg = c.args.page.now in
    let found = survey_good (book_checks t books book) t 0 c.survey_book.ensures (book_numbered t books book) c.in_ok-survey_book.was in
    first_passes (mode_check c.args.mode.0) (book_checks t books book ++ (page_check t books pg ∷ [])) t 0
    (sym c.no_such_mode.ensures ∙ c.if-no_such_mode.false)
    (page_behind books found pg c.with_page.ensures)

pub returns-in_err-survey_book : goal.returns-in_err-survey_book
returns-in_err-survey_book c =
    let t = c.args.table.now in
    let books = c.args.books.0 in
    let book = c.args.book.0 in
    let pg = c.args.page.now in
    let p = err_from_is_err_and c.from_residual.result c.from_residual.ensures.1 in
    rw (p.1, p.2)
    (first_passes (mode_check c.args.mode.0) (book_checks t books book ++ (page_check t books pg ∷ [])) t 0
    (sym c.no_such_mode.ensures ∙ c.if-no_such_mode.false)
    (survey_says_lem (book_checks t books book) t 0 c.survey_book.ensures c.in_err-survey_book.was (page_check t books pg ∷ []) (0 ∷ places_in t ∷ row_of t 0 ∷ [])))
