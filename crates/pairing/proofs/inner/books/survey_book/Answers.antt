-- `pairing::inner::books::survey_book` surveys the table and its books, and then looks at the book.
use mathlib.Core.List.{[], ◌∷◌}
use Rattle.std.proofs.lemmas.Result.{err_from_is_err_and}
use Rattle.tables.proofs.PlaceChecks.{sharing_numbered, no_book, some_book}
use Rattle.tables.specs.BookNumbers.{book_check, sharing_checks}
use Rattle.tables.specs.Table.{places_in, row_of}
use Rattle.pairing.proofs.Surveys.{survey_good, survey_says_lem, one_fails, one_passes}
use Rattle.pairing.proofs.inner.books.survey_book.Goals as goal

pub returns-then-books-book : goal.returns-then-books-book
returns-then-books-book c =
    let t = c.args.table.now in
    let checks = sharing_checks t c.args.books.0 in
    let found = survey_good checks t c.args.place c.survey_shared.ensures (sharing_numbered t c.args.books.0) c.in_ok-surveyed.was in
    one_fails found (book_check c.args.books.0 c.args.book.0) (no_book c.args.books.0 c.args.book.0 c.if-books-book.true)

pub returns : goal.returns
returns c =
    let t = c.args.table.now in
    let checks = sharing_checks t c.args.books.0 in
    let found = survey_good checks t c.args.place c.survey_shared.ensures (sharing_numbered t c.args.books.0) c.in_ok-surveyed.was in
    one_passes found (book_check c.args.books.0 c.args.book.0) (some_book c.args.books.0 c.args.book.0 c.if-books-book.false)

pub returns-in_err-surveyed : goal.returns-in_err-surveyed
returns-in_err-surveyed c =
    let t = c.args.table.now in
    let p = err_from_is_err_and c.from_residual.result c.from_residual.ensures.1 in
    rw (p.1, p.2)
    (survey_says_lem (sharing_checks t c.args.books.0) t c.args.place c.survey_shared.ensures c.in_err-surveyed.was
    (book_check c.args.books.0 c.args.book.0 ∷ [])
    (0 ∷ places_in t ∷ row_of t c.args.place ∷ []))
