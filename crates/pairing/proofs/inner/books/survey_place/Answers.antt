-- `pairing::inner::books::survey_place` surveys the table and the book, and then looks at the place.
use mathlib.Core.List.{[], ◌∷◌}
use Rattle.std.proofs.lemmas.Result.{err_from_is_err_and}
use Rattle.tables.proofs.PlaceChecks.{book_numbered, no_place_lem, some_place}
use Rattle.tables.specs.BookNumbers.{book_checks}
use Rattle.tables.specs.Table.{places_in, row_of, place_check}
use Rattle.pairing.proofs.Surveys.{survey_good, survey_says_lem, one_fails, one_passes}
use Rattle.pairing.proofs.inner.books.survey_place.Goals as goal

pub returns-then-surveyed-place : goal.returns-then-surveyed-place
returns-then-surveyed-place c =
    let t = c.args.table.now in
    let checks = book_checks t c.args.books.0 c.args.book.0 in
    let found = survey_good checks t c.args.place c.survey_book.ensures (book_numbered t c.args.books.0 c.args.book.0) c.in_ok-surveyed.was in
    one_fails found (place_check t c.args.place) (no_place_lem t c.args.place found.is_places c.if-surveyed-place.true)

pub returns : goal.returns
returns c =
    let t = c.args.table.now in
    let checks = book_checks t c.args.books.0 c.args.book.0 in
    let found = survey_good checks t c.args.place c.survey_book.ensures (book_numbered t c.args.books.0 c.args.book.0) c.in_ok-surveyed.was in
    one_passes found (place_check t c.args.place) (some_place t c.args.place found.is_places c.if-surveyed-place.false)

pub returns-in_err-surveyed : goal.returns-in_err-surveyed
returns-in_err-surveyed c =
    let t = c.args.table.now in
    let p = err_from_is_err_and c.from_residual.result c.from_residual.ensures.1 in
    rw (p.1, p.2)
    (survey_says_lem (book_checks t c.args.books.0 c.args.book.0) t c.args.place c.survey_book.ensures c.in_err-surveyed.was (place_check t c.args.place ∷ [])
    (0 ∷ places_in t ∷ row_of t c.args.place ∷ []))
