-- `sending::send` says what the call send is to say and leaves what it is to leave: a refusal of the checks of the
-- books, the table and the book, and the buffer as it was; or else what is said and left for the run.
use Rattle.std.proofs.Common.{[], ◌∷◌, length, ◌∙◌}
use Rattle.std.proofs.lemmas.Result.{err_from_is_err_and}
use Rattle.answers.proofs.InOrder.{passed_says, passed_leaves}
use Rattle.tables.proofs.PlaceChecks.{sharing_good, book_numbered, book_passes, book_below}
use Rattle.tables.specs.BookNumbers.{book_checks}
use Rattle.pairing.proofs.Surveys.{survey_good, survey_says_lem, survey_leaves}
use Rattle.runs.specs.Sending.{send_rest, records_of}
use Rattle.sending.proofs.send.Goals as goal

pub send_run-requires : goal.send_run-requires
send_run-requires c =
    let a = c.args in
    let t = a.table.now in
    let found = survey_good (book_checks t a.books.0 a.book.0) t 0 c.survey_book.ensures (book_numbered t a.books.0 a.book.0) c.in_ok-surveyed.was in
    let shared = (book_passes t a.books.0 a.book.0 found.passes).0 in (
      record { good = sharing_good t a.books.0 shared; is_places = found.is_places; is_first = found.is_row },
      book_below t a.books.0 a.book.0 found.passes,
    )

pub returns : goal.returns
returns c =
    let a = c.args in
    let t = a.table.now in
    let run = a.run.now in
    let held = a.out.now in
    let found = survey_good (book_checks t a.books.0 a.book.0) t 0 c.survey_book.ensures (book_numbered t a.books.0 a.book.0) c.in_ok-surveyed.was in
    let rest = send_rest t run (length held) in
    let did = c.send_run.ensures in (
      did.0 ∙ passed_says (book_checks t a.books.0 a.book.0) rest (0 ∷ []) found.passes,
      did.1 ∙ passed_leaves (book_checks t a.books.0 a.book.0) rest (records_of t a.book.0 run) held found.passes,
    )

pub returns-in_err-surveyed : goal.returns-in_err-surveyed
returns-in_err-surveyed c =
    let a = c.args in
    let t = a.table.now in
    let run = a.run.now in
    let held = a.out.now in
    let says = c.survey_book.ensures in
    let told = c.in_err-surveyed.was in
    let rest = send_rest t run (length held) in
    let p = err_from_is_err_and c.from_residual.result c.from_residual.ensures.1 in
    rw (p.1, p.2) (
      survey_says_lem (book_checks t a.books.0 a.book.0) t 0 says told rest (0 ∷ []),
      survey_leaves (book_checks t a.books.0 a.book.0) t 0 says told rest (records_of t a.book.0 run) held,
    )
