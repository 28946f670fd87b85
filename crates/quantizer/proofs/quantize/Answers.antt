-- `quantizer::quantize` says what the call quantize is to say and leaves what it is to leave: a refusal of the checks
-- of the books, the table, the book and the place, and the record as it was; or else what is said and left for the row
-- of the place.
use Rattle.std.proofs.Common.{ℕ, List, [], ◌∷◌, length}
use native.Mathlib.Nat.{lt_of_lt_of_le}
use Rattle.std.proofs.lemmas.Result.{err_from_is_err_and}
use Rattle.answers.specs.Checks.{Check}
use Rattle.tables.proofs.PlaceChecks.{book_below, place_passes, place_good}
use Rattle.tables.proofs.Good.{places_to}
use Rattle.tables.specs.BookNumbers.{place_checks}
use Rattle.tables.specs.Table.{row_for}
use Rattle.records.specs.Record.{record_of}
use Rattle.pairing.proofs.Surveys.{survey_says_lem, survey_leaves, surveyed_place, number_in, row_surveyed, place_says, place_leaves}
use Rattle.coding.specs.Coded.{radius_number_for, codeword_for}
use Rattle.quantizer.specs.Calls.{quantize_rest, record_for}
use Rattle.quantizer.proofs.quantize.Goals as goal

pub row_at-requires : goal.row_at-requires
row_at-requires c =
    let a = c.args in
    let t = a.table.now in
    let found = surveyed_place t a.books.0 a.book.0 a.place c.survey_place.ensures c.in_ok-row.was in
    number_in found (place_good t a.books.0 a.book.0 a.place found.passes)

pub quantize_at-requires : goal.quantize_at-requires
quantize_at-requires c =
    let a = c.args in
    let t = a.table.now in
    let found = surveyed_place t a.books.0 a.book.0 a.place c.survey_place.ensures c.in_ok-row.was in
    let placed = place_good t a.books.0 a.book.0 a.place found.passes in
    let shared = (place_passes t a.books.0 a.book.0 a.place found.passes).0 in (
      row_surveyed found placed c.row_at.ensures,
      record { book_to = book_below t a.books.0 a.book.0 shared; place_to = lt_of_lt_of_le placed.1 (places_to t placed.0) },
    )

pub returns : goal.returns
returns c =
    let a = c.args in
    let t = a.table.now in
    let xs = a.coefficients.now in
    let held = a.out.now in
    let found = surveyed_place t a.books.0 a.book.0 a.place c.survey_place.ensures c.in_ok-row.was in
    let rest : ℕ → List ℕ → List Check = λ n row. quantize_rest row xs (length held) in
    let made : ℕ → List ℕ → List ℕ = λ n row. record_of a.book.0 a.place n (radius_number_for row xs) (codeword_for row xs) in
    let placed = place_good t a.books.0 a.book.0 a.place found.passes in
    let lent = c.row_at.ensures in
    let did = c.quantize_at.ensures in
    (place_says found placed lent rest (λ n row. 0 ∷ []) did.0, place_leaves found placed lent rest made held did.1)

pub returns-in_err-row : goal.returns-in_err-row
returns-in_err-row c =
    let a = c.args in
    let t = a.table.now in
    let xs = a.coefficients.now in
    let held = a.out.now in
    let checks = place_checks t a.books.0 a.book.0 a.place in
    let says = c.survey_place.ensures in
    let told = c.in_err-row.was in
    let rest = quantize_rest (row_for t a.place) xs (length held) in
    let p = err_from_is_err_and c.from_residual.result c.from_residual.ensures.1 in
    rw (p.1, p.2)
    (survey_says_lem checks t a.place says told rest (0 ∷ []), survey_leaves checks t a.place says told rest (record_for t a.book.0 a.place xs) held)
