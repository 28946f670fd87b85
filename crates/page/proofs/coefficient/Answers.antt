-- A refusal of the checks of the mode, the books, the table, the book, the place and the page carries nothing, or else
-- what is said and carried in the row of the place.
use Rattle.std.proofs.Common.{ℕ, List, [], Float}
use Rattle.std.proofs.lemmas.Result.{err_from_is_err_and}
use Rattle.answers.specs.Checks.{Check}
use Rattle.pairing.proofs.Surveys.{survey_says_lem, survey_leaves, number_in, row_surveyed, place_says, place_leaves}
use Rattle.places.proofs.Opening.{look_says, look_found, look_locatable, look_spot_in, look_cell}
use Rattle.laws.proofs.Pages.{look_place}
use Rattle.rules.specs.Layouts.{as_cells}
use Rattle.rules.specs.Judging.{judge, judge_at}
use Rattle.rules.specs.Reading as rules
use Rattle.rules.specs.Reading.{look_checks, coefficient_rest, carried_by}
use Rattle.rules.specs.Taking.{cell_for}
use Rattle.tables.specs.Table.{row_of, row_for}
use Rattle.page.proofs.coefficient.Goals as goal

pub locate-spot-requires : goal.locate-spot-requires
locate-spot-requires c =
    let a = c.args in
    let t = a.table.now in
    let found = look_found a.layout a.mode.0 t a.books.0 a.book.0 a.page.now a.place c.survey_look.ensures c.in_ok-surveyed.was in
    look_locatable a.layout a.mode.0 t a.books.0 a.book.0 a.page.now a.place found

pub row_at-requires : goal.row_at-requires
row_at-requires c =
    let a = c.args in
    let t = a.table.now in
    let pg = as_cells a.layout t a.books.0 a.page.now in
    let found = look_found a.layout a.mode.0 t a.books.0 a.book.0 a.page.now a.place c.survey_look.ensures c.in_ok-surveyed.was in
    number_in found (look_place a.mode.0 t a.books.0 a.book.0 pg a.place found.passes)

pub coefficient_at-requires : goal.coefficient_at-requires
coefficient_at-requires c =
    let a = c.args in
    let t = a.table.now in
    let pg = as_cells a.layout t a.books.0 a.page.now in
    let found = look_found a.layout a.mode.0 t a.books.0 a.book.0 a.page.now a.place c.survey_look.ensures c.in_ok-surveyed.was in (
      row_surveyed found (look_place a.mode.0 t a.books.0 a.book.0 pg a.place found.passes) c.row_at.ensures,
      look_spot_in a.layout a.mode.0 t a.books.0 a.book.0 a.page.now a.place found c.locate-spot.ensures,
    )

pub returns : goal.returns
returns c =
    let a = c.args in
    let t = a.table.now in
    let pg = as_cells a.layout t a.books.0 a.page.now in
    let book = a.book.0 in
    let p = a.place in
    let i = a.coordinate in
    let found = look_found a.layout a.mode.0 t a.books.0 book a.page.now p c.survey_look.ensures c.in_ok-surveyed.was in
    let placed = look_place a.mode.0 t a.books.0 book pg p found.passes in
    let rest : ℕ → List ℕ → List Check = λ r row. coefficient_rest row book p r (cell_for t pg book p) i in
    let tells : ℕ → List ℕ → List ℕ = λ r row. rules.told (judge a.mode.0 row (cell_for t pg book p)) in
    let carries : ℕ → List ℕ → List Float = λ r row. carried_by row (judge a.mode.0 row (cell_for t pg book p)) i in
    let lent = c.row_at.ensures in
    let located = c.locate-spot.ensures in
    let same = look_cell a.layout a.mode.0 t a.books.0 book a.page.now p found located in (
      place_says found placed lent rest tells (rw (located.is_named, same) at c.coefficient_at.ensures.says),
      place_leaves found placed lent rest carries [] (rw (located.is_named, same) at c.coefficient_at.ensures.carries),
    )

pub returns-in_err-surveyed : goal.returns-in_err-surveyed
returns-in_err-surveyed c =
    let a = c.args in
    let t = a.table.now in
    let pg = as_cells a.layout t a.books.0 a.page.now in
    let book = a.book.0 in
    let p = a.place in
    let checks = look_checks a.mode.0 t a.books.0 book pg p in
    let says = look_says a.layout a.mode.0 t a.books.0 book a.page.now p c.survey_look.ensures in
    let told = c.in_err-surveyed.was in
    let rest = coefficient_rest (row_for t p) book p (row_of t p) (cell_for t pg book p) a.coordinate in
    let e = err_from_is_err_and c.from_residual.result c.from_residual.ensures.1 in
    rw (e.1, e.2) (
      survey_says_lem checks t p says told rest (rules.told (judge_at a.mode.0 t pg book p)),
      survey_leaves checks t p says told rest (carried_by (row_for t p) (judge_at a.mode.0 t pg book p) a.coordinate) [],
    )
