-- The places are counted in turn, up to one for which refusal 12 is given.
use Rattle.std.proofs.Common.{ℕ, List, ◌≡◌, ap, ◌∙◌, arith}
use Rattle.std.proofs.lemmas.Result.{err_from_is_err_and}
use Rattle.answers.specs.declared.Refusal.TheVariants as refusal
use Rattle.cells.specs.Spots.{cell_there}
use Rattle.rules.specs.Judging.{judge}
use Rattle.tables.proofs.Walking.{row_bytes}
use Rattle.page.proofs.Tallying.{place_0, begins, count_fits, its_spot, its_cell, tally_12, counts_on}
use Rattle.page.proofs.inner.opened.Opened.tally_page.Goals as goal

pub walk_from-walk-requires : goal.walk_from-walk-requires
walk_from-walk-requires c = place_0 c.requires.0 c.requires.2

pub loop-place-init : goal.loop-place-init
loop-place-init c = begins c.args.self.now.layout c.args.page.now c.requires.0 c.requires.1 c.walk_from-walk.ensures

pub locate-spot-requires : goal.locate-spot-requires
locate-spot-requires c =
    its_spot c.args.self.now.layout c.args.page.now c.requires.0 c.requires.1 c.loop-place.invariant c.loop-place-test.true c.walked-walk.ensures

pub look-requires : goal.look-requires
look-requires c =
    let at_row = c.walked-walk.ensures in (
      rw c.row_at.ensures (row_bytes at_row),
      its_cell c.args.self.now.layout c.args.page.now c.requires.0 c.requires.1 c.loop-place.invariant c.loop-place-test.true at_row c.locate-spot.ensures,
    )

pub returns-in_err-seen : goal.returns-in_err-seen
returns-in_err-seen c =
    let none = c.in_err-seen.ensures.ok_part in
    let value = rw none at c.in_err-seen.ensures.value in
    let twelve : c.in_err-seen.field-0.0 ≡ refusal.BadCellAt c.loop-place.place = cc in
    let e = err_from_is_err_and c.from_residual.result c.from_residual.ensures.1 in
    rw (e.1, e.2, twelve)
    (tally_12 c.args.self.now.layout c.args.page.now c.requires.0 c.requires.1 c.loop-place.invariant c.loop-place-test.true c.walked-walk.ensures c.locate-spot.ensures
    (rw none at c.look.ensures))

pub overflow_add-counts : goal.overflow_add-counts
overflow_add-counts c =
    omega (arith, count_fits c.args.self.now.layout c.args.page.now c.requires.0 c.requires.1 c.loop-place.invariant c.loop-place-test.true c.answer_number.result)

pub loop-place-preserved : goal.loop-place-preserved
loop-place-preserved c =
    let seen = rw c.in_ok-seen.ensures.ok_part at c.look.ensures in
    let spot = c.locate-spot.result in
    let judged = seen.1.is_judged ∙ ap (λ (row : List ℕ). judge c.args.mode.0 row (cell_there c.args.page.now spot)) c.row_at.ensures in
    counts_on c.args.self.now.layout c.args.page.now c.requires.0 c.requires.1 c.loop-place.invariant c.loop-place-test.true c.walked-walk.ensures c.locate-spot.ensures
    seen.0 judged c.answer_number.ensures.0
