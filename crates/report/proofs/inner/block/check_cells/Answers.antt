-- The first refusal 12 among some places decides.
use Rattle.std.proofs.Common.{[], ◌∷◌, sym, ◌∙◌, add-one, arith}
use Rattle.answers.proofs.Each.{each_refused, each_passed}
use Rattle.rules.specs.Taking.{cell_check_at}
use Rattle.tables.proofs.Walking.{walks_on}
use Rattle.report.specs.Bounds.{page_spanned}
use Rattle.report.proofs.Spanned.{its_spot, its_cell, found_is}
use Rattle.report.proofs.inner.block.check_cells.Goals as goal

pub locate-requires : goal.locate-requires
locate-requires c = its_spot c.requires c.loop-place-test.true c.walked-walk.ensures

pub bad_at-requires : goal.bad_at-requires
bad_at-requires c = its_cell c.requires c.loop-place-test.true c.walked-walk.ensures c.locate.ensures

pub returns-then-bad_at : goal.returns-then-bad_at
returns-then-bad_at c =
    let i = c.loop-place in
    let span = c.args.span in
    let check = cell_check_at c.args.table.now (page_spanned c.args.table.now c.args.page.now span) span.book in
    let h = c.loop-place-test.true in
    let bad = found_is c.requires h c.walked-walk.ensures c.locate.ensures (sym c.bad_at.ensures ∙ c.if-bad_at.true) in
    sym (each_refused check (0 ∷ []) i.place span.to h bad) ∙ i.invariant.2

pub loop-place-preserved : goal.loop-place-preserved
loop-place-preserved c =
    let i = c.loop-place in
    let span = c.args.span in
    let check = cell_check_at c.args.table.now (page_spanned c.args.table.now c.args.page.now span) span.book in
    let at_row = c.walked-walk.ensures in
    let h = c.loop-place-test.true in
    let fine = found_is c.requires h at_row c.locate.ensures (sym c.bad_at.ensures ∙ c.if-bad_at.false) in (
      omega (arith, h),
      walks_on at_row,
      rw (add-one i.place) (sym (each_passed check (0 ∷ []) i.place span.to h fine) ∙ i.invariant.2),
    )
