-- `listing::inner::output::print_lines` prints block after block of what the call lines has written, each behind
-- the one before.
use Rattle.std.proofs.Common.{◌∙◌, arith}
use Rattle.reporting.proofs.Steps.{said_goes_on}
use Rattle.tables.specs.BookNumbers.{one_book, only_book}
use Rattle.layout.specs.declared.Layout.TheVariants as layouts
use Rattle.rules.specs.Layouts.{as_cells}
use Rattle.rules.specs.Modes.{mending}
use Rattle.listing.proofs.inner.output.print_lines.Goals as goal

pub loop-from-smaller : goal.loop-from-smaller
loop-from-smaller g c =
    let t = c.args.table.now in
    let l = c.loop-from in
    let on = said_goes_on t mending one_book only_book (as_cells layouts.CellByCell t one_book c.args.page.now) l.out l.from _ _ c.in_ok-listed.ensures.0 in
    omega (arith, on.0, on.1)

pub loop-from-preserved : goal.loop-from-preserved
loop-from-preserved g c =
    let t = c.args.table.now in
    let l = c.loop-from in
    let on = said_goes_on t mending one_book only_book (as_cells layouts.CellByCell t one_book c.args.page.now) l.out l.from _ _ c.in_ok-listed.ensures.0 in
    (on.1, c.lines.auto.out ∙ l.invariant.1)
