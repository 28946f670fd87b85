-- It is found where the rows begin.
use Rattle.std.proofs.Common.{refl}
use Rattle.laws.proofs.Pages.{page_good}
use Rattle.rules.specs.Layouts.{as_cells}
use Rattle.page.proofs.inner.opened.Opened.collect_records.Goals as goal

pub row_starts-requires : goal.row_starts-requires
row_starts-requires c =
    (page_good c.args.self.now.table.now c.args.self.now.books.0 (as_cells c.args.self.now.layout c.args.self.now.table.now c.args.self.now.books.0 c.args.page.now) c.requires.passes, refl)
