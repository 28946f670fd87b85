-- `page::inner::opened::Opened::tally_page` keeps that the places so far are counted; what falls is how many are left.
use Rattle.std.proofs.Common.{◌-◌}
use Rattle.rules.specs.Layouts.{as_cells}
use Rattle.page.proofs.Tallying.{Tallying}
use Rattle.page.proofs.inner.opened.Opened.tally_page.Given as goal

abbrev pub invariant-loop-place : goal.invariant-loop-place
invariant-loop-place l = Tallying l.mode.0 l.self.table.now (as_cells l.self.layout l.self.table.now l.self.books.0 l.page) l.book.0 l.walk.row l.walk.end l.place l.counts

abbrev pub decreases-loop-place : goal.decreases-loop-place
decreases-loop-place l = l.self.places - l.place
