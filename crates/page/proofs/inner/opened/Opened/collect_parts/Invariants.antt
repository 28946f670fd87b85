-- `page::inner::opened::Opened::collect_parts` keeps that what is left of the run decides.
use Rattle.std.proofs.Common.{◌≡◌, ◌+◌, ◌≤◌, length}
use Rattle.rules.specs.Layouts.{as_cells}
use Rattle.rules.specs.Taking.{after, parts_of, collected}
use Rattle.page.specs.Bounds.{Ready}
use Rattle.page.proofs.inner.opened.Opened.collect_parts.Given as goal

abbrev pub invariant-loop-part : goal.invariant-loop-part
invariant-loop-part l =
    (l.part-iterator.size ≡ 8)
    × (l.refused + length l.part-iterator.rest.now ≤ length l.fn.bytes)
    × Ready l.self.table.now l.self.books.0 (as_cells l.self.layout l.self.table.now l.self.books.0 l.page) l.self.places
    × (after l.self.table.now l.self.books.0 (record { page = as_cells l.self.layout l.self.table.now l.self.books.0 l.page; refused = l.refused }) (parts_of l.part-iterator.rest.now)
    ≡ collected l.self.table.now l.self.books.0 (as_cells l.self.layout l.self.table.now l.self.books.0 l.fn.page) l.fn.bytes)
