-- `report::inner::block::write_lines` keeps that the lines so far are written; what falls is how many places are left.
use Rattle.std.proofs.Common.{◌-◌, ◌≤◌}
use Rattle.tables.specs.Way.{Walked}
use Rattle.report.specs.Bounds.{page_spanned}
use Rattle.report.proofs.Joined.{LinesTo}
use Rattle.report.proofs.inner.block.write_lines.Given as goal

abbrev pub invariant-loop-place : goal.invariant-loop-place
invariant-loop-place l =
    (l.span.from ≤ l.place)
    × (l.place ≤ l.span.to)
    × Walked l.table l.walk.row l.walk.end l.place
    × LinesTo l.mode.0 l.table (page_spanned l.table l.page l.span) l.span.book l.span.from l.place l.initial.out l.end l.out

abbrev pub decreases-loop-place : goal.decreases-loop-place
decreases-loop-place l = l.span.to - l.place
