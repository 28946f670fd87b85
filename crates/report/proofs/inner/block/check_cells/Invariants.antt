-- `report::inner::block::check_cells` keeps that the places left decide; what falls is how many are left.
use Rattle.std.proofs.Common.{◌≡◌, ◌-◌, ◌≤◌, [], ◌∷◌}
use Rattle.answers.specs.Checks.{first_of, each_from}
use Rattle.rules.specs.Taking.{cell_check_at}
use Rattle.tables.specs.Way.{Walked}
use Rattle.report.specs.Bounds.{page_spanned}
use Rattle.report.proofs.inner.block.check_cells.Given as goal

abbrev pub invariant-loop-place : goal.invariant-loop-place
invariant-loop-place l =
    (l.place ≤ l.span.to)
    × Walked l.table l.walk.row l.walk.end l.place
    × (first_of (each_from (cell_check_at l.table (page_spanned l.table l.page l.span) l.span.book) l.place (l.span.to - l.place)) (0 ∷ [])
    ≡ first_of (each_from (cell_check_at l.table (page_spanned l.table l.page l.span) l.span.book) l.span.from (l.span.to - l.span.from)) (0 ∷ []))

abbrev pub decreases-loop-place : goal.decreases-loop-place
decreases-loop-place l = l.span.to - l.place
