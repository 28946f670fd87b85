-- What each turn of the loop keeps in `product::inner::range::locate`, and what falls with each turn.
use Prim.Native.Nat.{◌≤◌}
use mathlib.Core.Path.{◌≡◌}
use Rattle.counts.specs.Counts.{most_nonzero, range_start}
use Rattle.counts.specs.Fields.{size_of}
use Rattle.enumeration.specs.Reading.{range_of, range_from}
use Rattle.product.proofs.inner.range.locate.Given as goal

-- the start is that of the range for s and at most n, so that the range holds n where it ends past it, and the search
-- from s finds what the search from m does
abbrev pub invariant-loop-s : goal.invariant-loop-s
invariant-loop-s l =
    (l.s ≤ most_nonzero l.shell.length.0 l.shell.radius.0) × (l.start ≡ range_start (size_of l.shell.field) l.s l.shell.length.0 l.shell.radius.0) × (l.start ≤ l.n)
    × (range_of (size_of l.shell.field) l.shell.length.0 l.shell.radius.0 l.n ≡ range_from (size_of l.shell.field) l.shell.length.0 l.shell.radius.0 l.n l.s)

abbrev pub decreases-loop-s : goal.decreases-loop-s
decreases-loop-s l = l.s
