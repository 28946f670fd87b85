-- The loop goes down from m: what is summed is the start of the range for i, and i stays from the smaller of s and m
-- on.
use Prim.Native.Nat.{◌≤◌, min}
use mathlib.Core.Path.{◌≡◌}
use Rattle.counts.specs.Counts.{most_nonzero, range_start}
use Rattle.counts.specs.Fields.{size_of}
use Rattle.ranges.proofs.inner.usable.Shell.range_start.Given as goal

abbrev pub invariant-loop-i : goal.invariant-loop-i
invariant-loop-i l =
    (min l.s (most_nonzero l.self.length.0 l.self.radius.0) ≤ l.i) × (l.start ≡ range_start (size_of l.self.field) l.i l.self.length.0 l.self.radius.0)
