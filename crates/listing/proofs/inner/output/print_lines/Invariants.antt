-- What each turn of the loop keeps in `listing::inner::output::print_lines`, and what falls with each turn.
use Rattle.std.proofs.Common.{◌≡◌, ◌-◌, ◌≤◌, length}
use Rattle.listing.proofs.inner.output.print_lines.Given as goal

abbrev pub invariant-loop-from : goal.invariant-loop-from
invariant-loop-from g l = (l.from ≤ 4096) × (length l.out ≡ 65536)

abbrev pub decreases-loop-from : goal.decreases-loop-from
decreases-loop-from g l = 4096 - l.from
