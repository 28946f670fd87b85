-- What each turn of the loop keeps in `magnitude::inner::row::make`.
use mathlib.Core.Path.{◌≡◌}
use lib.ListN as listed
use Rattle.magnitude.specs.Rows.{counts_room, CountsTo}
use Rattle.magnitude.proofs.inner.row.make.Given as goal

-- the row of length 0 is raised as often as the length says
abbrev pub invariant-loop : goal.invariant-loop
invariant-loop l = (listed.length l.counts ≡ counts_room) × CountsTo l.counter l.radius.0 l.counts
