-- The rows so far are summed, and where each begins is written.
use Rattle.std.proofs.Common.{◌≡◌, length}
use Rattle.tables.specs.Table.{places_before}
use Rattle.tables.specs.Way.{StartsTo}
use Rattle.pairing.proofs.inner.starts.row_starts.Given as goal

abbrev pub invariant-loop-number : goal.invariant-loop-number
invariant-loop-number l = (length l.starts ≡ 33) × (l.sum ≡ places_before l.table l.number) × StartsTo l.table l.number l.starts
