-- The places of the rows so far are summed.
use Rattle.std.proofs.Common.{◌≡◌}
use Rattle.tables.specs.Table.{places_before}
use Rattle.pairing.proofs.inner.walking.places_before.Given as goal

abbrev pub invariant-loop-before : goal.invariant-loop-before
invariant-loop-before l = l.sum ≡ places_before l.table l.before-index
