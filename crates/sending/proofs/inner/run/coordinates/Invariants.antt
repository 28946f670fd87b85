-- The coordinates of the rows so far are counted.
use Rattle.std.proofs.Common.{◌≡◌}
use Rattle.tables.specs.Table.{places_before}
use Rattle.runs.specs.Run.{coordinates_before}
use Rattle.sending.proofs.inner.run.coordinates.Given as goal

abbrev pub invariant-loop-row : goal.invariant-loop-row
invariant-loop-row l = l.sum ≡ coordinates_before l.table (places_before l.table l.row-index)
