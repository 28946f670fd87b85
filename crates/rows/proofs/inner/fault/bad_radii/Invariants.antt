-- The positions so far are good.
use Rattle.std.proofs.Common.{◌≡◌, false}
use Rattle.tables.specs.Row.{bad_radii}
use Rattle.rows.proofs.inner.fault.bad_radii.Given as goal

abbrev pub invariant-loop-number : goal.invariant-loop-number
invariant-loop-number l = bad_radii l.row l.number ≡ false
