-- `pairing::inner::walking::walk_from` begins the way at a place, in its row and no other.
use native.Mathlib.Omega.{arith}
use Rattle.tables.proofs.Good.{right_size}
use Rattle.tables.proofs.Walking.{row_in_table, at_place}
use Rattle.pairing.proofs.inner.walking.walk_from.Goals as goal

pub overflow_add-row : goal.overflow_add-row
overflow_add-row c = record { fits = omega (arith, row_in_table c.requires, (right_size c.args.table.now c.requires.good).rows_to) }

pub places_before-requires : goal.places_before-requires
places_before-requires c = (c.requires.good, omega (arith, row_in_table c.requires))

pub returns : goal.returns
returns c = at_place c.requires c.places_before.ensures.0
