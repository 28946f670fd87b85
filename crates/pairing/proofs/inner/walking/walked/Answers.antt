-- `pairing::inner::walking::walked` finds the row of a place from that of the place before it.
use mathlib.Core.Path.{◌∙◌, ap}
use native.Mathlib.Omega.{arith}
use Rattle.tables.proofs.Walking.{end_to, next_row}
use Rattle.tables.specs.Row.{places_of}
use Rattle.pairing.proofs.inner.walking.walked.Goals as goal

pub overflow_add-result : goal.overflow_add-result
overflow_add-result c = record { fits = omega (arith, end_to c.requires.0 c.requires.1, c.places.ensures.1) }

pub returns : goal.returns
returns c = next_row c.requires.0 c.requires.1 c.if-place-walk.false (c.places.ensures.0 ∙ ap places_of c.row_at.ensures)
