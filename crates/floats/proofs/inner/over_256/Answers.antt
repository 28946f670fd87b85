-- Neither the conversion nor the division rounds: what the cast reads back from the bits of z is z.
use lib.Ieee.{of_bits}
use mir.Syntax.{w32}
use mir.Facts.{to_z-of_z}
use Rattle.floats.proofs.Exact.{quotient_says}
use Rattle.floats.proofs.inner.over_256.Goals as goal

pub returns : goal.returns
unfolding of_bits
returns c = rw (to_z-of_z {w = w32} c.ranges.z) (quotient_says c.args.z c.requires)
