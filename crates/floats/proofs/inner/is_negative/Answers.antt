-- `floats::inner::is_negative` tests whether a coefficient is below zero.
use Rattle.std.proofs.Common.{refl}
use lib.Ieee.{of_bits}
use Rattle.floats.specs.Units.{negative}
use Rattle.floats.proofs.inner.is_negative.Goals as goal

pub returns : goal.returns
unfolding negative of_bits
returns c = refl
