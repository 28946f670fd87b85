-- The magnitudes of usable coefficients can be summed.
use Rattle.std.proofs.Common.{length, ap}
use native.Mathlib.Omega.{arith}
use lib.ListN.{length-map}
use Rattle.floats.specs.Nearest.{nearest_whole}
use Rattle.coding.proofs.Coding.{magnitudes_up_to}
use Rattle.coding.proofs.inner.measure.Goals as goal

pub sum-requires : goal.sum-requires
sum-requires c =
    let xs = c.args.coefficients.now in
    let made = c.write_magnitudes.ensures in
    (omega (arith, ap length made, length-map xs nearest_whole, c.requires.1), rw made (magnitudes_up_to xs c.requires.0))
