-- `coefficients::inner::coefficients::write_magnitudes` fills the buffer with the magnitudes.
use Rattle.std.proofs.Common.{map, sym, ◌∙◌}
use native.Mathlib.Omega.{arith}
use lib.Ieee.{nan}
use lib.ListN.{length-map}
use Rattle.buffers.proofs.Writing.{fills_map, all_written}
use Rattle.floats.specs.Nearest.{nearest_whole}
use Rattle.coefficients.proofs.inner.coefficients.write_magnitudes.Goals as goal

pub loop-at-preserved : goal.loop-at-preserved
loop-at-preserved c =
    let i = c.loop-at in
    fills_map nearest_whole c.args.coefficients.now c.args.out.now 0 i.at nan (omega arith) (omega arith) c.nearest_whole.ensures.0 i.invariant

pub returns : goal.returns
returns c =
    let xs = c.args.coefficients.now in
    c.loop-at.invariant
    ∙ all_written c.args.out.now (map nearest_whole xs) c.loop-at.at (omega (arith, c.requires.1)) (length-map xs nearest_whole ∙ sym c.requires.1)
