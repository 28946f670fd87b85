-- The sum is 2^23 and the whole number nearest to 256 times the coefficient, so that the cast loses nothing.
use native.Mathlib.Omega.{arith}
use denote.Floats.{passes}
use lib.Ieee.{binary32, fits, of_bits}
use Rattle.floats.proofs.Limit.{whole_bound}
use Rattle.floats.proofs.Rounding.{cast, taken_off}
use Rattle.floats.proofs.inner.rounded.Goals as goal

pub float_to_int-result : goal.float_to_int-result
unfolding of_bits
float_to_int-result c = (cast c.args.x (passes (fits binary32 c.args.x) c.well_formed.0.1) c.requires.0 c.requires.1).0

pub overflow_sub-result : goal.overflow_sub-result
unfolding of_bits
overflow_sub-result c = omega (arith, (cast c.args.x (passes (fits binary32 c.args.x) c.well_formed.0.1) c.requires.0 c.requires.1).1)

pub returns : goal.returns
unfolding of_bits
returns c =
    let fine = passes (fits binary32 c.args.x) c.well_formed.0.1 in
    taken_off (cast c.args.x fine c.requires.0 c.requires.1).1 (whole_bound c.args.x c.requires.0)
