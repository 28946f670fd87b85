-- NaN for each pattern of NaN, and any other as it is read.
use Rattle.std.proofs.Common.{sym}
use lib.Ieee.{of_bits}
use Rattle.floats.proofs.Patterns.{nan_pattern, no_nan_pattern}
use Rattle.floats.proofs.inner.from_pattern.Goals as goal

pub returns-then-bits-gt2139095040 : goal.returns-then-bits-gt2139095040
unfolding of_bits
returns-then-bits-gt2139095040 c = sym (nan_pattern c.args.bits c.if-bits-gt2139095040.true)

pub float_from_bits-result : goal.float_from_bits-result
float_from_bits-result c = rw (no_nan_pattern c.args.bits c.if-bits-gt2139095040.false) tt
