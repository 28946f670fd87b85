-- What is below 32,768 and above -32,768 is let through.
use Rattle.std.proofs.Common.{sym}
use denote.Floats.{passes}
use lib.Ieee.{binary32, fits, of_bits, neg}
use Rattle.floats.proofs.Limit.{let_through, past_limit, before_limit}
use Rattle.floats.proofs.inner.is_unusable.Goals as goal

pub returns-then-x-2 : goal.returns-then-x-2
unfolding of_bits neg
returns-then-x-2 c = sym (let_through c.args.x (passes (fits binary32 c.args.x) c.well_formed.0.1) c.if-x.true c.if-x-2.true)

pub returns-else-x-2 : goal.returns-else-x-2
unfolding of_bits neg
returns-else-x-2 c = sym (before_limit c.args.x (passes (fits binary32 c.args.x) c.well_formed.0.1) c.if-x-2.false)

pub returns-else-x : goal.returns-else-x
unfolding of_bits
returns-else-x c = sym (past_limit c.args.x (passes (fits binary32 c.args.x) c.well_formed.0.1) c.if-x.false)
