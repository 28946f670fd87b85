-- `magnitude::inner::read::pass` passes the magnitudes before the first: with k to sum to, what is left of the number
-- is that of what sums to k.
use Prim.Native.Nat.{◌-◌}
use native.Mathlib.Omega.{arith}
use Rattle.enumeration.proofs.Among.{passed_some}
use Rattle.enumeration.proofs.Passing.{pass_none, pass_one, pass_found}
use Rattle.magnitude.specs.Steps.{both_in}
use Rattle.magnitude.proofs.inner.read.pass.Goals as goal

pub loop-n-init : goal.loop-n-init
loop-n-init c =
    let many = both_in c.args.counts.now in
    let below = c.requires.number_below in
    (passed_some many c.args.left.k c.args.left.n below, pass_none many c.args.left.k c.args.left.n below)

pub returns-then-n-both : goal.returns-then-n-both
returns-then-n-both c =
    let passing = c.loop-n.invariant.1 in
    let found = pass_found (both_in c.args.counts.now) c.args.left.k c.args.left.n (c.loop-n.k - 1) c.loop-n.n passing c.if-n-both.true in
    record { is_sum = omega (arith, passing.in_sum, found.0); is_number = found.1 }

pub loop-n-preserved : goal.loop-n-preserved
loop-n-preserved c =
    pass_one (both_in c.args.counts.now) c.args.left.k c.args.left.n (c.loop-n.k - 1) c.loop-n.n c.loop-n.invariant.1 c.if-n-both.false
