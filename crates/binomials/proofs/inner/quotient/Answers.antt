-- It begins with no factor, whose product is 1, and with one, which is n.
use mathlib.Core.Path.{sym, ap}
use native.Mathlib.Omega.{arith}
use Rattle.counts.specs.Counts.{binomial}
use Rattle.binomials.proofs.ProductForm.{falling_one, binomial_one, reached}
use Rattle.binomials.proofs.inner.quotient.Goals as goal

pub returns-then-r-eq0 : goal.returns-then-r-eq0
unfolding binomial
returns-then-r-eq0 c = sym (ap (binomial c.args.n) c.if-r-eq0.true)

pub returns-then-r-le1 : goal.returns-then-r-le1
returns-then-r-le1 c = let n = c.args.n in reached n (sym (binomial_one n)) (omega arith)

pub with_factor-two-requires : goal.with_factor-two-requires
with_factor-two-requires c = (omega arith, omega arith, omega arith, sym (falling_one c.args.n))
