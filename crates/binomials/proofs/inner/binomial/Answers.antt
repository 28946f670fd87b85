-- The binomial is 0 where r is above n.
use mathlib.Core.Path.{sym}
use native.Mathlib.Omega.{arith}
use Rattle.counts.proofs.Pascal.{binomial_small}
use Rattle.binomials.proofs.inner.binomial.Goals as goal

pub returns-then-n-r : goal.returns-then-n-r
returns-then-n-r c = sym (binomial_small c.args.n c.args.r (omega arith))
