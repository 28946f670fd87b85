-- S is a binomial.
use Prim.Native.Nat.{ℕ, zero, suc, ◌-◌, ◌<◌}
use mathlib.Core.Path.{◌≡◌, ◌∙◌}
use native.Mathlib.Numerals.{sub-one}
use native.Mathlib.Omega.{arith}
use Rattle.counts.specs.Counts.{S, binomial}
use Rattle.ranges.proofs.inner.shape_count.Goals as goal

one_less : (s k : ℕ) → 0 < s → 0 < k → binomial (k - 1) (s - 1) ≡ S s k
unfolding S
one_less zero k p q = omega arith
one_less (suc s) zero p q = omega arith
one_less (suc s) (suc k) p q = simp sub-one

pub returns : goal.returns
returns c = c.binomial.ensures ∙ one_less c.args.s c.args.radius.0 (omega arith) (omega arith)
