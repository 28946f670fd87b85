-- The next binomial, as `next` has it, with a product of up to 33 bits.
use Prim.Native.Nat.{ℕ, ◌-◌, ◌*◌, ◌/◌}
use mathlib.Core.Path.{◌≡◌, ap, ◌∙◌}
use native.Mathlib.Omega.{arith}
use Rattle.counts.specs.Counts.{binomial}
use Rattle.binomials.proofs.ProductForm.{next_exact}
use Rattle.binomials.proofs.Largest.{at_most}
use Rattle.binomials.proofs.inner.last.Goals as goal

fifteenth : (b n : ℕ) → b ≡ binomial n 14 → b * (n - 14) / 15 ≡ binomial n 15
fifteenth b n e = ap (λ x. x * (n - 14) / 15) e ∙ next_exact n 14

pub overflow_cast-result-3 : goal.overflow_cast-result-3
overflow_cast-result-3 c =
    let a = c.args in
    record { fits = rw (fifteenth a.of_14 a.n c.requires.2) (omega (arith, at_most a.n 15 (omega arith))) }

pub returns : goal.returns
returns c = fifteenth c.args.of_14 c.args.n c.requires.2
