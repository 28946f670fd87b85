-- The next binomial: with one factor more, r + 1 times that one.
use Prim.Native.Nat.{suc, ◌+◌, ◌-◌, ◌*◌, ◌/◌}
use mathlib.Core.Path.{◌≡◌, ap, ◌∙◌}
use native.Mathlib.Omega.{arith}
use Rattle.counts.specs.Counts.{binomial}
use Rattle.binomials.proofs.ProductForm.{next_exact}
use Rattle.binomials.proofs.Largest.{step_within}
use Rattle.binomials.proofs.inner.next.Goals as goal

pub overflow_mul-result : goal.overflow_mul-result
overflow_mul-result c =
    let a = c.args in
    record { fits = rw c.requires.3 (omega (arith, step_within a.n a.r (omega arith) (omega arith))) }

pub returns : goal.returns
returns c =
    let a = c.args in
    let one_more : a.r + 1 ≡ suc a.r = omega arith in
    ap (λ x. x * (a.n - a.r) / (a.r + 1)) c.requires.3
    ∙ ap (λ x. binomial a.n a.r * (a.n - a.r) / x) one_more
    ∙ next_exact a.n a.r
