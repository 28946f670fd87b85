-- The product with the factor n - i, which 32 bits hold.
use Prim.Native.Nat.{suc, ◌-◌, ◌*◌}
use mathlib.Core.Path.{ap}
use native.Mathlib.Omega.{arith}
use Rattle.binomials.specs.ProductForm.{falling}
use Rattle.binomials.proofs.Largest.{product_within}
use Rattle.binomials.proofs.inner.with_factor.Goals as goal

pub overflow_mul-result : goal.overflow_mul-result
unfolding falling
overflow_mul-result c =
    let a = c.args in
    record { fits = rw c.requires.3 (omega (arith, product_within a.n (suc a.i) (omega arith) (omega arith))) }

pub returns : goal.returns
unfolding falling
returns c = let a = c.args in ap (λ x. x * (a.n - a.i)) c.requires.3
