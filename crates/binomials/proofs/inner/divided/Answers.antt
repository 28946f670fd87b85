-- The binomial by its product form: the division is exact.
use Prim.Native.Nat.{◌/◌}
use mathlib.Core.Path.{sym, ap, ap₂, ◌∙◌}
use Rattle.counts.specs.Counts.{binomial}
use Rattle.binomials.proofs.ProductForm.{factorial_positive, exact}
use Rattle.binomials.proofs.inner.divided.Goals as goal

pub nonzero_div-result : goal.nonzero_div-result
nonzero_div-result c = rw c.requires.2 (factorial_positive c.args.factors)

pub returns : goal.returns
returns c =
    let a = c.args in
    let asked = c.requires in
    ap₂ ◌/◌ asked.1 asked.2 ∙ exact a.n a.factors ∙ ap (binomial a.n) (sym asked.0)
