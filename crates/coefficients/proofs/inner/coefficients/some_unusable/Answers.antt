-- `coefficients::inner::coefficients::some_unusable` looks at each coefficient.
use Rattle.std.proofs.Common.{refl}
use native.Mathlib.Numerals.{add-one}
use Rattle.coefficients.specs.Coefficients.{some_unusable}
use Rattle.coefficients.proofs.inner.coefficients.some_unusable.Goals as goal

pub loop-coefficient-init : goal.loop-coefficient-init
unfolding some_unusable
loop-coefficient-init c = refl

pub loop-coefficient-preserved : goal.loop-coefficient-preserved
unfolding some_unusable
loop-coefficient-preserved c =
    let i = c.loop-coefficient in
    rw (add-one i.coefficient-index, i.invariant, c.is_unusable-some.ensures) refl
