-- What each turn of the loop keeps in `coefficients::inner::coefficients::some_unusable`.
use Rattle.std.proofs.Common.{◌≡◌}
use Rattle.coefficients.specs.Coefficients.{some_unusable}
use Rattle.coefficients.proofs.inner.coefficients.some_unusable.Given as goal

-- each coefficient so far was looked at
abbrev pub invariant-loop-coefficient : goal.invariant-loop-coefficient
invariant-loop-coefficient l = l.some ≡ some_unusable l.coefficients l.coefficient-index
