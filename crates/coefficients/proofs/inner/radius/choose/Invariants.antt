-- What each turn of the loop keeps in `coefficients::inner::radius::choose`.
use Rattle.shares.specs.Best.{smaller}
use Rattle.shares.proofs.Best.{Scan}
use Rattle.coefficients.specs.Radius.{miss_by}
use Rattle.coefficients.proofs.inner.radius.choose.Given as goal

-- at each number the first best of those before it, and by how much that one misses
abbrev pub invariant-loop-number : goal.invariant-loop-number
invariant-loop-number l = Scan smaller (miss_by l.fn.row l.total) l.number l.best l.least
