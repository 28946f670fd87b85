-- What each turn of the loop keeps in `coefficients::inner::coefficients::write_magnitudes`.
use Rattle.std.proofs.Common.{◌≡◌, map}
use Rattle.buffers.specs.Written.{written}
use Rattle.floats.specs.Nearest.{nearest_whole}
use Rattle.coefficients.proofs.inner.coefficients.write_magnitudes.Given as goal

-- the buffer is filled with the magnitudes
abbrev pub invariant-loop-at : goal.invariant-loop-at
invariant-loop-at l = l.out ≡ written l.fn.out 0 (map nearest_whole l.coefficients) l.at
