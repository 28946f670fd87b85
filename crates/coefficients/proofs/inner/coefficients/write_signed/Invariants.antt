-- What each turn of the loop keeps in `coefficients::inner::coefficients::write_signed`.
use Rattle.std.proofs.Common.{◌≡◌}
use Rattle.buffers.specs.Written.{written}
use Rattle.coefficients.specs.Points.{signed_by}
use Rattle.coefficients.proofs.inner.coefficients.write_signed.Given as goal

-- the buffer is filled with the signed magnitudes
abbrev pub invariant-loop-at : goal.invariant-loop-at
invariant-loop-at l = l.out ≡ written l.fn.out 0 (signed_by l.coefficients l.magnitudes) l.at
