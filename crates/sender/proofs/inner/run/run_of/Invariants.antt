-- What each turn of the loop keeps in `sender::inner::run::run_of`.
use Rattle.std.proofs.Common.{◌≡◌, length, map}
use Rattle.buffers.specs.Written.{written}
use Rattle.runs.specs.File.{coefficient_of}
use Rattle.sender.proofs.inner.run.run_of.Given as goal

-- the coefficients are written one by one
abbrev pub invariant-loop-i : goal.invariant-loop-i
invariant-loop-i l = (length l.out ≡ length l.initial.out) × (l.out ≡ written l.initial.out 0 (map coefficient_of l.fours) l.i)
