-- What each turn of the loop keeps in `shares::inner::largest`.
use Rattle.std.proofs.Common.{ℕ, get_or}
use Rattle.shares.specs.Best.{larger}
use Rattle.shares.proofs.Best.{Scan}
use Rattle.shares.proofs.inner.largest.Given as goal

-- at each coordinate the first best of those before it, and its remainder
abbrev pub invariant-loop-at : goal.invariant-loop-at
invariant-loop-at l = Scan larger (λ (i : ℕ). get_or l.fn.rests i 0) l.at l.best l.most
