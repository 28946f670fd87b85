-- What each turn of the loop keeps in `shares::inner::divide`.
use Rattle.std.proofs.Common.{◌≡◌, map}
use Rattle.buffers.specs.Written.{written}
use Rattle.shares.specs.Shares.{whole_part, remainder}
use Rattle.shares.proofs.inner.divide.Given as goal

-- what is not reached yet is still the magnitude
abbrev pub invariant-loop-at : goal.invariant-loop-at
invariant-loop-at l =
    (l.magnitudes ≡ written l.fn.magnitudes 0 (map (whole_part l.k l.total) l.fn.magnitudes) l.at)
    × (l.rests ≡ written l.fn.rests 0 (map (remainder l.k l.total) l.fn.magnitudes) l.at)
