-- What each turn of the loop keeps in `shares::inner::give`.
use Rattle.std.proofs.Common.{◌≡◌, ◌+◌, ◌-◌, ◌≤◌}
use Rattle.enumeration.specs.Point.{sum_of}
use Rattle.shares.specs.Shares.{give, left_of}
use Rattle.shares.proofs.inner.give.Given as goal

-- what is left to give, to what the buffers hold, comes to the same as all of it
abbrev pub invariant-loop : goal.invariant-loop
invariant-loop l =
    (sum_of l.shares + (l.units - l.counter) ≤ 32)
    × (give (l.units - l.counter) l.rests l.shares ≡ give l.units l.fn.rests l.fn.shares)
    × (left_of (l.units - l.counter) l.rests ≡ left_of l.units l.fn.rests)
