-- What each turn of the loop keeps in `listing::inner::input::take_file`.
use Rattle.std.proofs.Common.{◌≡◌, ◌*◌, ◌≤◌, length}
use Rattle.listing.proofs.Blocks.{TookWhole}
use Rattle.listing.proofs.inner.input.take_file.Given as goal

-- whole blocks were taken so far, and in each no more takes were refused than it has parts
abbrev pub invariant-loop-turn : goal.invariant-loop-turn
invariant-loop-turn g l =
    (length l.block ≡ 65536)
    × (length l.page ≡ length l.initial.page)
    × (l.refused ≤ 8192 * l._turn)
    × TookWhole l.table l.initial.page l.page l.refused
