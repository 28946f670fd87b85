-- What each turn of the loop keeps in `cases::inner::numbers::Numbers::fill`: the things before this one are made.
use Rattle.std.proofs.Common.{◌≡◌, ℕ, ◌<◌, drop, slice_index}
use Rattle.std.specs.List.{HoldsAt}
use Rattle.cases.proofs.inner.numbers.Numbers.fill.Given as goal

abbrev pub invariant-loop-thing : goal.invariant-loop-thing
invariant-loop-thing g l =
    ((k : ℕ) → k < l.thing-index → HoldsAt (goal.F-post g l.made (slice_index l.fn.self.rest.now k)) l.things k)
    × (l.self.rest.now ≡ drop l.thing-index l.fn.self.rest.now)
