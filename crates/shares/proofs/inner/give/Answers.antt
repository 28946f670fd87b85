-- `shares::inner::give` hands out the units one by one: what is left to give, to what the buffers hold, comes to
-- the same as all of it.
use Rattle.std.proofs.Common.{◌≡◌, ◌+◌, ◌-◌, ◌<◌, length, ◌∙◌}
use native.Mathlib.Omega.{arith}
use Rattle.shares.specs.Shares.{give, left_of}
use Rattle.shares.proofs.Giving.{gives, spends, grows}
use Rattle.shares.proofs.Sharing.{none_above_sum}
use Rattle.shares.proofs.inner.give.Goals as goal

pub overflow_add-shares : goal.overflow_add-shares
overflow_add-shares c =
    let i = c.loop in
    record { fits = omega (arith, none_above_sum i.shares c.largest-at.result, i.invariant.0) }

pub loop-preserved : goal.loop-preserved
loop-preserved c =
    let i = c.loop in
    let at = c.largest-at.result in
    let n = c.args.units - i.counter in
    let less : c.args.units - (i.counter + 1) ≡ n - 1 = omega arith in
    let below : at < length i.shares = omega (arith, c.largest-at.ensures.1) in
    rw less (
      omega (arith, grows i.shares at below, i.invariant.0),
      gives n i.rests i.shares at (omega arith) c.largest-at.ensures.0 ∙ i.invariant.1,
      spends n i.rests at (omega arith) c.largest-at.ensures.0 ∙ i.invariant.2,
    )

pub returns : goal.returns
unfolding give left_of
returns c =
    let i = c.loop in
    let none : c.args.units - i.counter ≡ 0 = omega arith in
    (rw none at i.invariant.1, rw none at i.invariant.2)
