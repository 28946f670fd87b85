-- `magnitude::inner::row::make` raises the row of length 0 as often as the length says.
use borrow.Author.Rules.{rules}
use native.Mathlib.Numerals.{add-one}
use native.Mathlib.Omega.{arith}
use Rattle.magnitude.proofs.Rows.{raisable, raised_counts}
use Rattle.magnitude.proofs.inner.row.make.Goals as goal

pub raise-requires : goal.raise-requires
raise-requires c =
    let room = c.requires.1.room in
    let limited = c.requires.1.limited in
    raisable c.loop.counter c.args.radius.0 c.loop.counts (omega (arith, c.loop.invariant.0, room)) c.loop.invariant.1
    (record { room = room; limited = λ m j h. limited m j (omega arith) })

pub loop-preserved : goal.loop-preserved
loop-preserved c =
    rw (add-one c.loop.counter)
    (search rules, raised_counts c.loop.counter c.args.radius.0 c.loop.counts _ c.loop.invariant.1 c.raise.ensures)
