-- `magnitude::inner::row::raise` turns the row into the row above, number by number.
use mathlib.Core.Path.{refl, ◌∙◌}
use native.Mathlib.Omega.{arith}
use Rattle.magnitude.specs.Rows.{above}
use Rattle.magnitude.proofs.Rows.{turned_long, turned_first, turned_next, turned_all, above_next, next_limited}
use Rattle.magnitude.proofs.inner.row.raise.Goals as goal

pub loop-count-init : goal.loop-count-init
unfolding above
loop-count-init c = turned_first (above c.args.counts.now) c.args.counts.now _ refl

pub overflow_add-last : goal.overflow_add-last
overflow_add-last c =
    let long = c.loop-count.auto.count-items ∙ turned_long c.args.counts.now c.args.radius.0 c.requires.room in
    record { fits = omega (arith, next_limited c.requires c.loop-count.invariant long (omega arith)) }

pub overflow_add-last-in-loop-count : goal.overflow_add-last-in-loop-count
overflow_add-last-in-loop-count c =
    let long = c.loop-count.auto.count-items ∙ turned_long c.args.counts.now c.args.radius.0 c.requires.room in
    record { fits = omega (arith, next_limited c.requires c.loop-count.invariant long (omega arith)) }

pub loop-count-preserved : goal.loop-count-preserved
loop-count-preserved c =
    turned_next _ c.loop-count.invariant (omega arith) (above_next c.loop-count.invariant (omega arith))

pub returns : goal.returns
unfolding above
returns c =
    let row = c.args.counts.now in
    let long = c.loop-count.auto.count-items ∙ turned_long row c.args.radius.0 c.requires.room in
    λ j h. turned_all row _ c.loop-count.invariant (omega arith) (omega (arith, c.requires.room)) refl j (omega arith)
