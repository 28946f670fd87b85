-- `magnitude::inner::row::lower` turns the row into the row below, number by number.
use mathlib.Core.Path.{refl, ◌∙◌}
use native.Mathlib.Omega.{arith}
use Rattle.magnitude.specs.Rows.{below}
use Rattle.magnitude.proofs.Rows.{turned_long, turned_first, turned_next, turned_all, below_next}
use Rattle.magnitude.proofs.inner.row.lower.Goals as goal

pub loop-count-init : goal.loop-count-init
unfolding below
loop-count-init c = turned_first (below c.args.counts.now) c.args.counts.now _ refl

pub loop-count-preserved : goal.loop-count-preserved
loop-count-preserved c =
    turned_next _ c.loop-count.invariant (omega arith) (below_next c.loop-count.invariant (omega arith))

pub returns : goal.returns
unfolding below
returns c =
    let row = c.args.counts.now in
    let long = c.loop-count.auto.count-items ∙ turned_long row c.args.radius.0 c.requires.room in
    λ j h. turned_all row _ c.loop-count.invariant (omega arith) (omega (arith, c.requires.room)) refl j (omega arith)
