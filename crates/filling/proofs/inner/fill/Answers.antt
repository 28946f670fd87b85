-- `filling::inner::fill` puts what comes next behind what came before.
use Rattle.std.proofs.Common.{arith}
use Rattle.filling.proofs.Filled.{came_more}
use Rattle.filling.proofs.inner.fill.Goals as goal

pub loop-filled-preserved : goal.loop-filled-preserved
loop-filled-preserved g c =
    let before = c.loop-filled.invariant in
    let read = c.read_more-more in (
      omega (arith, read.ensures.fits, before.1, read.auto.room),
      omega (arith, before.1, read.auto.room),
      came_more _ _ _ c.loop-filled.room read.new.room c.loop-filled.filled read.result read.ensures.before before.2 read.ensures.came,
    )
