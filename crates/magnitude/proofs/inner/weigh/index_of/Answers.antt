-- `magnitude::inner::weigh::index_of` gathers the whole point: at each turn what stands from `at` on.
use borrow.Author.Rules.{rules}
use Rattle.magnitude.proofs.Tails.{gathered_none}
use Rattle.magnitude.proofs.inner.weigh.index_of.Goals as goal

pub loop-at-init : goal.loop-at-init
loop-at-init c = gathered_none c.args.radius.0 c.args.x.now c.start.new.counts (search rules) c.start.ensures
