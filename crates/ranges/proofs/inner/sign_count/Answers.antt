-- The sign count is a power of two.
use Rattle.counts.specs.Counts.{B}
use Rattle.ranges.proofs.inner.sign_count.Goals as goal

pub returns : goal.returns
unfolding B
returns c = c.power.ensures
