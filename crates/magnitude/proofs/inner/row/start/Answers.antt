-- `magnitude::inner::row::start` writes the one count of length 0 that is not 0.
use Rattle.magnitude.proofs.Rows.{start_counts}
use Rattle.magnitude.proofs.inner.row.start.Goals as goal

pub returns : goal.returns
returns c = rw c.requires start_counts
