-- `sending::inner::way::Run::way` begins at place 0.
use Rattle.runs.proofs.Way.{begins}
use Rattle.sending.proofs.Measured.{place_0}
use Rattle.sending.proofs.inner.way.Run.way.Goals as goal

pub walk_from-requires : goal.walk_from-requires
walk_from-requires c = place_0 c.args.self.now

pub returns : goal.returns
returns c = begins c.walk_from.ensures
