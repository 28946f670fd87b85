-- While the places before it pass, what is left of the checks decides.
use Rattle.runs.proofs.Judging.{Left}
use Rattle.runs.specs.Way.{Reached}
use Rattle.sending.proofs.inner.way.Run.check_run.Given as goal

abbrev pub invariant-loop-place : goal.invariant-loop-place
invariant-loop-place l =
    Reached l.self.table.now l.way.walk.row l.way.walk.end l.way.from l.place × Left l.self.table.now l.self.coefficients.now l.place
