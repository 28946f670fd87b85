-- The records of the places before it are written.
use Rattle.runs.specs.Way.{Reached}
use Rattle.sending.proofs.Records.{RecordsTo}
use Rattle.sending.proofs.inner.way.Run.write_records.Given as goal

abbrev pub invariant-loop-place : goal.invariant-loop-place
invariant-loop-place l =
    Reached l.self.table.now l.way.walk.row l.way.walk.end l.way.from l.place
    × RecordsTo l.self.table.now l.book.0 l.self.coefficients.now l.place l.fn.out l.out
