-- A coordinate of what is shown is small.
use Rattle.std.proofs.Common.{ap, pos, nat_abs, drop, replicate, arith}
use Rattle.tables.proofs.GoodRow.{row_lawful}
use Rattle.page.proofs.Scaled.{small, coordinate_read}
use Rattle.page.proofs.inner.reading.value_of.Goals as goal

pub scaled-requires : goal.scaled-requires
scaled-requires c =
    let row = c.args.row.now in
    let j = c.args.seen.judged in
    let i = c.args.coordinate in
    let same =
    coordinate_read row (row_lawful row) j c.requires.1 i c.requires.3 c.show.new.out (drop c.length-l.result.0 (replicate 16 (pos 0))) c.show.ensures in
    (omega (arith, ap nat_abs same, small row (row_lawful row) j c.requires.1 i), c.step.ensures.1)
