-- What is seen of the place can be shown, and has the coordinate.
use Rattle.std.proofs.Common.{arith}
use Rattle.judging.proofs.Shown.{seen_shows}
use Rattle.cells.specs.Spots.{cell_there}
use Rattle.page.proofs.inner.reading.coefficient_at.Goals as goal

pub value_of-requires : goal.value_of-requires
value_of-requires c =
    let row = c.args.row.now in
    let sees = (rw c.in_ok-seen.ensures.ok_part at c.look.ensures).1 in
    let cell = cell_there c.args.page.now c.args.spot in
    (c.requires.0, seen_shows c.args.mode.0 row cell c.requires.0 sees, sees.handed, omega (arith, c.length.ensures))
