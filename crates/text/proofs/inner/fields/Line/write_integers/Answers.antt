-- One integer more behind those so far.
use Rattle.std.proofs.Common.{rules, arith, pos, get_or}
use Rattle.coordinates.proofs.Coordinates.{kept}
use Rattle.wording.specs.Text.{integer}
use Rattle.text.proofs.Writing.{fields_next}
use Rattle.text.proofs.inner.fields.Line.write_integers.Goals as goal

pub loop-x-preserved : goal.loop-x-preserved
loop-x-preserved c =
    let xs = c.args.xs.now in
    let i = c.loop-x in
    let one = rw (kept (get_or xs i.x-index (pos 0)) (search rules)) at c.write_integer.ensures in
    fields_next integer xs i.x-index (pos 0) (omega arith) i.invariant one
