-- One number more behind those so far.
use Rattle.std.proofs.Common.{arith}
use Rattle.wording.specs.Text.{decimal}
use Rattle.text.proofs.Writing.{fields_next}
use Rattle.text.proofs.inner.fields.Line.write_numbers.Goals as goal

pub loop-n-preserved : goal.loop-n-preserved
loop-n-preserved c = fields_next decimal c.args.ns.now c.loop-n.n-index 0 (omega arith) c.loop-n.invariant c.write_number.ensures
