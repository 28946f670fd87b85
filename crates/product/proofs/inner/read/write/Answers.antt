-- `product::inner::read::write` writes the point: at the end all coordinates stand there, and nothing is left to write.
use native.Mathlib.Omega.{arith}
use lib.ListN.{length}
use Rattle.coordinates.proofs.Writing.{write_all}
use Rattle.enumeration.proofs.Steps.{write_none}
use Rattle.product.specs.Components.{written_from}
use Rattle.product.proofs.inner.read.write.Goals as goal

pub returns : goal.returns
returns c =
    let at = c.loop-at in
    let q = at.left in
    write_all (written_from c.args.components (length c.args.out.now)) at.out at.at (written_from q)
    (write_none q.s 0 q.k q.pattern q.shape q.sign)
    (omega arith)
    at.invariant.1
