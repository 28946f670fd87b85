-- `product::inner::read::next` gives the first coordinate of the point and the components of the rest.
use native.Mathlib.Omega.{arith}
use Rattle.product.proofs.Writing.{s_to, zero_next, nonzero_there, nonzero_next}
use Rattle.product.proofs.inner.read.next.Goals as goal

pub pattern_count-zeros-requires : goal.pattern_count-zeros-requires
pattern_count-zeros-requires c = omega (arith, s_to c.args.components c.args.behind c.requires, c.requires.length_to)

pub returns-then-components-zeros : goal.returns-then-components-zeros
returns-then-components-zeros c =
    zero_next c.args.components c.args.behind c.requires (rw c.pattern_count-zeros.ensures at c.if-components-zeros.true)

pub nonzero-requires : goal.nonzero-requires
nonzero-requires c =
    let zeros = c.pattern_count-zeros in
    nonzero_there c.args.components c.args.behind c.requires zeros.result zeros.ensures c.if-components-zeros.false

pub returns : goal.returns
returns c =
    let zeros = c.pattern_count-zeros in
    rw c.nonzero.ensures
    (nonzero_next c.args.components c.args.behind c.requires zeros.result zeros.ensures c.if-components-zeros.false)
