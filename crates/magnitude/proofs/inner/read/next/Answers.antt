-- `magnitude::inner::read::next` gives the first coordinate and what is left behind it.
use mathlib.Core.Path.{◌∙◌}
use native.Mathlib.Nat.{le_refl}
use borrow.Author.Rules.{sfits_of}
use borrow.Author.Tests.{le-leb, lt-leb}
use Rattle.coordinates.proofs.Coordinates.{kept}
use Rattle.magnitude.proofs.Steps.{zero_step, last_step, passable, positive_step, negative_step}
use Rattle.magnitude.proofs.inner.read.next.Goals.{then-negative, else-negative}
use Rattle.magnitude.proofs.inner.read.next.Goals as goal

pub returns-then-behind-eq0 : goal.returns-then-behind-eq0
returns-then-behind-eq0 c =
    rw (kept c.signed.result (sfits_of c.signed.type_inv) ∙ c.signed.ensures)
    (last_step c.args.left c.args.behind c.requires.0 c.if-behind-eq0.true)

pub returns-then-left-zeros : goal.returns-then-left-zeros
returns-then-left-zeros c =
    zero_step c.args.left c.args.behind c.requires.0 (rw (c.requires.1 c.args.left.k (le_refl c.args.left.k)) at c.if-left-zeros.true)

pub pass-passed-requires : goal.pass-passed-requires
pass-passed-requires c =
    passable c.args.left c.args.behind c.requires.0 c.args.counts.now c.requires.1 c.if-left-zeros.false c.requires.2

pub returns : goal.returns
returns c =
    let row = c.args.counts.now in
    let passed = c.pass-passed in
    let past = c.if-left-zeros.false in
    let coordinate = kept c.signed-2.result (sfits_of c.signed-2.type_inv) ∙ c.signed-2.ensures in
    elim c.if-negative.branch [
      | then-negative w ↦
          rw (coordinate, le-leb _ _ w.if-negative.true, w.n-is)
          (negative_step c.args.left c.args.behind c.requires.0 row c.requires.1 past passed.result passed.ensures w.if-negative.true)
      | else-negative w ↦
          rw (coordinate, lt-leb _ _ w.if-negative.false, w.n-is)
          (positive_step c.args.left c.args.behind c.requires.0 row c.requires.1 past passed.result passed.ensures w.if-negative.false)
    ]
