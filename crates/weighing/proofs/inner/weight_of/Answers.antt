-- At each turn one coordinate more has been gone through.
use borrow.Author.Rules.{rules}
use mir.Syntax.{w32}
use mir.Val.{SFits}
use Rattle.coordinates.proofs.Coordinates.{kept}
use Rattle.weighing.proofs.Growth.{none_gone, room, one_more, all_gone}
use Rattle.weighing.proofs.inner.weight_of.Goals as goal

pub loop-left-init : goal.loop-left-init
loop-left-init c = none_gone c.args.x.now (search rules) (search rules) (search rules)

pub with_coordinate-weight-requires : goal.with_coordinate-weight-requires
with_coordinate-weight-requires c =
    let at = c.loop-left in
    let front = at.left-iterator.iter.iter.rest.now in
    let rest = c.next.new.self.iter.iter.rest.now in
    let z = c.in-Some.c.now in
    let f : SFits w32 z = search rules in
    let next = c.in-Some.ensures.steps in
    rw (kept z f) (room c.args.x.now front rest z at.left-iterator.count c.in-Some.left at.weight at.invariant next.0 next.1 c.requires.0 c.requires.1)

pub loop-left-preserved : goal.loop-left-preserved
loop-left-preserved c =
    let at = c.loop-left in
    let front = at.left-iterator.iter.iter.rest.now in
    let rest = c.next.new.self.iter.iter.rest.now in
    let z = c.in-Some.c.now in
    let f : SFits w32 z = search rules in
    let next = c.in-Some.ensures.steps in
    one_more c.args.x.now front rest z at.left-iterator.count c.in-Some.left at.weight at.invariant next.0 next.1 c.requires.0 c.requires.1 next.2
    (rw (kept z f) at c.with_coordinate-weight.ensures)

pub returns : goal.returns
returns c =
    let at = c.loop-left in
    all_gone c.args.x.now at.left-iterator.iter.iter.rest.now at.left-iterator.count at.weight c.in-None.ensures.steps.0.0 at.invariant
