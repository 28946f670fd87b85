-- `magnitude::inner::read::write` writes the point: at each turn the coordinates before `at` stand there, the rest is
-- what is left to write, and the row of counts is that of one coordinate less.
use borrow.Author.Rules.{rules}
use mathlib.Core.Path.{refl, ◌∙◌}
use Prim.Native.Nat.{◌-◌}
use native.Mathlib.Omega.{arith}
use lib.ListN.{length}
use mir.Syntax.{w32}
use mir.Val.{to_z, of_z}
use Rattle.coordinates.proofs.Coordinates.{kept}
use Rattle.coordinates.proofs.Writing.{one_less, write_one, write_all}
use Rattle.enumeration.specs.Magnitude.{magnitude_point}
use Rattle.magnitude.specs.Steps.{point_left}
use Rattle.magnitude.proofs.Steps.{lowerable_behind, lowered_behind}
use Rattle.magnitude.proofs.inner.read.write.Goals as goal

pub lower-requires : goal.lower-requires
lower-requires c =
    let at = c.loop-at in
    let step = c.next-step in
    lowerable_behind step.result.left at.counts (length at.out - at.at - 1) step.ensures.writable (at.auto.counts ∙ c.requires.2)
    (λ j h. at.invariant.1 j (omega (arith, step.ensures.less)))

pub loop-at-preserved : goal.loop-at-preserved
loop-at-preserved c =
    let at = c.loop-at in
    let step = c.next-step in
    let z = step.result.c in
    let z' = to_z w32 (of_z w32 z) in
    let less = one_less at.out at.at z' in (
      rw less step.ensures.writable,
      rw less
          (lowered_behind step.result.left at.counts (length at.out - at.at - 1) c.lower.new.counts step.ensures.writable
          (λ j h. at.invariant.1 j (omega (arith, step.ensures.less)))
          c.lower.ensures),
      write_one (point_left c.args.left (length c.args.out.now)) at.out at.at (point_left at.left) (point_left step.result.left) z z'
          (omega arith)
          (kept z (search rules))
          step.ensures.first
          at.invariant.2,
    )

pub returns : goal.returns
unfolding magnitude_point
returns c =
    let at = c.loop-at in
    write_all (point_left c.args.left (length c.args.out.now)) at.out at.at (point_left at.left) refl (omega arith) at.invariant.2
