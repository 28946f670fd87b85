-- `product::inner::range::locate` is the first range, counted down from m, that holds n: at each turn the start is
-- that of the range for s and at most n, so that the range holds n where it ends past it, and the search from s
-- finds what the search from m does.
use Prim.Native.Nat.{◌+◌}
use mathlib.Core.Path.{◌≡◌, sym, ap, ap₂, ◌∙◌}
use native.Mathlib.Omega.{arith}
use Rattle.counts.specs.Fields.{size_of}
use Rattle.counts.proofs.Ranges.{range_down, range_last, end_bound}
use Rattle.enumeration.specs.Reading.{range_from}
use Rattle.enumeration.proofs.RangeOf.{range_first, range_here, range_on, range_end}
use Rattle.product.proofs.inner.range.locate.Goals as goal

pub loop-s-init : goal.loop-s-init
loop-s-init c =
    let F = size_of c.args.shell.field in
    let m = c.most_nonzero-s.ensures in (
      omega (arith, m),
      sym (range_last F c.args.shell.length.0 c.args.shell.radius.0 c.most_nonzero-s.result (omega (arith, m))),
      omega arith,
      range_first F c.args.shell.length.0 c.args.shell.radius.0 c.args.n ∙ ap (range_from F c.args.shell.length.0 c.args.shell.radius.0 c.args.n) (sym m),
    )

pub overflow_add-end : goal.overflow_add-end
overflow_add-end c =
    let at = c.loop-s in
    let bound = end_bound (size_of c.args.shell.field) c.args.shell.length.0 c.args.shell.radius.0 at.s (omega arith) at.invariant.0 in
    record { fits = omega (arith, bound, at.invariant.1, c.range_size.ensures, c.args.shell.usable.points_to) }

pub loop-s-preserved : goal.loop-s-preserved
loop-s-preserved c =
    let F = size_of c.args.shell.field in
    let at = c.loop-s in
    let size = c.range_size.ensures in (
      omega arith,
      ap₂ ◌+◌ at.invariant.1 size ∙ sym (range_down F c.args.shell.length.0 c.args.shell.radius.0 at.s (omega arith) at.invariant.0),
      omega arith,
      at.invariant.3 ∙ range_on F c.args.shell.length.0 c.args.shell.radius.0 c.args.n at.s (omega arith) (omega (arith, at.invariant.1, size)),
    )

pub returns-then-s-eq0 : goal.returns-then-s-eq0
returns-then-s-eq0 c =
    let F = size_of c.args.shell.field in
    let at = c.loop-s in
    let none : at.s ≡ 0 = omega arith in
    let found = at.invariant.3 ∙ ap (range_from F c.args.shell.length.0 c.args.shell.radius.0 c.args.n) none ∙ range_end F c.args.shell.length.0 c.args.shell.radius.0 c.args.n in
    (none ∙ sym found, at.invariant.1)

pub returns-then-n-end : goal.returns-then-n-end
returns-then-n-end c =
    let F = size_of c.args.shell.field in
    let at = c.loop-s in
    let size = c.range_size.ensures in
    let here = range_here F c.args.shell.length.0 c.args.shell.radius.0 c.args.n at.s (omega arith) (omega arith) (omega (arith, at.invariant.1, size)) in
    (sym (at.invariant.3 ∙ here), at.invariant.1)
