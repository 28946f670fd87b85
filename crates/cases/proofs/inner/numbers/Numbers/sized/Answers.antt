-- `cases::inner::numbers::Numbers::sized` makes the things of the numbers behind the size.
use Rattle.std.proofs.Common.{◌≡◌, arith, length, slice_index}
use Rattle.cases.proofs.inner.numbers.Numbers.sized.Goals as goal

pub returns : goal.returns
returns g c =
    let next = c.next-size.ensures in
    let held = c.in_ok-things.ensures.lookup.0 in
    let many : length c.fill.new.things ≡ slice_index c.args.self.now.rest.now 0 = omega (arith, next.0, held.3, c.fill.auto.things) in
    (omega (arith, next.0, held.1), many, rw next.1 at c.fill.ensures.each, cc (c.fill.ensures.left, next.1, many))
