-- `product::inner::read::components_at` gives the components of the point of an index: the signs are the low bits
-- of its position in the range, and the pattern and the shape are quotient and remainder of the rest by the shape
-- field.
use native.Mathlib.Omega.{arith}
use Rattle.product.proofs.Located.{start_to, s_to, countable, field_from, components_there, no_components}
use Rattle.ranges.proofs.Rooms.{shapes_to, room_size}
use Rattle.product.proofs.inner.read.components_at.Goals as goal

pub overflow_sub-sign : goal.overflow_sub-sign
overflow_sub-sign c = start_to c.args.shell c.args.n c.args.found c.requires.0

pub returns-then-s-eq0 : goal.returns-then-s-eq0
returns-then-s-eq0 c =
    no_components c.args.shell c.args.n c.args.found c.requires.0 c.requires.1 c.if-s-eq0.true

pub overflow_shr-block : goal.overflow_shr-block
overflow_shr-block c = omega (arith, s_to c.args.shell c.args.n c.args.found c.requires.0)

pub shape_count-requires : goal.shape_count-requires
shape_count-requires c =
    countable c.args.shell c.args.n c.args.found c.requires.0 c.if-s-eq0.false

pub room-shapes-requires : goal.room-shapes-requires
room-shapes-requires c =
    let can = countable c.args.shell c.args.n c.args.found c.requires.0 c.if-s-eq0.false in
    shapes_to c.args.found.s c.args.shell.radius.0 c.shape_count.ensures can.2 can.3

pub nonzero_div-result : goal.nonzero_div-result
nonzero_div-result c =
    rw (room_size c.args.found.s c.args.shell.radius.0 c.shape_count.ensures c.args.shell.field c.room-shapes.ensures)
    (field_from c.args.shell c.args.n c.args.found c.requires.0)

pub nonzero_rem-result : goal.nonzero_rem-result
nonzero_rem-result c =
    rw (room_size c.args.found.s c.args.shell.radius.0 c.shape_count.ensures c.args.shell.field c.room-shapes.ensures)
    (field_from c.args.shell c.args.n c.args.found c.requires.0)

pub returns : goal.returns
returns c =
    components_there c.args.shell c.args.n c.args.found c.requires.0 c.requires.1
    c.room-shapes.result
    (room_size c.args.found.s c.args.shell.radius.0 c.shape_count.ensures c.args.shell.field c.room-shapes.ensures)
