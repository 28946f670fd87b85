-- `product::inner::range::is_shape` tells whether the shape field of the position in the range is below the shape
-- count. At radius 0 it is.
use native.Mathlib.Omega.{arith}
use Rattle.product.proofs.Located.{start_to, s_to, countable, field_from, shape_tells, one_named}
use Rattle.ranges.proofs.Rooms.{shapes_to, room_size}
use Rattle.product.proofs.inner.range.is_shape.Goals as goal

pub returns-then-s-eq0 : goal.returns-then-s-eq0
returns-then-s-eq0 c = one_named c.args.shell c.args.n c.args.found c.requires c.if-s-eq0.true

pub overflow_sub-block : goal.overflow_sub-block
overflow_sub-block c = start_to c.args.shell c.args.n c.args.found c.requires

pub overflow_shr-block : goal.overflow_shr-block
overflow_shr-block c = omega (arith, s_to c.args.shell c.args.n c.args.found c.requires)

pub shape_count-shapes-requires : goal.shape_count-shapes-requires
shape_count-shapes-requires c =
    countable c.args.shell c.args.n c.args.found c.requires c.if-s-eq0.false

pub room-requires : goal.room-requires
room-requires c =
    let can = countable c.args.shell c.args.n c.args.found c.requires c.if-s-eq0.false in
    shapes_to c.args.found.s c.args.shell.radius.0 c.shape_count-shapes.ensures can.2 can.3

pub nonzero_rem-result : goal.nonzero_rem-result
nonzero_rem-result c =
    rw (room_size c.args.found.s c.args.shell.radius.0 c.shape_count-shapes.ensures c.args.shell.field c.room.ensures)
    (field_from c.args.shell c.args.n c.args.found c.requires)

pub returns : goal.returns
returns c =
    let shapes = c.shape_count-shapes in
    shape_tells c.args.shell c.args.n c.args.found c.requires c.room.result shapes.result
    (room_size c.args.found.s c.args.shell.radius.0 shapes.ensures c.args.shell.field c.room.ensures)
    shapes.ensures
