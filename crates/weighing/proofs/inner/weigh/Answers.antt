-- The index that the weight makes up.
use native.Mathlib.Omega.{arith}
use Rattle.enumeration.specs.Product.{index_from}
use Rattle.ranges.proofs.Rooms.{shapes_to, room_size}
use Rattle.weighing.proofs.inner.weigh.Goals as goal

pub room-room-requires : goal.room-room-requires
room-room-requires c =
    let a = c.args in
    shapes_to a.weight.s a.shell.radius.0 c.shape_count-shapes.ensures (omega arith) (omega arith)

pub sum_up-requires : goal.sum_up-requires
sum_up-requires c =
    let a = c.args in
    let shapes = c.shape_count-shapes.ensures in
    let room = room_size a.weight.s a.shell.radius.0 shapes a.shell.field c.room-room.ensures in
    rw (shapes, room, c.sign_count.ensures, c.range_start.ensures) c.requires.sums

pub returns : goal.returns
unfolding index_from
returns c =
    let a = c.args in
    let shapes = c.shape_count-shapes.ensures in
    let room = room_size a.weight.s a.shell.radius.0 shapes a.shell.field c.room-room.ensures in
    rw (c.sum_up.ensures, shapes, room, c.sign_count.ensures, c.range_start.ensures)
