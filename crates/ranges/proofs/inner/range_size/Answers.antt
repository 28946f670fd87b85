-- The product of the three counts, none of which is large.
use Prim.Native.Nat.{◌*◌}
use mathlib.Core.Path.{ap₂}
use native.Mathlib.Omega.{arith}
use Rattle.counts.specs.Counts.{D, B, range_size}
use Rattle.counts.specs.Fields.{size_of}
use Rattle.ranges.proofs.Rooms.{shapes_to, room_size}
use Rattle.ranges.proofs.Sizes.{D_small_enough, F_small_enough, B_small_enough, three_fit}
use Rattle.ranges.proofs.inner.range_size.Goals as goal

pub room-shapes-requires : goal.room-shapes-requires
room-shapes-requires c =
    let a = c.args in
    shapes_to a.s a.radius.0 c.shape_count.ensures (omega arith) (omega arith)

pub overflow_mul-result-2 : goal.overflow_mul-result-2
overflow_mul-result-2 c =
    let a = c.args in
    let is_room = room_size a.s a.radius.0 c.shape_count.ensures a.field c.room-shapes.ensures in
    rw (c.pattern_count.ensures, is_room, c.sign_count.ensures)
    (three_fit (D a.s a.length.0) (size_of a.field a.s a.radius.0) (B a.s)
    (D_small_enough a.s a.length.0 (omega arith))
    (F_small_enough a.field a.s a.radius.0 (omega arith) (omega arith))
    (B_small_enough a.s (omega arith)))

pub returns : goal.returns
unfolding range_size
returns c =
    let a = c.args in
    let is_room = room_size a.s a.radius.0 c.shape_count.ensures a.field c.room-shapes.ensures in
    ap₂ ◌*◌ (ap₂ ◌*◌ c.pattern_count.ensures is_room) c.sign_count.ensures
