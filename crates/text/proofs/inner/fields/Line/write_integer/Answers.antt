-- A space and an integer, the lowest i32 too.
use Rattle.std.proofs.Common.{ap, ◌∙◌}
use lib.IntN.{nat_abs}
use Rattle.coordinates.proofs.Coordinates.{kept, magnitude_bound}
use Rattle.text.proofs.Writing.{plain_written, minus_written}
use Rattle.text.proofs.inner.fields.Line.write_integer.Goals as goal
use Rattle.text.proofs.inner.fields.Line.write_integer.Goals.{then-x-lt0, else-x-lt0}

pub returns : goal.returns
returns c =
    let z = c.args.x in
    let f = c.ranges.x in
    let same = c.magnitude.ensures.0 ∙ ap nat_abs (kept z f) in
    let bound = magnitude_bound z f in
    elim c.if-x-lt0.branch [
      | then-x-lt0 w ↦
          minus_written c.write_byte.ensures z (rw (kept z f) at w.if-x-lt0.true) bound w.write_byte-then-x-lt0.ensures
          (rw (w.self-is, same) at c.write_decimal.ensures)
      | else-x-lt0 w ↦
          plain_written c.write_byte.ensures z (rw (kept z f) at w.if-x-lt0.false) bound (rw (w.self-is, same) at c.write_decimal.ensures)
    ]
