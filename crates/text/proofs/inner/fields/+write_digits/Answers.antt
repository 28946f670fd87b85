-- `text::inner::fields::write_digits` writes the decimal digits of a number: those of the tenth, and the last.
use Rattle.std.proofs.Common.{arith}
use Rattle.buffers.proofs.Writing.{wrote_one}
use Rattle.text.proofs.Writing.{digit_written, tenth_room, digits_written}
use Rattle.text.proofs.inner.fields.+write_digits.Goals as goal

pub returns-then-n-lt10 : goal.returns-then-n-lt10
returns-then-n-lt10 t c = digit_written c.args.n c.if-n-lt10.true (wrote_one _ _ _)

pub bounds-out-last : goal.bounds-out-last
bounds-out-last t c = omega (arith, tenth_room c.args.n c.ranges.n.fits c.write_digits-last.ensures)

pub returns : goal.returns
returns t c =
    digits_written c.args.n c.if-n-lt10.false c.ranges.n.fits c.write_digits-last.ensures (wrote_one _ _ _)
