-- A number below ten is one digit.
use Rattle.text.proofs.Writing.{digit_written}
use Rattle.text.proofs.inner.fields.Line.write_decimal.Goals as goal

pub returns-then-n-lt10 : goal.returns-then-n-lt10
returns-then-n-lt10 c =
    let one = c.write_byte.ensures in
    record { wrote = digit_written c.args.n c.if-n-lt10.true one.wrote; same_length = one.same_length; same_buffer = one.same_buffer }
