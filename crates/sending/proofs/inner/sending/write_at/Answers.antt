-- `sending::inner::sending::write_at` lends the place's part of the buffer and has the record written there.
use Rattle.std.proofs.Common.{◌+◌, ◌-◌, ◌*◌, ◌≡◌}
use native.Mathlib.Omega.{arith}
use Rattle.buffers.proofs.Writing.{wrote_part}
use Rattle.records.proofs.Fields.{record_length_lem}
use Rattle.records.specs.Record.{record_length}
use Rattle.coding.specs.Coded.{radius_number_for, codeword_for, record_named}
use Rattle.sending.proofs.inner.sending.write_at.Goals as goal

pub returns : goal.returns
returns c =
    let named = c.args.named in
    let row = c.args.row.now in
    let xs = c.args.coefficients.now in
    let at = record_length * named.place in
    let size : at + record_length - at ≡ record_length = omega arith in
    rw (size, c.write_record.ensures)
    (wrote_part c.args.out.now (record_named named row xs) at record_length
    (record_length_lem named.book named.place named.row (radius_number_for row xs) (codeword_for row xs)) c.requires.room)
