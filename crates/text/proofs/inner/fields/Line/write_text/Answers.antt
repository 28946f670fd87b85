-- A text is written as it stands.
use Rattle.std.proofs.Common.{◌+◌, ◌-◌, ◌≡◌, length, refl, arith}
use Rattle.buffers.proofs.Writing.{wrote_part, wrote_length}
use Rattle.text.proofs.inner.fields.Line.write_text.Goals as goal

pub returns : goal.returns
returns c =
    let line = c.args.self.now in
    let text = c.args.text.now in
    let size : line.end + length text - line.end ≡ length text = omega arith in
    let part = wrote_part line.out.now text line.end (length text) refl c.requires in
    record {
      wrote = rw (c.copy_from_slice.ensures.after, size) part;
      same_length = rw (c.copy_from_slice.ensures.after, size) (wrote_length part);
      same_buffer = refl;
    }
