-- A line that is being written: what it has room for, and what stands behind it after a write.
use Rattle.std.specs.Prelude.{ℕ, ◌+◌, ◌≤◌, ◌≡◌, List, length}
use Rattle.buffers.specs.Written.{Wrote}
use Rattle.text.specs.declared.inner.fields.Line.{Line}

-- n bytes more fit into the lent buffer
abbrev pub HasRoom : Line → ℕ → Type 0
HasRoom line n = line.end + n ≤ length line.out.now

-- the text stands behind the line, in the same lent buffer; it has at most `most` bytes
pub record Writes (before after : Line) (text : List ℕ) (most : ℕ) : Type 0 where
  pub wrote : Wrote before.out.now before.end text most after.end after.out.now
  pub same_length : length after.out.now ≡ length before.out.now
  pub same_buffer : after.out.ghost_name ≡ before.out.ghost_name
