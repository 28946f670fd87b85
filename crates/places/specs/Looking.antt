-- A place looked at: refusal 12 for its cell, or the cell's answer.
use Rattle.std.specs.Prelude.{ℕ, true, false, List, ◌≡◌, Option, None, Some}
use Rattle.judging.specs.Seen.{Sees}
use Rattle.judging.specs.declared.inner.Seen.{Seen}
use Rattle.cells.specs.Spots.{bad_named}
use Rattle.layout.specs.Layout.{Cell}
use Rattle.records.specs.declared.inner.Named.{Named}

-- the cell c, whose record is to name this book, place and row, in the row of the place and in this mode
abbrev pub Looks : ℕ → List ℕ → Named → Cell → Option Seen → Type 0
Looks mode row named c None = bad_named named c ≡ true
Looks mode row named c (Some seen) = (bad_named named c ≡ false) × Sees mode row c seen
