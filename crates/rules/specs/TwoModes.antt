-- The two modes of one cell (docs/RULES.md, "Reading a place"): they differ exactly where a codeword overflows. `row`
-- is the bytes of a row, c a cell; both any.
use Rattle.std.specs.Prelude.{ℕ, ◌^◌, Bool, true, false, not, ◌&&◌, List, ◌≡◌, eqb, leb, ltb}
use Rattle.answers.specs.Checks.{pick}
use Rattle.counts.specs.Distance.{distance}
use Rattle.counts.specs.Width.{width}
use Rattle.tables.specs.Row.{radii_of, radius_at}
use Rattle.records.specs.Record.{radius_number_in, codeword_in}
use Rattle.layout.specs.Layout.{Cell}
use Rattle.rules.specs.Modes.{plain, mending}
use Rattle.rules.specs.Judging.{mended_index, mended_as, index_names, judge, total_named}
use Rattle.rules.specs.declared.Judged.TheVariants as judged
use Rattle.rules.specs.declared.Reason.TheVariants as reason

-- the codeword of a record overflows: its radius number is in the row, and the codeword is not below the total of that
-- shell, but below 2^b
abbrev pub record_overflows : List ℕ → List ℕ → Bool
record_overflows row y =
    not (leb (radii_of row) (radius_number_in y))
    && not (leb (2 ^ width (total_named row y)) (codeword_in y))
    && not (ltb (codeword_in y) (total_named row y))

-- of a cell that holds such a record
abbrev pub overflows : List ℕ → Cell → Bool
overflows row c = eqb c.state 1 && record_overflows row c.bytes

pub record TwoModes (row : List ℕ) (c : Cell) : Type 0 where
  -- what is sound in one mode is sound in the other, with the same radius and index, and so with the same point
  pub sound_alike : (mode other k n : ℕ) → judge mode row c ≡ judged.Sound k n → judge other row c ≡ judged.Sound k n
  -- where no codeword overflows, the mode does not matter
  pub agree : overflows row c ≡ false → (mode other : ℕ) → judge mode row c ≡ judge other row c
  -- where one does, plain tells its distance; mending mends it, or finds an empty shape
  pub in_plain : overflows row c ≡ true
      → judge plain row c ≡ judged.Unreadable (reason.PastEnd (distance (total_named row c.bytes) (codeword_in c.bytes)))
  pub in_mending : overflows row c ≡ true → judge mending row c ≡ pick (index_names row (radius_at row (radius_number_in c.bytes))
      (mended_index (total_named row c.bytes) (codeword_in c.bytes)))
      (mended_as (total_named row c.bytes) (radius_at row (radius_number_in c.bytes)) (codeword_in c.bytes))
      (judged.Unreadable reason.EmptyShape)
  -- and these are never the same
  pub differ : overflows row c ≡ true → judge plain row c ≡ judge mending row c → ⊥
