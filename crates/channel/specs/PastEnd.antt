-- Past the end (docs/RULES.md, "Enumerations", "Reading a place", "Refusal numbers" and "Listing program"): how far an
-- index is past the end is told by refusal 6, at a mended place by both readers and the line, and at a place that is
-- unreadable for 6 by both readers. The mode is any, t any table with any number of books, pg any page,
-- `book` any book, p any place, d a distance.
use Rattle.std.specs.Prelude.{ℕ, ◌+◌, List, [], ◌∷◌, ◌⊎◌, ◌≡◌, ℤ}
use Rattle.enumeration.specs.Enumerations.{selected_by}
use Rattle.enumeration.specs.Point.{radius_of}
use Rattle.tables.specs.Row.{shell_total}
use Rattle.tables.specs.Table.{row_for, enumeration_for}
use Rattle.records.specs.Record.{codeword_in}
use Rattle.indexing.specs.Calls.{point_says}
use Rattle.rules.specs.Judging.{PastBy, Mends, total_named}
use Rattle.rules.specs.Reading.{point_at, read_says, read_leaves, coefficient_says}
use Rattle.rules.specs.Taking.{cell_for}
use Rattle.wording.specs.Text.{place_text}
use Rattle.reporting.specs.Listing.{line_at}

-- mended, with the distance d
abbrev pub mended_says : ℕ → List ℕ
mended_says d = 0 ∷ 1 ∷ 0 ∷ d ∷ []

-- unreadable for 6, with the distance d
abbrev pub past_says : ℕ → List ℕ
past_says d = 0 ∷ 4 ∷ 6 ∷ d ∷ []

-- the total of the shell that q is of, in the row of the place
abbrev pub total_shown : List ℕ → ℕ → List ℤ → ℕ
total_shown t p q = shell_total (row_for t p) (radius_of q)

-- The distance d and the point q are shown: with T and b the total and the width of the shell of q, d is below 2^b - T,
-- the index of q plus 2^(b-1) is T plus d, and that is the codeword in the cell.
abbrev pub TellsReceived : List ℕ → List ℕ → ℕ → ℕ → ℕ → List ℤ → Type 0
TellsReceived t pg book p d q = Mends (total_shown t p q) (codeword_in (cell_for t pg book p).bytes) ((enumeration_for t p).index q) d

-- The distance d is told without a point: with T and b the total and the width of the shell that the record in the cell
-- names, d is below 2^b - T, and T plus d is its codeword.
abbrev pub TellsPast : List ℕ → List ℕ → ℕ → ℕ → ℕ → Type 0
TellsPast t pg book p d = PastBy (total_named (row_for t p) (cell_for t pg book p).bytes) (codeword_in (cell_for t pg book p).bytes) d

pub record PastEnd : Type 0 where
  -- refusal 6 tells the index that was asked for
  pub refused : (v l k n : ℕ) (out : List ℤ) (d : ℕ) → point_says v l k n out ≡ 6 ∷ d ∷ [] → n ≡ (selected_by v).total l k + d
  -- at a mended place what either reader says, with the point that read writes, tells the codeword
  pub read : (mode : ℕ) (t : List ℕ) (books book : ℕ) (pg : List ℕ) (p : ℕ) (out : List ℤ) (d : ℕ) → read_says mode t books book pg p out ≡ mended_says d
      → TellsReceived t pg book p d (read_leaves mode t books book pg p out)
  pub coefficient : (mode : ℕ) (t : List ℕ) (books book : ℕ) (pg : List ℕ) (p i d : ℕ) → coefficient_says mode t books book pg p i ≡ mended_says d
      → TellsReceived t pg book p d (point_at mode t pg book p)
  -- and the line has the same distance and the same point
  pub read_line : (mode : ℕ) (t : List ℕ) (books book : ℕ) (pg : List ℕ) (p : ℕ) (out : List ℤ) (d : ℕ) → read_says mode t books book pg p out ≡ mended_says d
      → line_at mode t pg book p ≡ place_text p 1 d (read_leaves mode t books book pg p out)
  -- at a place that is unreadable for 6 either reader tells a distance, and so the codeword
  pub read_past : (mode : ℕ) (t : List ℕ) (books book : ℕ) (pg : List ℕ) (p : ℕ) (out : List ℤ) (more : List ℕ)
      → read_says mode t books book pg p out ≡ 0 ∷ 4 ∷ 6 ∷ more
      → (d : ℕ) × (more ≡ d ∷ []) × TellsPast t pg book p d
  pub coefficient_past : (mode : ℕ) (t : List ℕ) (books book : ℕ) (pg : List ℕ) (p i : ℕ) (more : List ℕ)
      → coefficient_says mode t books book pg p i ≡ 0 ∷ 4 ∷ 6 ∷ more
      → (d : ℕ) × (more ≡ d ∷ []) × TellsPast t pg book p d
  -- no other place has a distance
  pub read_alone : (mode : ℕ) (t : List ℕ) (books book : ℕ) (pg : List ℕ) (p : ℕ) (out : List ℤ) (answer reason d : ℕ) (more : List ℕ)
      → read_says mode t books book pg p out ≡ 0 ∷ answer ∷ reason ∷ d ∷ more
      → (read_says mode t books book pg p out ≡ mended_says d) ⊎ (read_says mode t books book pg p out ≡ past_says d)
  pub coefficient_alone : (mode : ℕ) (t : List ℕ) (books book : ℕ) (pg : List ℕ) (p i answer reason d : ℕ) (more : List ℕ)
      → coefficient_says mode t books book pg p i ≡ 0 ∷ answer ∷ reason ∷ d ∷ more
      → (coefficient_says mode t books book pg p i ≡ mended_says d) ⊎ (coefficient_says mode t books book pg p i ≡ past_says d)
