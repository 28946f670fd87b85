-- Both modes (docs/RULES.md, "Reading a place"), over what the contracts of the reading calls say: in plain mode
-- nothing is mended, what is sound in one mode is sound in the other, and the modes differ exactly where a codeword
-- overflows. What is taken is no matter of a mode: what the contract of take cites is given none. t is any table with
-- any number of books, pg any page, `book` any book, p any place, out any buffer, i any coordinate.
use Rattle.std.specs.Prelude.{ℕ, true, false, List, [], ◌∷◌, ◌⊎◌, ◌≡◌, ℤ, get_or}
use Rattle.counts.specs.Distance.{distance}
use Rattle.tables.specs.Table.{row_for}
use Rattle.records.specs.Record.{codeword_in}
use Rattle.rules.specs.Modes.{plain, mending, no_such_mode}
use Rattle.rules.specs.Judging.{total_named}
use Rattle.rules.specs.Reading.{read_says, read_leaves, coefficient_says, coefficient_carries}
use Rattle.rules.specs.Taking.{cell_for}
use Rattle.rules.specs.Tallying.{answer_at, tally_says}
use Rattle.rules.specs.TwoModes.{overflows}
use Rattle.reporting.specs.Listing.{line_at}
use Rattle.wording.specs.Text.{place_text}
use Rattle.channel.specs.PastEnd.{mended_says, past_says}

-- what is said of a sound place, and of one whose index has an empty shape
abbrev pub sound_says : List ℕ
sound_says = 0 ∷ 0 ∷ 0 ∷ []

abbrev pub empty_says : List ℕ
empty_says = 0 ∷ 4 ∷ 15 ∷ []

-- the codeword in the cell of a place overflows, and its distance
abbrev pub OverflowsAt : List ℕ → List ℕ → ℕ → ℕ → Type 0
OverflowsAt t pg book p = overflows (row_for t p) (cell_for t pg book p) ≡ true

abbrev pub distance_at : List ℕ → List ℕ → ℕ → ℕ → ℕ
distance_at t pg book p = distance (total_named (row_for t p) (cell_for t pg book p).bytes) (codeword_in (cell_for t pg book p).bytes)

-- what a reader says in plain mode and in mending mode of a place whose codeword overflows by d
pub record SaysApart (in_plain in_mending : List ℕ) (d : ℕ) : Type 0 where
  pub past : in_plain ≡ past_says d
  pub mended : (in_mending ≡ mended_says d) ⊎ (in_mending ≡ empty_says)

pub record BothModes : Type 0 where
  -- in plain mode nothing is mended
  pub read_plain : (t : List ℕ) (books book : ℕ) (pg : List ℕ) (p : ℕ) (out : List ℤ) (more : List ℕ) → read_says plain t books book pg p out ≡ 0 ∷ 1 ∷ more → ⊥
  pub coefficient_plain : (t : List ℕ) (books book : ℕ) (pg : List ℕ) (p i : ℕ) (more : List ℕ) → coefficient_says plain t books book pg p i ≡ 0 ∷ 1 ∷ more → ⊥
  pub tally_plain : (t : List ℕ) (books book : ℕ) (pg counts : List ℕ) → tally_says plain t books book pg ≡ 0 ∷ counts → get_or counts 1 0 ≡ 0
  pub line_plain : (t pg : List ℕ) (book p d : ℕ) (q : List ℤ) → line_at plain t pg book p ≡ place_text p 1 d q → ⊥
  -- what is sound in one mode is sound in the other, with the same point and the same values
  pub read_sound : (mode other : ℕ) → no_such_mode other ≡ false → (t : List ℕ) (books book : ℕ) (pg : List ℕ) (p : ℕ) (out : List ℤ)
      → read_says mode t books book pg p out ≡ sound_says
      → (read_says other t books book pg p out ≡ sound_says) × (read_leaves other t books book pg p out ≡ read_leaves mode t books book pg p out)
  pub coefficient_sound : (mode other : ℕ) → no_such_mode other ≡ false → (t : List ℕ) (books book : ℕ) (pg : List ℕ) (p i : ℕ)
      → coefficient_says mode t books book pg p i ≡ sound_says
      → (coefficient_says other t books book pg p i ≡ sound_says)
      × (coefficient_carries other t books book pg p i ≡ coefficient_carries mode t books book pg p i)
  -- where no codeword overflows both modes answer alike
  pub read_alike : (t : List ℕ) (books book : ℕ) (pg : List ℕ) (p : ℕ) (out : List ℤ) → (OverflowsAt t pg book p → ⊥)
      → (read_says plain t books book pg p out ≡ read_says mending t books book pg p out)
      × (read_leaves plain t books book pg p out ≡ read_leaves mending t books book pg p out)
  pub coefficient_alike : (t : List ℕ) (books book : ℕ) (pg : List ℕ) (p i : ℕ) → (OverflowsAt t pg book p → ⊥)
      → (coefficient_says plain t books book pg p i ≡ coefficient_says mending t books book pg p i)
      × (coefficient_carries plain t books book pg p i ≡ coefficient_carries mending t books book pg p i)
  pub counted_alike : (t pg : List ℕ) (book p : ℕ) → (OverflowsAt t pg book p → ⊥) → answer_at plain t pg book p ≡ answer_at mending t pg book p
  pub line_alike : (t pg : List ℕ) (book p : ℕ) → (OverflowsAt t pg book p → ⊥) → line_at plain t pg book p ≡ line_at mending t pg book p
  -- and where one does, they never do: a reader that answers tells the distance in plain mode
  pub read_apart : (t : List ℕ) (books book : ℕ) (pg : List ℕ) (p : ℕ) (out : List ℤ) (values : List ℕ) → OverflowsAt t pg book p
      → read_says plain t books book pg p out ≡ 0 ∷ values
      → SaysApart (read_says plain t books book pg p out) (read_says mending t books book pg p out) (distance_at t pg book p)
  pub coefficient_apart : (t : List ℕ) (books book : ℕ) (pg : List ℕ) (p i : ℕ) (values : List ℕ) → OverflowsAt t pg book p
      → coefficient_says plain t books book pg p i ≡ 0 ∷ values
      → SaysApart (coefficient_says plain t books book pg p i) (coefficient_says mending t books book pg p i) (distance_at t pg book p)
