-- Foreign rows (docs/RULES.md, "Taking a record", "Reading a place" and "Refusal numbers"): a record with another row
-- than that of its place claims nothing, and no place is unreadable for its row, in any mode. t is any table with any
-- number of books, pg any page, grown from an empty one or not, x what arrived, `book` any book, p any place.
use Rattle.std.specs.Prelude.{ℕ, true, List, ◌∷◌, ◌⊎◌, ◌≡◌, ℤ}
use Rattle.tables.specs.Table.{row_of}
use Rattle.records.specs.Record.{place_in, row_in}
use Rattle.rules.specs.Modes.{is_plain}
use Rattle.rules.specs.Taking.{claims, take_leaves}
use Rattle.rules.specs.Judging.{judge_at, reason_of}
use Rattle.rules.specs.Reading.{read_says, coefficient_says}
use Rattle.rules.specs.Tallying.{answer_at}
use Rattle.wording.specs.Text.{place_text}
use Rattle.reporting.specs.Listing.{line_at}

-- what is said of a place gives the reason 9
abbrev pub TellsNine : List ℕ → Type 0
TellsNine says = (answer : ℕ) × (more : List ℕ) × (says ≡ 0 ∷ answer ∷ 9 ∷ more)

-- the reasons of a mode
abbrev pub UnreadableFor : ℕ → ℕ → Type 0
UnreadableFor mode reason = (reason ≡ 10) ⊎ ((reason ≡ 14) ⊎ ((reason ≡ 15) ⊎ ((reason ≡ 6) × (is_plain mode ≡ true))))

pub record ForeignRows : Type 0 where
  -- what claims a place has its row
  pub own_row : (t : List ℕ) (books : ℕ) (x : List ℕ) (book p : ℕ) → claims t books x book p ≡ true → row_in x ≡ row_of t p
  -- a record with a foreign row leaves every page as it was
  pub changes_nothing : (t : List ℕ) (books : ℕ) (pg x : List ℕ) → (row_in x ≡ row_of t (place_in x) → ⊥) → take_leaves t books pg x ≡ pg
  -- neither reader gives the reason 9
  pub read : (mode : ℕ) (t : List ℕ) (books book : ℕ) (pg : List ℕ) (p : ℕ) (out : List ℤ) → TellsNine (read_says mode t books book pg p out) → ⊥
  pub coefficient : (mode : ℕ) (t : List ℕ) (books book : ℕ) (pg : List ℕ) (p i : ℕ) → TellsNine (coefficient_says mode t books book pg p i) → ⊥
  -- what the tally counts as unreadable has the reason 10, 14 or 15, or in plain mode 6
  pub tally : (mode : ℕ) (t pg : List ℕ) (book p : ℕ) → answer_at mode t pg book p ≡ 4 → UnreadableFor mode (reason_of (judge_at mode t pg book p))
  -- and no line says `unreadable 9`
  pub line : (mode : ℕ) (t pg : List ℕ) (book p : ℕ) (q : List ℤ) → line_at mode t pg book p ≡ place_text p 4 9 q → ⊥
