-- The answer of a place (docs/RULES.md, "The page": "Reading a place"). One definition, `judge`, gives the answer
-- of a cell in each mode; the readers, the tally and the lines are that definition. `row` is the bytes of a row, c a
-- cell.
use Rattle.std.specs.Prelude.{ℕ, ◌+◌, ◌-◌, ◌^◌, ◌<◌, List, [], ◌∷◌, ◌≡◌, Bool, true, false, not, ◌&&◌, leb, ltb, ℤ, pos, replicate}
use Rattle.answers.specs.Checks.{pick}
use Rattle.counts.specs.Distance.{distance}
use Rattle.counts.specs.Width.{width}
use Rattle.tables.specs.Row.{length_of, radii_of, radius_at, enumeration_of, shell_total}
use Rattle.tables.specs.Table.{row_for}
use Rattle.tables.specs.Usable.{IsUsable}
use Rattle.records.specs.Record.{radius_number_in, codeword_in}
use Rattle.layout.specs.Layout.{Cell}
use Rattle.rules.specs.Modes.{is_plain}
use Rattle.rules.specs.Taking.{by_state, cell_for}
use Rattle.rules.specs.declared.Judged.{Judged}
use Rattle.rules.specs.declared.Judged.TheVariants as judged
use Rattle.rules.specs.declared.Reason.{Reason}
use Rattle.rules.specs.declared.Reason.TheVariants as reason

-- mended: 2^(b-1) is subtracted from the codeword n. The total is any.
abbrev pub mended_index : ℕ → ℕ → ℕ
mended_index total n = n - 2 ^ (width total - 1)

-- the index that a codeword leaves: itself below the total, and otherwise the mended one
abbrev pub index_left : ℕ → ℕ → ℕ
index_left total n = pick (ltb n total) n (mended_index total n)

-- a mended codeword keeps its distance; k is the radius
abbrev pub mended_as : ℕ → ℕ → ℕ → Judged
mended_as total k n = judged.Mended k (mended_index total n) (distance total n)

-- codeword 2^b or more: unreadable 14; in plain mode not below the total: unreadable 6, with the distance; an
-- empty shape, also after mending: unreadable 15; below the total: sound; otherwise mended. `names` is whether an index
-- names a point.
unfoldable pub judge_codeword : ℕ → (ℕ → Bool) → ℕ → ℕ → ℕ → Judged
judge_codeword mode names total k n =
    pick (leb (2 ^ width total) n) (judged.Unreadable reason.TooWide)
    (pick (is_plain mode && not (ltb n total)) (judged.Unreadable (reason.PastEnd (distance total n)))
    (pick (not (names (index_left total n))) (judged.Unreadable reason.EmptyShape)
    (pick (ltb n total) (judged.Sound k n) (mended_as total k n))))

-- a codeword of the shell of radius k in a row, by the row's own enumeration
abbrev pub index_names : List ℕ → ℕ → ℕ → Bool
index_names row k n = (enumeration_of row).names (length_of row) k n

abbrev pub judge_in : ℕ → List ℕ → ℕ → ℕ → Judged
judge_in mode row k n = judge_codeword mode (index_names row k) (shell_total row k) k n

-- radius number not in the row: unreadable 10; that the record is of this row was asked before, by refusal 12
unfoldable pub judge_record : ℕ → List ℕ → List ℕ → Judged
judge_record mode row y =
    pick (leb (radii_of row) (radius_number_in y)) (judged.Unreadable reason.NoSuchRadius)
    (judge_in mode row (radius_at row (radius_number_in y)) (codeword_in y))

-- state 0: missing; state 2: contested; a held record is judged
unfoldable pub judge : ℕ → List ℕ → Cell → Judged
judge mode row c = by_state c.state judged.Missing (judge_record mode row c.bytes) judged.Contested

-- of a place p in a book of a page
abbrev pub judge_at : ℕ → List ℕ → List ℕ → ℕ → ℕ → Judged
judge_at mode t pg book p = judge mode (row_for t p) (cell_for t pg book p)

-- the five answers, numbered in the order in which the tally counts them
abbrev pub answer_number : Judged → ℕ
answer_number (judged.Sound k n) = 0
answer_number (judged.Mended k n d) = 1
answer_number judged.Missing = 2
answer_number judged.Contested = 3
answer_number (judged.Unreadable why) = 4

-- the number of a reason, and the distance, which 6 has and no other
abbrev pub reason_number : Reason → ℕ
reason_number reason.NoSuchRadius = 10
reason_number reason.TooWide = 14
reason_number (reason.PastEnd d) = 6
reason_number reason.EmptyShape = 15

abbrev pub reason_distance : Reason → List ℕ
reason_distance reason.NoSuchRadius = []
reason_distance reason.TooWide = []
reason_distance (reason.PastEnd d) = d ∷ []
reason_distance reason.EmptyShape = []

-- the reason of an answer; 0 where there is none
abbrev pub reason_of : Judged → ℕ
reason_of (judged.Sound k n) = 0
reason_of (judged.Mended k n d) = 0
reason_of judged.Missing = 0
reason_of judged.Contested = 0
reason_of (judged.Unreadable why) = reason_number why

-- the distance, which a mended place and unreadable 6 have and no other
abbrev pub distance_of : Judged → List ℕ
distance_of (judged.Sound k n) = []
distance_of (judged.Mended k n d) = d ∷ []
distance_of judged.Missing = []
distance_of judged.Contested = []
distance_of (judged.Unreadable why) = reason_distance why

-- the reason or the distance in one field, as a line of the listing has it, the reason of an unreadable place; 0
-- where there is neither
abbrev pub reason_or_distance : Judged → ℕ
reason_or_distance (judged.Sound k n) = 0
reason_or_distance (judged.Mended k n d) = d
reason_or_distance judged.Missing = 0
reason_or_distance judged.Contested = 0
reason_or_distance (judged.Unreadable why) = reason_number why

-- 10, 14 and 15 are reasons in each mode, and 6 in plain mode alone; nothing is mended there. Reasons of `laws` has
-- it of every row and every cell.
abbrev pub ReasonIn : ℕ → Reason → Type 0
ReasonIn mode reason.NoSuchRadius = Unit {0}
ReasonIn mode reason.TooWide = Unit {0}
ReasonIn mode (reason.PastEnd d) = is_plain mode ≡ true
ReasonIn mode reason.EmptyShape = Unit {0}

abbrev pub AnswerIn : ℕ → Judged → Type 0
AnswerIn mode (judged.Sound k n) = Unit {0}
AnswerIn mode (judged.Mended k n d) = is_plain mode ≡ false
AnswerIn mode judged.Missing = Unit {0}
AnswerIn mode judged.Contested = Unit {0}
AnswerIn mode (judged.Unreadable why) = ReasonIn mode why

-- the point that n names in the shell of radius k
abbrev pub point_named : List ℕ → ℕ → ℕ → List ℤ
point_named row k n = (enumeration_of row).point (length_of row) k n

-- sound and mended have their point; the other three have zeros
abbrev pub shown : List ℕ → Judged → List ℤ
shown row (judged.Sound k n) = point_named row k n
shown row (judged.Mended k n d) = point_named row k n
shown row judged.Missing = replicate (length_of row) (pos 0)
shown row judged.Contested = replicate (length_of row) (pos 0)
shown row (judged.Unreadable why) = replicate (length_of row) (pos 0)

-- n names a point of the usable shell of radius k
pub record NamesPoint (row : List ℕ) (k n : ℕ) : Type 0 where
  pub usable : IsUsable (length_of row) k (shell_total row k)
  pub below : n < shell_total row k
  pub named : index_names row k n ≡ true

-- what a place shows is such a point; Shows of `laws` has it of every cell in a good row
abbrev pub Shows : List ℕ → Judged → Type 0
Shows row (judged.Sound k n) = NamesPoint row k n
Shows row (judged.Mended k n d) = NamesPoint row k n
Shows row judged.Missing = Unit {0}
Shows row judged.Contested = Unit {0}
Shows row (judged.Unreadable why) = Unit {0}

-- what is told of the codeword that was received: its distance d is below 2^b less the total, and the total plus d is
-- the codeword
pub record PastBy (total codeword d : ℕ) : Type 0 where
  pub below : d < 2 ^ width total - total
  pub received : total + d ≡ codeword

-- and of the index n that is left of it: n plus 2^(b-1) is the total plus d
pub record Mends (total codeword n d : ℕ) : Type 0 where
  pub past : PastBy total codeword d
  pub left : n + 2 ^ (width total - 1) ≡ total + d

-- the total of the shell that a record names
abbrev pub total_named : List ℕ → List ℕ → ℕ
total_named row y = shell_total row (radius_at row (radius_number_in y))

-- a mended place tells its codeword, and so does an unreadable one of reason 6; Shows of `laws` has it of every cell
-- in a good row, y being the record that it holds
abbrev pub ReasonTells : ℕ → ℕ → Reason → Type 0
ReasonTells total codeword reason.NoSuchRadius = Unit {0}
ReasonTells total codeword reason.TooWide = Unit {0}
ReasonTells total codeword (reason.PastEnd d) = PastBy total codeword d
ReasonTells total codeword reason.EmptyShape = Unit {0}

abbrev pub TellsCodeword : List ℕ → List ℕ → Judged → Type 0
TellsCodeword row y (judged.Sound k n) = Unit {0}
TellsCodeword row y (judged.Mended k n d) = Mends (shell_total row k) (codeword_in y) n d
TellsCodeword row y judged.Missing = Unit {0}
TellsCodeword row y judged.Contested = Unit {0}
TellsCodeword row y (judged.Unreadable why) = ReasonTells (total_named row y) (codeword_in y) why
