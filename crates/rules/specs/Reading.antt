-- What the calls read and coefficient say, and what read leaves in the lent buffer (docs/RULES.md, "The page",
-- "Books", "Refusal numbers" and "Order of checks"). `mode` is the mode, t the table's bytes, `books` the number of
-- books, `book` the book, pg the page's bytes, p the place, i the coordinate; all of them any. `row` is the bytes of a
-- row, r its number, c the cell of the place.
use Rattle.std.specs.Prelude.{ℕ, List, [], ◌∷◌, ◌++◌, leb, Float, ℤ, pos, ◌*ℤ◌, length, get_or}
use Rattle.answers.specs.Checks.{Check, first_of, leaves, length_check}
use Rattle.floats.specs.Exact.{over256}
use Rattle.tables.specs.Row.{length_of, step_of}
use Rattle.tables.specs.BookNumbers.{place_checks}
use Rattle.tables.specs.Table.{row_of, row_for}
use Rattle.layout.specs.Layout.{Cell}
use Rattle.rules.specs.Modes.{mode_check}
use Rattle.rules.specs.Taking.{cell_for, cell_check, page_check}
use Rattle.rules.specs.Judging.{judge_at, answer_number, reason_of, distance_of, shown}
use Rattle.rules.specs.declared.Judged.{Judged}
use Rattle.rules.specs.declared.Judged.TheVariants as judged

-- the point of a place, or zeros
abbrev pub point_at : ℕ → List ℕ → List ℕ → ℕ → ℕ → List ℤ
point_at mode t pg book p = shown (row_for t p) (judge_at mode t pg book p)

-- what is told of a place: its answer, the reason, and the distance of one that has it
abbrev pub told : Judged → List ℕ
told j = 0 ∷ answer_number j ∷ reason_of j ∷ distance_of j

-- of a mode, a table, its books, a book, a place in it and a page: 16, 17, 7, 8, 4
abbrev pub look_checks : ℕ → List ℕ → ℕ → ℕ → List ℕ → ℕ → List Check
look_checks mode t books book pg p = mode_check mode ∷ place_checks t books book p ++ (page_check t books pg ∷ [])

-- ---- the call read
-- Read a place: 16, 17, 7, 8, 4, 12; first what is checked in the row of the place, b being the length of the lent
-- buffer
abbrev pub read_rest : List ℕ → ℕ → ℕ → ℕ → Cell → ℕ → List Check
read_rest row book p r c b = length_check b (length_of row) ∷ cell_check book p r c ∷ []

abbrev pub read_checks : ℕ → List ℕ → ℕ → ℕ → List ℕ → ℕ → ℕ → List Check
read_checks mode t books book pg p b = look_checks mode t books book pg p ++ read_rest (row_for t p) book p (row_of t p) (cell_for t pg book p) b

-- what it is to say, and what it leaves in a buffer that held `held`
abbrev pub read_says : ℕ → List ℕ → ℕ → ℕ → List ℕ → ℕ → List ℤ → List ℕ
read_says mode t books book pg p held = first_of (read_checks mode t books book pg p (length held)) (told (judge_at mode t pg book p))

abbrev pub read_leaves : ℕ → List ℕ → ℕ → ℕ → List ℕ → ℕ → List ℤ → List ℤ
read_leaves mode t books book pg p held = leaves (read_checks mode t books book pg p (length held)) (point_at mode t pg book p) held

-- ---- the call coefficient
-- 13: coordinate number l or more
abbrev pub coordinate_check : List ℕ → ℕ → Check
coordinate_check row i = record { number = 13; values = []; fails = leb (length_of row) i }

-- One coefficient: 16, 17, 7, 8, 4, 13, 12; first what is checked in the row of the place
abbrev pub coefficient_rest : List ℕ → ℕ → ℕ → ℕ → Cell → ℕ → List Check
coefficient_rest row book p r c i = coordinate_check row i ∷ cell_check book p r c ∷ []

abbrev pub coefficient_checks : ℕ → List ℕ → ℕ → ℕ → List ℕ → ℕ → ℕ → List Check
coefficient_checks mode t books book pg p i =
    look_checks mode t books book pg p ++ coefficient_rest (row_for t p) book p (row_of t p) (cell_for t pg book p) i

-- the value is coordinate x step / 256 as f32; q is a point
abbrev pub value_in : List ℕ → List ℤ → ℕ → Float
value_in row q i = over256 (get_or q i (pos 0) *ℤ pos (step_of row))

abbrev pub value_at : ℕ → List ℕ → List ℕ → ℕ → ℕ → ℕ → Float
value_at mode t pg book p i = value_in (row_for t p) (point_at mode t pg book p) i

-- sound and mended carry what is asked of them; the other three nothing
abbrev pub carried : {A : Type 0} → Judged → A → List A
carried (judged.Sound k n) v = v ∷ []
carried (judged.Mended k n d) v = v ∷ []
carried judged.Missing v = []
carried judged.Contested v = []
carried (judged.Unreadable why) v = []

-- what the answer j carries of coordinate i
abbrev pub carried_by : List ℕ → Judged → ℕ → List Float
carried_by row j i = carried j (value_in row (shown row j) i)

-- what it is to say, and the value that it carries; a refusal carries none
abbrev pub coefficient_says : ℕ → List ℕ → ℕ → ℕ → List ℕ → ℕ → ℕ → List ℕ
coefficient_says mode t books book pg p i = first_of (coefficient_checks mode t books book pg p i) (told (judge_at mode t pg book p))

abbrev pub coefficient_carries : ℕ → List ℕ → ℕ → ℕ → List ℕ → ℕ → ℕ → List Float
coefficient_carries mode t books book pg p i =
    leaves (coefficient_checks mode t books book pg p i) (carried_by (row_for t p) (judge_at mode t pg book p) i) []
