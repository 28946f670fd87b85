-- What the calls of the report say, and what they leave in the lent buffer. A refusal is given as in docs/RULES.md,
-- "Refusal numbers", the checks in the order in which reading a place has them. `mode` is the mode, t the table's
-- bytes, `books` the number of books, `book` the book, pg the page's bytes, p the place from which lines are asked for,
-- held what the lent buffer held; all of them any.
use Rattle.std.specs.Prelude.{ℕ, ◌+◌, ◌-◌, ◌/◌, min, List, [], ◌∷◌, ◌++◌, ltb, length, drop}
use Rattle.answers.specs.Checks.{Check, first_of, leaves, each_from}
use Rattle.tables.specs.Table.{places_in}
use Rattle.rules.specs.Reading.{look_checks}
use Rattle.rules.specs.Taking.{cell_check_at}
use Rattle.reporting.specs.Listing.{lines_from}

-- so many bytes of room are asked for each line, more than any line has
abbrev pub line_space : ℕ
line_space = 256

-- what a buffer holds once a text is written at its start: the text, and behind it what was there
abbrev pub starting_with : List ℕ → List ℕ → List ℕ
starting_with text held = text ++ drop (length text) held

-- 4: the lent buffer has no room for one line
abbrev pub no_room : ℕ → Check
no_room b = record { number = 4; values = []; fails = ltb b line_space }

-- ---- the lines of places
-- as many as b bytes have room for, or as there are
abbrev pub lines_fit : List ℕ → ℕ → ℕ → ℕ
lines_fit t p b = min (places_in t - p) (b / line_space)

-- 16, 17, 7, 8, 4, 12: 12 for the places of the book whose lines are written, with the lowest; first those after the
-- page's
abbrev pub lines_rest : List ℕ → List ℕ → ℕ → ℕ → ℕ → List Check
lines_rest t pg book p b = no_room b ∷ each_from (cell_check_at t pg book) p (lines_fit t p b)

abbrev pub lines_checks : ℕ → List ℕ → ℕ → ℕ → List ℕ → ℕ → ℕ → List Check
lines_checks mode t books book pg p b = look_checks mode t books book pg p ++ lines_rest t pg book p b

abbrev pub lines_text : ℕ → List ℕ → List ℕ → ℕ → ℕ → ℕ → List ℕ
lines_text mode t pg book p b = lines_from mode t pg book p (lines_fit t p b)

abbrev pub lines_answer : ℕ → List ℕ → List ℕ → ℕ → ℕ → ℕ → List ℕ
lines_answer mode t pg book p b = 0 ∷ (p + lines_fit t p b) ∷ length (lines_text mode t pg book p b) ∷ []

-- what is said, and what is left
abbrev pub lines_says : ℕ → List ℕ → ℕ → ℕ → List ℕ → ℕ → List ℕ → List ℕ
lines_says mode t books book pg p held =
    first_of (lines_checks mode t books book pg p (length held)) (lines_answer mode t pg book p (length held))

abbrev pub lines_leaves : ℕ → List ℕ → ℕ → ℕ → List ℕ → ℕ → List ℕ → List ℕ
lines_leaves mode t books book pg p held =
    leaves (lines_checks mode t books book pg p (length held)) (starting_with (lines_text mode t pg book p (length held)) held) held

-- ---- one line, whose text is known
abbrev pub line_says : List ℕ → List ℕ → List ℕ
line_says text held = first_of (no_room (length held) ∷ []) (0 ∷ length text ∷ [])

abbrev pub line_leaves : List ℕ → List ℕ → List ℕ
line_leaves text held = leaves (no_room (length held) ∷ []) (starting_with text held) held
