-- The tally (docs/RULES.md, "The page": "how many places of a book have each answer"). `mode` is the mode, t the
-- table's bytes, `books` the number of books, `book` the book, pg the page's bytes; all of them any.
use Rattle.std.specs.Prelude.{ℕ, zero, suc, List, [], ◌∷◌, ◌++◌, eqb}
use Rattle.answers.specs.Checks.{Check, pick, first_of, each_from}
use Rattle.tables.specs.BookNumbers.{book_checks}
use Rattle.tables.specs.Table.{places_in}
use Rattle.rules.specs.Modes.{mode_check}
use Rattle.rules.specs.Taking.{cell_check_at, page_check}
use Rattle.rules.specs.Judging.{judge_at, answer_number}

-- Tally: 16, 17, 7, 8, 4, and 12 at every place of the book; the lowest at fault is named
abbrev pub tally_rest : List ℕ → List ℕ → ℕ → List Check
tally_rest t pg book = each_from (cell_check_at t pg book) 0 (places_in t)

-- of a mode, a table, its books, a book and a page: 16, 17, 7, 8, 4
abbrev pub whole_checks : ℕ → List ℕ → ℕ → ℕ → List ℕ → List Check
whole_checks mode t books book pg = mode_check mode ∷ book_checks t books book ++ (page_check t books pg ∷ [])

abbrev pub tally_checks : ℕ → List ℕ → ℕ → ℕ → List ℕ → List Check
tally_checks mode t books book pg = whole_checks mode t books book pg ++ tally_rest t pg book

-- how many of the first n places have answer a; f gives the answer of a place
unfoldable pub count_of : (ℕ → ℕ) → ℕ → ℕ → ℕ
count_of f a zero = 0
count_of f a (suc n) = pick (eqb (f n) a) (suc (count_of f a n)) (count_of f a n)

-- the five counts, in the order sound, mended, missing, contested, unreadable
abbrev pub counts_of : (ℕ → ℕ) → ℕ → List ℕ
counts_of f n = count_of f 0 n ∷ count_of f 1 n ∷ count_of f 2 n ∷ count_of f 3 n ∷ count_of f 4 n ∷ []

abbrev pub answer_at : ℕ → List ℕ → List ℕ → ℕ → ℕ → ℕ
answer_at mode t pg book p = answer_number (judge_at mode t pg book p)

abbrev pub tally_of : ℕ → List ℕ → List ℕ → ℕ → List ℕ
tally_of mode t pg book = counts_of (answer_at mode t pg book) (places_in t)

-- what the call tally is to say
abbrev pub tally_says : ℕ → List ℕ → ℕ → ℕ → List ℕ → List ℕ
tally_says mode t books book pg = first_of (tally_checks mode t books book pg) (0 ∷ tally_of mode t pg book)
