-- The listing of a page (docs/RULES.md, "Listing program"). t is the bytes of `pairing.bin`, pg those of a page;
-- `row` is the bytes of a row, `book` a book. Lines are of a mode and a book; the listing asks for mending, and has one
-- book, which is book 0.
use Rattle.std.specs.Prelude.{ℕ, List, [], ◌∷◌, ◌++◌}
use Rattle.answers.specs.Checks.{any_of, pick, fails_of}
use Rattle.buffers.specs.Joined.{joined}
use Rattle.tables.specs.BookNumbers.{one_book, only_book}
use Rattle.tables.specs.Table.{places_in, table_checks, row_for}
use Rattle.layout.specs.Layout.{Cell}
use Rattle.rules.specs.Modes.{mending}
use Rattle.rules.specs.Taking.{cell_for, Received, collected, new_page}
use Rattle.rules.specs.Judging.{judge, answer_number, reason_or_distance, shown}
use Rattle.rules.specs.Tallying.{tally_of}
use Rattle.rules.specs.declared.Judged.{Judged}
use Rattle.wording.specs.Text.{place_text, last_text, refused_text}

-- "place, answer, reason or distance (0 where there is neither), then the l coordinates", for place p with the answer
-- j; a place without a point has zeros
abbrev pub line_of : List ℕ → ℕ → Judged → List ℕ
line_of row p j = place_text p (answer_number j) (reason_or_distance j) (shown row j)

-- of a place p in a row, whose cell is c
abbrev pub line_in : ℕ → List ℕ → ℕ → Cell → List ℕ
line_in mode row p c = line_of row p (judge mode row c)

-- in its own row, whatever it is, and in a book
abbrev pub line_at : ℕ → List ℕ → List ℕ → ℕ → ℕ → List ℕ
line_at mode t pg book p = line_in mode (row_for t p) p (cell_for t pg book p)

-- the lines of n places, from place p on
abbrev pub lines_from : ℕ → List ℕ → List ℕ → ℕ → ℕ → ℕ → List ℕ
lines_from mode t pg book = joined (line_at mode t pg book)

-- the last line: "`tally`, the five counts of the tally, the number of refused takes"
abbrev pub last_line : List ℕ → ℕ → List ℕ
last_line counts refused = last_text (counts ++ (refused ∷ []))

-- the listing of a page that was received with a good table, in mending mode
abbrev pub listed : List ℕ → Received → List ℕ
listed t s = lines_from mending t s.page only_book 0 (places_in t) ++ last_line (tally_of mending t s.page only_book) s.refused

-- what the program prints, given the bytes of `records.bin`: "With a bad table the program prints the line `refused
-- 7` and nothing else"; otherwise each 8 bytes are taken in turn into an empty page, and a shorter last part too
abbrev pub listing : List ℕ → List ℕ → List ℕ
listing t bytes = pick (any_of (fails_of (table_checks t))) (refused_text (7 ∷ [])) (listed t (collected t one_book (new_page t one_book) bytes))
