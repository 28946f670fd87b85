-- The listing of the whole case (docs/RULES.md, "Worked cases"), and of single files beside it; and what the calls
-- of the report say and leave, with buffers of nines. proofs/Example.antt computes every line.
use Rattle.std.specs.Prelude.{ℕ, ◌≡◌, List, [], ◌∷◌, ◌++◌, take, drop, replicate}
use Rattle.answers.specs.Refusals.{meaning, printed}
use Rattle.answers.specs.declared.Refusal.TheVariants as refusal
use Rattle.tables.specs.Example.{whole_case}
use Rattle.rules.specs.Modes.{plain, mending}
use Rattle.rules.specs.Example.{of, first, second, other, page, state_3, rows_0_1, row_below}
use Rattle.wording.specs.Text.{ascii, refused_text}
use Rattle.reporting.specs.Listing.{last_line, listing}
use Rattle.reporting.specs.Calls.{lines_says, lines_leaves, line_says, line_leaves}

abbrev pub nines : ℕ → List ℕ
nines n = replicate n 9

-- the bytes of book 1: place 0 is empty, and place 1 holds a record of its own
abbrev pub in_book_1 : List ℕ
in_book_1 = replicate 9 0 ++ 1 ∷ 0x10 ∷ 1 ∷ 0 ∷ 1 ∷ 0 ∷ 0 ∷ 0 ∷ 5 ∷ []

pub record Example : Type 0 where
  -- as the rules print it
  pub whole_case_lem : listing whole_case (first ++ second) ≡ ascii "0 sound 0 1 0 -1\n1 mended 0 0 -1 1\ntally 1 1 0 0 0 0\n"
  -- codeword 20, which is 2 past the end
  pub past_end_lem : listing whole_case (first ++ of 1 0 1 20) ≡ ascii "0 sound 0 1 0 -1\n1 mended 2 1 0 1\ntally 1 1 0 0 0 0\n"
  -- no records at all
  pub no_records : listing whole_case [] ≡ ascii "0 missing 0 0 0 0\n1 missing 0 0 0 0\ntally 0 0 2 0 0 0\n"
  -- a record that differs, one that cannot be read, one of no place, and a shorter last part
  pub damaged : listing whole_case (first ++ other ++ of 1 0 1 32 ++ of 2 0 1 5 ++ take 7 first)
      ≡ ascii "0 contested 0 0 0 0\n1 unreadable 14 0 0 0\ntally 0 0 0 1 1 2\n"
  -- a record with a foreign row beside the two: a refused take, and nothing else
  pub foreign_row : listing whole_case (first ++ of 0 1 1 7 ++ second) ≡ ascii "0 sound 0 1 0 -1\n1 mended 0 0 -1 1\ntally 1 1 0 0 0 1\n"
  -- a bad table, and none
  pub bad_table_lem : listing (whole_case ++ (1 ∷ [])) first ≡ ascii "refused 7\n"
  pub no_table : listing [] first ≡ ascii "refused 7\n"
  -- the lines of a page, from a place on, as many as there is room for, 256 bytes each: where to go on, and how
  -- many bytes they are
  pub two_lines : lines_says mending whole_case 1 0 page 0 (nines 512) ≡ 0 ∷ 2 ∷ 35 ∷ []
  pub one_line : lines_says mending whole_case 1 0 page 0 (nines 511) ≡ 0 ∷ 1 ∷ 17 ∷ []
  pub last_place : lines_says mending whole_case 1 0 page 1 (nines 512) ≡ 0 ∷ 2 ∷ 18 ∷ []
  pub line_left : lines_leaves mending whole_case 1 0 page 1 (nines 256) ≡ ascii "1 mended 0 0 -1 1\n" ++ nines 238
  -- in plain mode an overflowing codeword is unreadable, with the reason in its line
  pub plain_line : lines_leaves plain whole_case 1 0 page 1 (nines 256) ≡ ascii "1 unreadable 6 0 0 0\n" ++ nines 235
  pub plain_sound : lines_leaves plain whole_case 1 0 page 0 (nines 256) ≡ lines_leaves mending whole_case 1 0 page 0 (nines 256)
  -- the lines of one book: book 1 of two has its own, with the places of the book; what stands in another is not looked
  -- at
  pub book_lines : lines_leaves mending whole_case 2 1 (state_3 ++ in_book_1) 0 (nines 512) ≡ ascii "0 missing 0 0 0 0\n1 sound 0 1 0 -1\n" ++ nines 477
  pub book_12 : lines_says mending whole_case 2 0 (state_3 ++ in_book_1) 0 (nines 512) ≡ 12 ∷ 0 ∷ []
  pub lines_17 : lines_says mending [] 17 17 (take 17 page) 2 [] ≡ 17 ∷ []
  pub lines_16_first : lines_says 2 [] 0 0 (take 17 page) 2 [] ≡ 16 ∷ []
  pub lines_8_book : lines_says mending whole_case 2 2 (take 17 page) 0 [] ≡ 8 ∷ []
  -- the listing has one book: a record of book 1 is a refused take
  pub other_book : listing whole_case (first ++ 0x10 ∷ drop 1 second ++ second) ≡ ascii "0 sound 0 1 0 -1\n1 mended 0 0 -1 1\ntally 1 1 0 0 0 1\n"
  -- 16, 7, 8, 4, 12 with the lowest place among those asked for; a refusal leaves the buffer
  pub lines_16 : lines_says 2 [] 1 0 (take 17 page) 2 [] ≡ 16 ∷ []
  pub lines_16_leaves : lines_leaves 2 whole_case 1 0 page 0 (nines 256) ≡ nines 256
  pub lines_7 : lines_says mending [] 1 0 (take 17 page) 2 [] ≡ 7 ∷ 0 ∷ []
  pub lines_8 : lines_says mending whole_case 1 0 (take 17 page) 2 [] ≡ 8 ∷ []
  pub lines_4_page : lines_says mending whole_case 1 0 (take 17 state_3) 0 (nines 256) ≡ 4 ∷ []
  pub lines_4_room : lines_says mending whole_case 1 0 state_3 0 (nines 255) ≡ 4 ∷ []
  pub lines_12 : lines_says mending whole_case 1 0 state_3 0 (nines 256) ≡ 12 ∷ 0 ∷ []
  pub lines_12_row : lines_says mending rows_0_1 1 0 row_below 1 (nines 512) ≡ 12 ∷ 2 ∷ []
  pub lines_past_12 : lines_says mending whole_case 1 0 state_3 1 (nines 256) ≡ 0 ∷ 2 ∷ 18 ∷ []
  pub refused_leaves : lines_leaves mending whole_case 1 0 state_3 0 (nines 256) ≡ nines 256
  -- a refusal that names two values
  pub two_printed : refused_text (printed (meaning (refusal.UnusableCoefficientAt 4095 15))) ≡ ascii "refused 11 4095 15\n"
  -- one line of a known text: its size, or 4 where there are less than 256 bytes
  pub last_line_lem : last_line (1 ∷ 1 ∷ 0 ∷ 0 ∷ 0 ∷ []) 2 ≡ ascii "tally 1 1 0 0 0 2\n"
  pub line_says_lem : line_says (ascii "refused 7\n") (nines 256) ≡ 0 ∷ 10 ∷ []
  pub line_leaves_lem : line_leaves (ascii "refused 7\n") (nines 256) ≡ ascii "refused 7\n" ++ nines 246
  pub line_4 : line_says (ascii "refused 7\n") (nines 255) ≡ 4 ∷ []
  pub line_4_leaves : line_leaves (ascii "refused 7\n") (nines 255) ≡ nines 255
