-- A page of three places, sent: two of the whole case (docs/RULES.md, "Worked cases"), and one of a second row, whose
-- length is 2. proofs/Example.antt computes every line.
use Rattle.std.specs.Prelude.{ℕ, ◌≡◌, List, [], ◌∷◌, ◌++◌, true, false, Float, pos, negsuc, take, drop, replicate}
use Rattle.std.specs.Float.{nan, inf, fin}
use Rattle.tables.specs.Example.{whole_case}
use Rattle.coefficients.specs.Example.{vector}
use Rattle.runs.specs.File.{run_of}
use Rattle.runs.specs.Run.{coordinates_before, coordinates_in, vector_for}
use Rattle.runs.specs.Sending.{send_says, send_leaves}

-- length 2, radii 0 and 4, step 77, one place
abbrev pub short_row : List ℕ
short_row = 2 ∷ 2 ∷ 0 ∷ 4 ∷ 0 ∷ 0 ∷ 0 ∷ 0 ∷ 0 ∷ 0 ∷ 0 ∷ 77 ∷ 0 ∷ 1 ∷ 0 ∷ 0 ∷ []

abbrev pub table : List ℕ
table = whole_case ++ short_row

-- (1, -1)
abbrev pub pair : List Float
pair = fin false 1 (pos 0) ∷ fin true 1 (pos 0) ∷ []

-- (0, 0, -1.5)
abbrev pub second : List Float
second = fin false 0 (pos 0) ∷ fin false 0 (pos 0) ∷ fin true 3 (negsuc 0) ∷ []

-- of place 0, place 1 and place 2
abbrev pub run : List Float
run = vector ++ second ++ pair

-- a coefficient is at fault: the last of place 1, and both of place 2, too
abbrev pub bad : List Float
bad = take 5 run ++ inf true ∷ nan ∷ fin false 1 (pos 15) ∷ []

-- lent buffers
abbrev pub lent : ℕ → List ℕ
lent b = replicate b 9

-- bytes of a file: 3fc00000 00000000 bf400000; and 7fc00001, a NaN, and ff800000, negative infinity
abbrev pub three : List ℕ
three = 0x3f ∷ 0xc0 ∷ 0 ∷ 0 ∷ 0 ∷ 0 ∷ 0 ∷ 0 ∷ 0xbf ∷ 0x40 ∷ 0 ∷ 0 ∷ []

abbrev pub unusable : List ℕ
unusable = 0x7f ∷ 0xc0 ∷ 0 ∷ 1 ∷ 0xff ∷ 0x80 ∷ 0 ∷ 0 ∷ []

pub record Example : Type 0 where
  pub before_0 : coordinates_before table 0 ≡ 0
  pub before_1 : coordinates_before table 1 ≡ 3
  pub before_2 : coordinates_before table 2 ≡ 6
  pub in_all : coordinates_in table ≡ 8
  pub first_vector : vector_for table run 0 ≡ vector
  pub second_vector : vector_for table run 1 ≡ second
  pub last_vector : vector_for table run 2 ≡ pair
  -- the records, in place order: place, row, radius number, codeword
  pub says : send_says table 1 0 run (lent 24) ≡ 0 ∷ []
  pub leaves_all : send_leaves table 1 0 run (lent 24)
      ≡ 0 ∷ 0 ∷ 0 ∷ 1 ∷ 0 ∷ 0 ∷ 0 ∷ 5 ∷ 0 ∷ 1 ∷ 0 ∷ 1 ∷ 0 ∷ 0 ∷ 0 ∷ 13 ∷ 0 ∷ 2 ∷ 1 ∷ 1 ∷ 0 ∷ 0 ∷ 0 ∷ 5 ∷ []
  -- the same for book 9 of 10: each place field has the book in its upper four bits
  pub book_9_says : send_says table 10 9 run (lent 24) ≡ 0 ∷ []
  pub book_9_leaves : send_leaves table 10 9 run (lent 24)
      ≡ 0x90 ∷ 0 ∷ 0 ∷ 1 ∷ 0 ∷ 0 ∷ 0 ∷ 5 ∷ 0x90 ∷ 1 ∷ 0 ∷ 1 ∷ 0 ∷ 0 ∷ 0 ∷ 13 ∷ 0x90 ∷ 2 ∷ 1 ∷ 1 ∷ 0 ∷ 0 ∷ 0 ∷ 5 ∷ []
  -- 17 before 7, 7 before 8, 8 before 4, with two faults at once; a book equal to the number of books
  pub no_books : send_says [] 0 0 [] [] ≡ 17 ∷ []
  pub books_17 : send_says table 17 17 run (lent 24) ≡ 17 ∷ []
  pub table_first : send_says [] 2 2 run (lent 24) ≡ 7 ∷ 0 ∷ []
  pub no_book : send_says table 9 9 (take 7 run) (lent 24) ≡ 8 ∷ []
  pub no_book_leaves : send_leaves table 9 9 run (lent 24) ≡ lent 24
  -- 7 before 4, 4 before 11, with two faults at once
  pub bad_row_lem : send_says (whole_case ++ drop 1 short_row ++ 0 ∷ []) 1 0 [] [] ≡ 7 ∷ 1 ∷ []
  pub run_short : send_says table 1 0 (take 7 bad) (lent 24) ≡ 4 ∷ []
  pub run_long : send_says table 1 0 (bad ++ pair) (lent 24) ≡ 4 ∷ []
  pub buffer_short : send_says table 1 0 bad (lent 23) ≡ 4 ∷ []
  pub buffer_long : send_says table 1 0 bad (lent 25) ≡ 4 ∷ []
  pub no_buffer : send_says table 1 0 run [] ≡ 4 ∷ []
  -- 11: the lowest place, then its lowest coordinate
  pub lowest : send_says table 1 0 bad (lent 24) ≡ 11 ∷ 1 ∷ 2 ∷ []
  pub last_place : send_says table 1 0 (take 7 run ++ nan ∷ []) (lent 24) ≡ 11 ∷ 2 ∷ 1 ∷ []
  -- a refusal leaves the buffer
  pub kept : send_leaves table 1 0 (take 7 run ++ nan ∷ []) (lent 24) ≡ lent 24
  -- the runs of files; of no file, or an empty one; one byte missing, and one too many: no run
  pub three_read : run_of three ≡ vector
  pub unusable_read : run_of unusable ≡ nan ∷ inf true ∷ []
  pub none_read : run_of [] ≡ []
  pub cut_off : run_of (take 11 three) ≡ []
  pub byte_more : run_of (three ++ 0 ∷ []) ≡ []
