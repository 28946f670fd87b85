-- Two rows, read by the definitions: the row of the whole case (docs/RULES.md, "Worked cases"), and one of the
-- magnitude enumeration in which every byte differs from its neighbours; the faults of each, and those that go by the
-- row's own total; tables of those rows; and books that share them.
-- proofs/Example.antt computes every line.
use Rattle.std.specs.Prelude.{ℕ, zero, suc, ◌≡◌, List, [], ◌∷◌, ◌++◌, map, true, false, take, drop}
use Rattle.answers.specs.Checks.{first_of}
use Rattle.counts.specs.Counts.{N}
use Rattle.enumeration.specs.Enumerations.{product, magnitude}
use Rattle.tables.specs.Usable.{too_many, shell_checks}
use Rattle.tables.specs.Row.{length_of, radii_of, radius_at, step_of, places_of, selector_of, bad_row}
use Rattle.tables.specs.Table.{row_at, table_room, check_says, no_such_place, row_of, length_for, enumeration_for, survey_says}
use Rattle.tables.specs.BookNumbers.{sharing_checks, book_checks, place_checks}

abbrev pub whole_case : List ℕ
whole_case = 3 ∷ 2 ∷ 0 ∷ 2 ∷ 0 ∷ 0 ∷ 0 ∷ 0 ∷ 0 ∷ 0 ∷ 1 ∷ 0 ∷ 0 ∷ 2 ∷ 0 ∷ 0 ∷ []

-- length 5, eight radii, step 3 x 256 + 7, places 1 x 256 + 4, selector 1
abbrev pub full_row : List ℕ
full_row = 5 ∷ 8 ∷ 0 ∷ 1 ∷ 3 ∷ 5 ∷ 9 ∷ 14 ∷ 20 ∷ 32 ∷ 3 ∷ 7 ∷ 1 ∷ 4 ∷ 1 ∷ 0 ∷ []

abbrev pub two_rows : List ℕ
two_rows = whole_case ++ full_row

-- one row of so many places, high byte and low byte
abbrev pub of_places : ℕ → ℕ → List ℕ
of_places high low = take 12 whole_case ++ high ∷ low ∷ 0 ∷ 0 ∷ []

-- the row of the whole case with this selector
abbrev pub of_selector : ℕ → List ℕ
of_selector v = take 14 whole_case ++ v ∷ 0 ∷ []

-- a row of this length with the radii 0 and k, and this selector
abbrev pub of_shell : ℕ → ℕ → ℕ → List ℕ
of_shell v l k = l ∷ 2 ∷ 0 ∷ k ∷ drop 4 (of_selector v)

-- a row again and again
abbrev pub again : ℕ → List ℕ → List ℕ
again zero row = []
again (suc n) row = row ++ again n row

pub record Example : Type 0 where
  pub length_0 : length_of whole_case ≡ 3
  pub length_1 : length_of full_row ≡ 5
  pub radii_0 : radii_of whole_case ≡ 2
  pub radii_1 : radii_of full_row ≡ 8
  pub radius_0_1 : radius_at whole_case 1 ≡ 2
  pub radius_1_0 : radius_at full_row 0 ≡ 0
  pub radius_1_2 : radius_at full_row 2 ≡ 3
  pub radius_1_7 : radius_at full_row 7 ≡ 32
  pub step_0 : step_of whole_case ≡ 256
  pub step_1 : step_of full_row ≡ 775
  pub places_1 : places_of full_row ≡ 260
  pub selector_0 : selector_of whole_case ≡ 0
  pub selector_1 : selector_of full_row ≡ 1
  -- the rows of the table of both
  pub first_row : row_at two_rows 0 ≡ whole_case
  pub second_row : row_at two_rows 1 ≡ full_row
  pub no_row : row_at two_rows 2 ≡ []
  -- neither is bad; without a step, or without places, the first is
  pub good_0 : bad_row whole_case ≡ false
  pub good_1 : bad_row full_row ≡ false
  pub no_step : bad_row (take 10 whole_case ++ 0 ∷ 0 ∷ 0 ∷ 2 ∷ 0 ∷ 0 ∷ []) ≡ true
  pub no_places_lem : bad_row (take 12 whole_case ++ 0 ∷ 0 ∷ 0 ∷ 0 ∷ []) ≡ true
  -- the smallest step, number of places, length and number of radii are good
  pub step_of_1 : bad_row (take 10 whole_case ++ 0 ∷ 1 ∷ drop 12 whole_case) ≡ false
  pub one_place : bad_row (of_places 0 1) ≡ false
  pub length_of_1 : bad_row (1 ∷ drop 1 whole_case) ≡ false
  pub one_radius : bad_row (3 ∷ 1 ∷ 0 ∷ 0 ∷ drop 4 whole_case) ≡ false
  -- each other fault by itself: length 0 and 17; no radii, and nine; a first radius that is 1; two that are equal,
  -- the last two of eight among them; one above 32; one past the largest of length 16, which is good; one beyond
  -- the number of radii
  pub no_length : bad_row (0 ∷ drop 1 whole_case) ≡ true
  pub length_17 : bad_row (17 ∷ drop 1 whole_case) ≡ true
  pub no_radii : bad_row (3 ∷ 0 ∷ 0 ∷ 0 ∷ drop 4 whole_case) ≡ true
  pub nine_radii : bad_row (3 ∷ 9 ∷ drop 2 full_row) ≡ true
  pub first_radius_1 : bad_row (3 ∷ 2 ∷ 1 ∷ drop 3 whole_case) ≡ true
  pub equal_radii : bad_row (3 ∷ 3 ∷ 0 ∷ 2 ∷ 2 ∷ drop 5 whole_case) ≡ true
  pub last_equal : bad_row (take 9 full_row ++ 20 ∷ drop 10 full_row) ≡ true
  pub radius_33 : bad_row (1 ∷ 2 ∷ 0 ∷ 33 ∷ drop 4 whole_case) ≡ true
  pub past_largest : bad_row (16 ∷ 2 ∷ 0 ∷ 13 ∷ drop 4 whole_case) ≡ true
  pub at_largest : bad_row (16 ∷ 2 ∷ 0 ∷ 12 ∷ drop 4 whole_case) ≡ false
  pub unused_radius : bad_row (take 4 whole_case ++ 2 ∷ drop 5 whole_case) ≡ true
  -- byte 14 is 0, 1 or 2, and byte 15 is 0 with each
  pub byte_14_of_1 : bad_row (of_selector 1) ≡ false
  pub byte_14_of_2 : bad_row (of_selector 2) ≡ false
  pub byte_14_of_3 : bad_row (of_selector 3) ≡ true
  pub byte_15 : bad_row (take 15 whole_case ++ 1 ∷ []) ≡ true
  pub byte_15_behind_1 : bad_row (take 15 full_row ++ 1 ∷ []) ≡ true
  -- the rows that a field of bits makes bad, and the radius below each, which it leaves good
  pub lost_9_27 : map bad_row (of_shell 0 9 27 ∷ of_shell 1 9 27 ∷ of_shell 2 9 27 ∷ of_shell 2 9 26 ∷ []) ≡ false ∷ false ∷ true ∷ false ∷ []
  pub lost_10_22 : map bad_row (of_shell 0 10 22 ∷ of_shell 1 10 22 ∷ of_shell 2 10 22 ∷ of_shell 2 10 21 ∷ []) ≡ false ∷ false ∷ true ∷ false ∷ []
  pub lost_13_15 : map bad_row (of_shell 0 13 15 ∷ of_shell 1 13 15 ∷ of_shell 2 13 15 ∷ of_shell 2 13 14 ∷ []) ≡ false ∷ false ∷ true ∷ false ∷ []
  pub lost_16_12 : map bad_row (of_shell 0 16 12 ∷ of_shell 1 16 12 ∷ of_shell 2 16 12 ∷ of_shell 2 16 11 ∷ []) ≡ false ∷ false ∷ true ∷ false ∷ []
  -- a shell of 2^32 points is within the limit, and one of a point more is not; no shell has either number of points
  pub most_points_lem : too_many 4294967296 ≡ false
  pub too_many_lem : too_many 4294967297 ≡ true
  -- a shell's length, radius and number of points; of a length and a radius that are both at fault, the length is
  -- told
  pub shell_1 : first_of (shell_checks 17 1 (N 17 1)) (0 ∷ []) ≡ 1 ∷ []
  pub shell_2 : first_of (shell_checks 16 33 (N 16 33)) (0 ∷ []) ≡ 2 ∷ []
  pub shell_3 : first_of (shell_checks 16 13 (N 16 13)) (0 ∷ []) ≡ 3 ∷ []
  pub shell_0 : first_of (shell_checks 16 12 (N 16 12)) (0 ∷ []) ≡ 0 ∷ []
  pub length_first : first_of (shell_checks 0 33 (N 0 33)) (0 ∷ []) ≡ 1 ∷ []
  -- tables, and the first of their rows that is bad
  pub whole_case_lem : check_says whole_case ≡ 0 ∷ 2 ∷ []
  pub two_rows_lem : check_says two_rows ≡ 0 ∷ 262 ∷ []
  pub row_alone : check_says full_row ≡ 0 ∷ 260 ∷ []
  -- the rows of the first and last places
  pub row_of_1 : row_of two_rows 1 ≡ 0
  pub row_of_2 : row_of two_rows 2 ≡ 1
  pub row_of_261 : row_of two_rows 261 ≡ 1
  -- and the length of their points
  pub length_at_1 : length_for two_rows 1 ≡ 3
  pub length_at_2 : length_for two_rows 2 ≡ 5
  -- each row has its own enumeration
  pub enumeration_at_1 : enumeration_for two_rows 1 ≡ product
  pub enumeration_at_2 : enumeration_for two_rows 2 ≡ magnitude
  -- the last place of all, and one more
  pub place_261 : no_such_place two_rows 261 ≡ false
  pub place_262 : no_such_place two_rows 262 ≡ true
  -- no table at all; half a row too many; a second row that is bad, its bytes one place along; two that are bad
  pub none : check_says [] ≡ 7 ∷ 0 ∷ []
  pub half_more : check_says (whole_case ++ take 8 whole_case) ≡ 7 ∷ 0 ∷ []
  pub one_along : check_says (whole_case ++ drop 1 whole_case ++ 0 ∷ []) ≡ 7 ∷ 1 ∷ []
  pub two_bad : check_says (again 2 (17 ∷ drop 1 whole_case)) ≡ 7 ∷ 0 ∷ []
  -- 4,096 places, and one more, in one row and at the second
  pub at_the_limit : check_says (of_places 16 0) ≡ 0 ∷ 4096 ∷ []
  pub past_the_limit : check_says (of_places 16 1) ≡ 7 ∷ 0 ∷ []
  pub past_at_row_1 : check_says (of_places 16 0 ++ whole_case) ≡ 7 ∷ 1 ∷ []
  -- 32 rows, and one more; the room for a table has one byte more than 32 rows
  pub rows_32 : check_says (again 32 whole_case) ≡ 0 ∷ 64 ∷ []
  pub rows_33 : check_says (again 33 whole_case) ≡ 7 ∷ 0 ∷ []
  pub rows_cut : check_says (take table_room (again 33 whole_case)) ≡ 7 ∷ 0 ∷ []
  -- the number of books: none, 1, 16, 17, and one that is 1 in its low 32 bits; 17 before 7
  pub books_0 : survey_says (sharing_checks whole_case 0) whole_case 1 ≡ 17 ∷ []
  pub books_1 : survey_says (sharing_checks whole_case 1) whole_case 1 ≡ 0 ∷ 2 ∷ 0 ∷ []
  pub books_16 : survey_says (sharing_checks whole_case 16) whole_case 1 ≡ 0 ∷ 2 ∷ 0 ∷ []
  pub books_17 : survey_says (sharing_checks whole_case 17) whole_case 1 ≡ 17 ∷ []
  pub books_wide : survey_says (sharing_checks whole_case 4294967297) whole_case 1 ≡ 17 ∷ []
  pub books_first : survey_says (place_checks [] 17 17 2) [] 2 ≡ 17 ∷ []
  -- the last of two books, and one more; 7 before 8
  pub book_1 : survey_says (book_checks whole_case 2 1) whole_case 0 ≡ 0 ∷ 2 ∷ 0 ∷ []
  pub book_2 : survey_says (book_checks whole_case 2 2) whole_case 0 ≡ 8 ∷ []
  pub book_after_table : survey_says (book_checks [] 2 2) [] 0 ≡ 7 ∷ 0 ∷ []
  -- a place of the last book, a place of no book, and no place
  pub in_book_lem : survey_says (place_checks two_rows 2 1 2) two_rows 2 ≡ 0 ∷ 262 ∷ 1 ∷ []
  pub in_no_book : survey_says (place_checks two_rows 2 2 2) two_rows 2 ≡ 8 ∷ []
  pub in_no_place : survey_says (place_checks two_rows 2 1 262) two_rows 262 ≡ 8 ∷ []
