-- What C is given, in numbers: counts, takes into the page of the whole case (docs/RULES.md, "Worked cases"), which is
-- kept states first, and conversions. proofs/Example.antt computes every line.
use Rattle.std.specs.Prelude.{ℕ, ◌≡◌, List, [], ◌∷◌, ◌++◌, take, drop, replicate}
use Rattle.tables.specs.Example.{whole_case}
use Rattle.rules.specs.Example.{of, first, second, page}
use Rattle.slate.specs.Given.{count_gives, take_gives, take_keeps, convert_gives}

-- that page, and one of two books whose second is empty
abbrev pub kept : List ℕ
kept = 1 ∷ 1 ∷ first ++ second

abbrev pub kept_two : List ℕ
kept_two = 1 ∷ 1 ∷ 0 ∷ 0 ∷ first ++ second ++ replicate 16 0

-- the second record in book 1
abbrev pub second_in_1 : List ℕ
second_in_1 = 0x10 ∷ drop 1 second

pub record Example : Type 0 where
  pub count_3_2 : count_gives 3 2 ≡ 18
  pub count_17_1 : count_gives 17 1 ≡ 0
  pub count_1_33 : count_gives 1 33 ≡ 0
  pub count_16_13 : count_gives 16 13 ≡ 0
  pub taken : take_gives whole_case 1 kept first ≡ 0
  pub refused_7 : take_gives [] 1 kept first ≡ 7
  pub refused_4 : take_gives whole_case 1 kept (take 7 first) ≡ 4
  pub refused_8 : take_gives whole_case 1 kept (of 2 0 1 5) ≡ 8
  pub refused_9 : take_gives whole_case 1 kept (of 0 1 1 5) ≡ 9
  pub refused_12 : take_gives whole_case 1 (1 ∷ 1 ∷ second ++ second) first ≡ 12
  -- what take leaves: a first record, one more, and one that differs
  pub held : take_keeps whole_case 1 (replicate 18 0) second ≡ 0 ∷ 1 ∷ replicate 8 0 ++ second
  pub both_held : take_keeps whole_case 1 (0 ∷ 1 ∷ replicate 8 0 ++ second) first ≡ kept
  pub contested : take_keeps whole_case 1 kept (of 0 0 1 7) ≡ 2 ∷ 1 ∷ replicate 8 0 ++ second
  -- the same page, kept cell by cell: its bytes are those of another page, and place 0 holds a record of a foreign row
  pub refused_cell_by_cell : take_gives whole_case 1 page first ≡ 12
  -- 17 for no books, for 17, and for a number that is 1 in its low 32 bits, before 7; the record of place 1 in book 1
  -- into a page of two books, of one, and of three
  pub refused_17_0 : take_gives whole_case 0 kept first ≡ 17
  pub refused_17 : take_gives [] 17 kept first ≡ 17
  pub refused_17_wide : take_gives whole_case 4294967297 kept first ≡ 17
  pub taken_book_1 : take_gives whole_case 2 kept_two second_in_1 ≡ 0
  pub held_book_1 : take_keeps whole_case 2 kept_two second_in_1 ≡ 1 ∷ 1 ∷ 0 ∷ 1 ∷ first ++ second ++ replicate 8 0 ++ second_in_1
  pub refused_book_1 : take_gives whole_case 1 kept second_in_1 ≡ 8
  pub refused_books_3 : take_gives whole_case 3 kept_two second_in_1 ≡ 4
  -- a conversion: the other page has the length of a page, or not; 4 for either, 7, and 17 before both
  pub converted : convert_gives whole_case 1 page (replicate 18 9) ≡ 0
  pub converted_4 : convert_gives whole_case 1 page (replicate 17 9) ≡ 4
  pub converted_4_page : convert_gives whole_case 1 (take 17 page) (replicate 18 9) ≡ 4
  pub converted_7 : convert_gives [] 1 (take 17 page) (replicate 18 9) ≡ 7
  pub converted_17 : convert_gives [] 17 page (replicate 18 9) ≡ 17
