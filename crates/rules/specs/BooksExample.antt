-- Several books on the table of the whole case (docs/RULES.md, "Books" and "Worked cases"): taken, read and tallied by
-- the definitions, and refused. Pages are written out byte for byte, book by book. proofs/BooksExample.antt computes
-- every line.
use Rattle.std.specs.Prelude.{ℕ, ◌*◌, ◌≡◌, List, [], ◌∷◌, ◌++◌, map, true, false, pos, negsuc, take, drop, replicate}
use Rattle.std.specs.Float.{binary32}
use Rattle.std.specs.Float.Ieee.{to_bits}
use Rattle.tables.specs.Example.{whole_case}
use Rattle.rules.specs.Example.{held, first, second, page, state_3, nines}
use Rattle.rules.specs.Modes.{mending}
use Rattle.rules.specs.Taking.{claims, bad_cell, take_says, take_leaves, collected}
use Rattle.rules.specs.Reading.{read_says, read_leaves, coefficient_says, coefficient_carries}
use Rattle.rules.specs.Tallying.{tally_says}

-- a record of that table in a book: the book is in the upper four bits of the first byte
abbrev pub in_book : ℕ → ℕ → ℕ → List ℕ
in_book book place codeword = 16 * book ∷ place ∷ 0 ∷ 1 ∷ 0 ∷ 0 ∷ 0 ∷ codeword ∷ []

-- two books: the page of the whole case, and one whose place 1 holds a record of its own
abbrev pub two : List ℕ
two = page ++ replicate 9 0 ++ 1 ∷ in_book 1 1 5

pub record BooksExample : Type 0 where
  -- what claims a place in a book: the record names the book, and there is such a book
  pub claims_book : claims whole_case 2 (in_book 1 1 5) 1 1 ≡ true
  pub claims_other_book : claims whole_case 2 (in_book 1 1 5) 0 1 ≡ false
  pub claims_no_book : claims whole_case 1 (in_book 1 1 5) 1 1 ≡ false
  pub claims_last_book : claims whole_case 16 (in_book 15 1 5) 15 1 ≡ true
  -- each record goes to its book; a record of a book that is not there is refused, and changes nothing
  pub taken : collected whole_case 2 (replicate 36 0) (in_book 1 1 5 ++ second ++ first) ≡ record { page = two; refused = 0 }
  pub one_book_alone : collected whole_case 1 (replicate 18 0) (in_book 1 1 5 ++ second ++ first) ≡ record { page = page; refused = 1 }
  pub disputed : take_leaves whole_case 2 two (in_book 1 1 7) ≡ page ++ replicate 9 0 ++ 2 ∷ replicate 8 0
  -- 12 for the cell of place 1 in book 0 and in book 1: the whole place field is compared
  pub bad_book_above : bad_cell 0 1 0 (held (in_book 1 1 5)) ≡ true
  pub bad_book_below : bad_cell 1 1 0 (held second) ≡ true
  pub own_book : bad_cell 1 1 0 (held (in_book 1 1 5)) ≡ false
  -- ---- take: 17, 7, 4, 8, 12, with two faults at once
  pub take_17 : take_says [] 17 (take 17 page) (take 7 first) ≡ 17 ∷ []
  pub take_17_none : take_says whole_case 0 [] first ≡ 17 ∷ []
  pub take_16 : take_says whole_case 16 (replicate 288 0) (in_book 15 1 5) ≡ 0 ∷ []
  pub take_7 : take_says [] 2 (take 17 page) (take 7 first) ≡ 7 ∷ 0 ∷ []
  pub take_4_one_book : take_says whole_case 2 page (in_book 2 0 5) ≡ 4 ∷ []
  pub take_4_two_books : take_says whole_case 1 two first ≡ 4 ∷ []
  pub take_8_book : take_says whole_case 2 two (in_book 2 0 5) ≡ 8 ∷ []
  pub take_8_place : take_says whole_case 2 two (in_book 1 2 5) ≡ 8 ∷ []
  pub take_12_book : take_says whole_case 2 (page ++ page) (in_book 1 0 5) ≡ 12 ∷ []
  pub take_beside_it : take_says whole_case 2 (page ++ page) first ≡ 0 ∷ []
  -- ---- read: 16, 17, 7, 8, 4, 12
  pub read_book_1 : read_leaves mending whole_case 2 1 two 1 nines ≡ pos 1 ∷ pos 0 ∷ negsuc 0 ∷ []
  pub read_book_0 : read_leaves mending whole_case 2 0 two 1 nines ≡ pos 0 ∷ negsuc 0 ∷ pos 1 ∷ []
  pub read_missing : read_says mending whole_case 2 1 two 0 nines ≡ 0 ∷ 2 ∷ 0 ∷ []
  pub read_16 : read_says 2 [] 17 17 page 2 [] ≡ 16 ∷ []
  pub read_17 : read_says mending [] 17 17 page 2 [] ≡ 17 ∷ []
  pub read_17_none : read_says mending whole_case 0 0 [] 0 nines ≡ 17 ∷ []
  pub read_7 : read_says mending [] 2 2 page 2 [] ≡ 7 ∷ 0 ∷ []
  pub read_8 : read_says mending whole_case 2 2 page 0 [] ≡ 8 ∷ []
  pub read_8_leaves : read_leaves mending whole_case 2 2 two 0 nines ≡ nines
  pub read_4 : read_says mending whole_case 2 1 page 0 nines ≡ 4 ∷ []
  pub read_12 : read_says mending whole_case 2 1 (page ++ page) 0 nines ≡ 12 ∷ []
  -- ---- one coefficient: 16, 17, 7, 8, 4, 13, 12
  pub coefficient_book_1 : map (to_bits binary32) (coefficient_carries mending whole_case 2 1 two 1 0) ≡ 1065353216 ∷ []
  pub coefficient_16 : coefficient_says 2 [] 17 17 page 2 3 ≡ 16 ∷ []
  pub coefficient_17 : coefficient_says mending [] 17 17 page 2 3 ≡ 17 ∷ []
  pub coefficient_8 : coefficient_says mending whole_case 2 2 page 0 3 ≡ 8 ∷ []
  pub coefficient_12 : coefficient_says mending whole_case 2 1 (page ++ page) 0 2 ≡ 12 ∷ []
  -- ---- the tally of one book: 16, 17, 7, 8, 4, and 12 with the place within its book; what stands in the other book
  -- is not looked at
  pub tally_book_0 : tally_says mending whole_case 2 0 two ≡ 0 ∷ 1 ∷ 1 ∷ 0 ∷ 0 ∷ 0 ∷ []
  pub tally_book_1 : tally_says mending whole_case 2 1 two ≡ 0 ∷ 1 ∷ 0 ∷ 1 ∷ 0 ∷ 0 ∷ []
  pub tally_beside : tally_says mending whole_case 2 1 (state_3 ++ drop 18 two) ≡ 0 ∷ 1 ∷ 0 ∷ 1 ∷ 0 ∷ 0 ∷ []
  pub tally_before : tally_says mending whole_case 2 0 (page ++ page) ≡ 0 ∷ 1 ∷ 1 ∷ 0 ∷ 0 ∷ 0 ∷ []
  pub tally_12 : tally_says mending whole_case 2 1 (page ++ replicate 9 0 ++ 1 ∷ second) ≡ 12 ∷ 1 ∷ []
  pub tally_16 : tally_says 2 [] 17 17 page ≡ 16 ∷ []
  pub tally_17 : tally_says mending [] 17 17 page ≡ 17 ∷ []
  pub tally_7 : tally_says mending [] 2 2 page ≡ 7 ∷ 0 ∷ []
  pub tally_8 : tally_says mending whole_case 2 2 page ≡ 8 ∷ []
  pub tally_4 : tally_says mending whole_case 2 1 (state_3 ++ []) ≡ 4 ∷ []
