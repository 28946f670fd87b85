-- Pages that are kept states first, by the table of the whole case (docs/RULES.md, "States first" and "Worked cases"):
-- converted both ways, and refused; taken into, read and tallied as the same page is cell by cell. Pages are written
-- out byte for byte. proofs/LayoutsExample.antt computes every line.
use Rattle.std.specs.Prelude.{ℕ, ◌≡◌, List, [], ◌∷◌, ◌++◌, pos, negsuc, take, replicate}
use Rattle.tables.specs.Example.{whole_case}
use Rattle.layout.specs.declared.Layout.TheVariants as layouts
use Rattle.rules.specs.BooksExample.{in_book, two}
use Rattle.rules.specs.Example.{first, second, page, nines}
use Rattle.rules.specs.Layouts.{as_cells, as_kept, convert_says, convert_leaves}
use Rattle.rules.specs.Modes.{mending}
use Rattle.rules.specs.Reading.{read_leaves}
use Rattle.rules.specs.Taking.{take_says, take_leaves, collected}
use Rattle.rules.specs.Tallying.{tally_says}

-- the page of two books, states first: the states of book 0, those of book 1, then the records in the same order
abbrev pub two_kept : List ℕ
two_kept = 1 ∷ 1 ∷ 0 ∷ 1 ∷ first ++ second ++ replicate 8 0 ++ in_book 1 1 5

-- a page whose bytes are all different, and no state of which would be accepted; and the same states first
abbrev pub any : List ℕ
any = 200 ∷ 2 ∷ 3 ∷ 4 ∷ 5 ∷ 6 ∷ 7 ∷ 8 ∷ 9 ∷ 100 ∷ 12 ∷ 13 ∷ 14 ∷ 15 ∷ 16 ∷ 17 ∷ 18 ∷ 19 ∷ []

abbrev pub any_kept : List ℕ
any_kept = 200 ∷ 100 ∷ 2 ∷ 3 ∷ 4 ∷ 5 ∷ 6 ∷ 7 ∷ 8 ∷ 9 ∷ 12 ∷ 13 ∷ 14 ∷ 15 ∷ 16 ∷ 17 ∷ 18 ∷ 19 ∷ []

pub record LayoutsExample : Type 0 where
  -- both ways, with one book and with two; what the other page held does not matter
  pub kept : convert_leaves layouts.CellByCell layouts.StatesFirst whole_case 1 any (replicate 18 7) ≡ any_kept
  pub back : convert_leaves layouts.StatesFirst layouts.CellByCell whole_case 1 any_kept (replicate 18 7) ≡ any
  pub kept_two : convert_leaves layouts.CellByCell layouts.StatesFirst whole_case 2 two (replicate 36 7) ≡ two_kept
  pub back_two : convert_leaves layouts.StatesFirst layouts.CellByCell whole_case 2 two_kept (replicate 36 7) ≡ two
  -- 17, 7, 4 for the one page and for the other, with two faults at once; the other page is as it was
  pub says_0 : convert_says whole_case 1 any (replicate 18 7) ≡ 0 ∷ []
  pub says_17 : convert_says [] 17 (take 17 any) (replicate 17 7) ≡ 17 ∷ []
  pub says_17_none : convert_says whole_case 0 [] [] ≡ 17 ∷ []
  pub says_7 : convert_says [] 1 (take 17 any) (replicate 17 7) ≡ 7 ∷ 0 ∷ []
  pub says_4 : convert_says whole_case 1 (take 17 any) (replicate 18 7) ≡ 4 ∷ []
  pub says_4_longer : convert_says whole_case 1 any (replicate 19 7) ≡ 4 ∷ []
  pub says_4_other : convert_says whole_case 1 any (replicate 17 7) ≡ 4 ∷ []
  pub says_4_books : convert_says whole_case 2 any (replicate 36 7) ≡ 4 ∷ []
  pub leaves_4 : convert_leaves layouts.CellByCell layouts.StatesFirst whole_case 1 (take 17 any) (replicate 18 7) ≡ replicate 18 7
  pub leaves_4_other : convert_leaves layouts.CellByCell layouts.StatesFirst whole_case 1 any (replicate 17 7) ≡ replicate 17 7
  -- a page cell by cell, and as it is kept; of another length, it is what it is
  pub as_cells_lem : as_cells layouts.StatesFirst whole_case 2 two_kept ≡ two
  pub as_kept_lem : as_kept layouts.StatesFirst whole_case 2 two ≡ two_kept
  pub as_cells_already : as_cells layouts.CellByCell whole_case 2 two ≡ two
  pub another_length : as_cells layouts.StatesFirst whole_case 2 any ≡ any
  -- records taken into an empty page; 12 and 4
  pub taken : as_kept layouts.StatesFirst whole_case 2
      (collected whole_case 2 (as_cells layouts.StatesFirst whole_case 2 (replicate 36 0)) (in_book 1 1 5 ++ second ++ first)).page ≡ two_kept
  pub disputed : as_kept layouts.StatesFirst whole_case 2 (take_leaves whole_case 2 (as_cells layouts.StatesFirst whole_case 2 two_kept) (in_book 1 1 7))
      ≡ 1 ∷ 1 ∷ 0 ∷ 2 ∷ first ++ second ++ replicate 16 0
  pub take_12 : take_says whole_case 1 (as_cells layouts.StatesFirst whole_case 1 any_kept) first ≡ 12 ∷ []
  pub take_4 : take_says whole_case 1 (as_cells layouts.StatesFirst whole_case 1 two_kept) first ≡ 4 ∷ []
  -- read and tallied
  pub read_book_1 : read_leaves mending whole_case 2 1 (as_cells layouts.StatesFirst whole_case 2 two_kept) 1 nines ≡ pos 1 ∷ pos 0 ∷ negsuc 0 ∷ []
  pub tally_book_1 : tally_says mending whole_case 2 1 (as_cells layouts.StatesFirst whole_case 2 two_kept) ≡ 0 ∷ 1 ∷ 0 ∷ 1 ∷ 0 ∷ 0 ∷ []
