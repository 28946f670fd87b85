-- A page of two cells in which every byte differs from the others: read, changed and converted, in each layout; and
-- cells by book and place. proofs/Example.antt computes every line.
use Rattle.std.specs.Prelude.{ℕ, ◌≡◌, List, [], ◌∷◌, take, drop, replicate}
use Rattle.answers.specs.Checks.{first_of}
use Rattle.layout.specs.Layout.{Cell, cells_of, cell_of, page_length, page_length_check, cell_in, set_in, cell_at, set_cell, book_at, empty_page, empty_cell}
use Rattle.layout.specs.Converting.{converted}
use Rattle.layout.specs.declared.Layout.TheVariants as layouts

abbrev pub page : List ℕ
page = 1 ∷ 2 ∷ 3 ∷ 4 ∷ 5 ∷ 6 ∷ 7 ∷ 8 ∷ 9 ∷ 11 ∷ 12 ∷ 13 ∷ 14 ∷ 15 ∷ 16 ∷ 17 ∷ 18 ∷ 19 ∷ []

-- the same page, states first
abbrev pub states_first : List ℕ
states_first = 1 ∷ 11 ∷ 2 ∷ 3 ∷ 4 ∷ 5 ∷ 6 ∷ 7 ∷ 8 ∷ 9 ∷ 12 ∷ 13 ∷ 14 ∷ 15 ∷ 16 ∷ 17 ∷ 18 ∷ 19 ∷ []

abbrev pub other : Cell
other = record { state = 21; bytes = 22 ∷ 23 ∷ 24 ∷ 25 ∷ 26 ∷ 27 ∷ 28 ∷ 29 ∷ [] }

pub record Example : Type 0 where
  pub two_cells : page_length 2 ≡ 18
  pub shorter : first_of (page_length_check 2 17 ∷ []) (0 ∷ []) ≡ 4 ∷ []
  pub right : first_of (page_length_check 2 18 ∷ []) (0 ∷ []) ≡ 0 ∷ []
  pub longer : first_of (page_length_check 2 19 ∷ []) (0 ∷ []) ≡ 4 ∷ []
  pub first : cell_at page 0 ≡ record { state = 1; bytes = 2 ∷ 3 ∷ 4 ∷ 5 ∷ 6 ∷ 7 ∷ 8 ∷ 9 ∷ [] }
  pub second : cell_at page 1 ≡ record { state = 11; bytes = 12 ∷ 13 ∷ 14 ∷ 15 ∷ 16 ∷ 17 ∷ 18 ∷ 19 ∷ [] }
  pub first_set : set_cell page 0 other ≡ 21 ∷ 22 ∷ 23 ∷ 24 ∷ 25 ∷ 26 ∷ 27 ∷ 28 ∷ 29 ∷ 11 ∷ 12 ∷ 13 ∷ 14 ∷ 15 ∷ 16 ∷ 17 ∷ 18 ∷ 19 ∷ []
  pub second_set : set_cell page 1 other ≡ 1 ∷ 2 ∷ 3 ∷ 4 ∷ 5 ∷ 6 ∷ 7 ∷ 8 ∷ 9 ∷ 21 ∷ 22 ∷ 23 ∷ 24 ∷ 25 ∷ 26 ∷ 27 ∷ 28 ∷ 29 ∷ []
  -- ---- states first
  pub first_in : cell_in layouts.StatesFirst 2 states_first 0 ≡ cell_at page 0
  pub second_in : cell_in layouts.StatesFirst 2 states_first 1 ≡ cell_at page 1
  pub second_set_in : set_in layouts.StatesFirst 2 states_first 1 other
      ≡ 1 ∷ 21 ∷ 2 ∷ 3 ∷ 4 ∷ 5 ∷ 6 ∷ 7 ∷ 8 ∷ 9 ∷ 22 ∷ 23 ∷ 24 ∷ 25 ∷ 26 ∷ 27 ∷ 28 ∷ 29 ∷ []
  -- converted both ways, whatever the states are; and another length
  pub to_states_first : converted layouts.CellByCell layouts.StatesFirst 2 page ≡ states_first
  pub to_cell_by_cell : converted layouts.StatesFirst layouts.CellByCell 2 states_first ≡ page
  pub another_length : converted layouts.CellByCell layouts.StatesFirst 1 page ≡ page
  -- ---- two books of three places: their cells stand one book after another; and the two cells of the page as two
  -- books of one place
  pub six_cells : cells_of 3 2 ≡ 6
  pub in_book_0 : cell_of 3 0 2 ≡ 2
  pub in_book_1 : cell_of 3 1 2 ≡ 5
  pub book_0 : book_at 1 page 0 ≡ take 9 page
  pub book_1 : book_at 1 page 1 ≡ drop 9 page
  pub no_book : book_at 1 page 2 ≡ []
  pub empty_page_lem : empty_page 2 ≡ replicate 18 0
  pub empty_cell_lem : empty_cell ≡ record { state = 0; bytes = 0 ∷ 0 ∷ 0 ∷ 0 ∷ 0 ∷ 0 ∷ 0 ∷ 0 ∷ [] }
