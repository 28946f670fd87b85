-- How far points of radius 4 are from the whole numbers (3,-1,1), whose magnitudes sum to 5, by the definitions.
-- proofs/Example.antt computes every line.
use Rattle.std.specs.Prelude.{◌≡◌, [], ◌∷◌, pos, negsuc}
use Rattle.sharing.specs.Nearest.{difference, sum_of_squares}

pub record Example : Type 0 where
  -- 4 x 3 - 5 x 2, 4 x -1 - 5 x -1, 4 x 1 - 5 x 1 and 4 x -1 - 5 x 1
  pub short : difference 4 5 (pos 3) (pos 2) ≡ pos 2
  pub past : difference 4 5 (negsuc 0) (negsuc 0) ≡ pos 1
  pub past_the_other_way : difference 4 5 (pos 1) (pos 1) ≡ negsuc 0
  pub other_sign : difference 4 5 (negsuc 0) (pos 1) ≡ negsuc 8
  -- the points (2,-1,1), (3,-1,0) and (2,1,1)
  pub nearest : sum_of_squares 4 5 (pos 3 ∷ negsuc 0 ∷ pos 1 ∷ []) (pos 2 ∷ negsuc 0 ∷ pos 1 ∷ []) ≡ 6
  pub farther : sum_of_squares 4 5 (pos 3 ∷ negsuc 0 ∷ pos 1 ∷ []) (pos 3 ∷ negsuc 0 ∷ pos 0 ∷ []) ≡ 26
  pub wrong_sign : sum_of_squares 4 5 (pos 3 ∷ negsuc 0 ∷ pos 1 ∷ []) (pos 2 ∷ pos 1 ∷ pos 1 ∷ []) ≡ 86
  -- a list that ends early adds nothing
  pub shorter : sum_of_squares 4 5 (pos 3 ∷ negsuc 0 ∷ []) (pos 2 ∷ []) ≡ 4
