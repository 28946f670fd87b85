-- The order of the checks of index and point, 20 first, with all later ones failing too; and a selector of each
-- enumeration. proofs/Example.antt computes every line.
use Rattle.std.specs.Prelude.{◌≡◌, List, [], ◌∷◌, ℤ, pos, neg_ℤ}
use Rattle.indexing.specs.Calls.{index_says, point_says, point_leaves}

abbrev pub vector : List ℤ
vector = pos 1 ∷ pos 0 ∷ neg_ℤ (pos 1) ∷ []

abbrev pub pair : List ℤ
pair = pos 9 ∷ pos 9 ∷ []

pub record Example : Type 0 where
  -- 20, 1, 2, 3, 4, 5: each with what comes after it
  pub index_20 : index_says 3 0 33 [] ≡ 20 ∷ []
  pub index_1 : index_says 1 0 33 [] ≡ 1 ∷ []
  pub index_2 : index_says 1 16 33 [] ≡ 2 ∷ []
  pub index_3 : index_says 1 16 13 [] ≡ 3 ∷ []
  pub index_4 : index_says 1 3 2 [] ≡ 4 ∷ []
  pub index_5 : index_says 1 3 3 vector ≡ 5 ∷ []
  pub indexed : index_says 0 3 2 vector ≡ 0 ∷ 5 ∷ []
  pub indexed_by_1 : index_says 1 3 2 vector ≡ 0 ∷ 9 ∷ []
  pub indexed_by_2 : index_says 2 2 4 (pos 0 ∷ pos 4 ∷ []) ≡ 0 ∷ 16 ∷ []
  -- 3 is by the total of the selected enumeration: length 16 and radius 12
  pub index_3_of_2 : index_says 2 16 12 [] ≡ 3 ∷ []
  pub index_4_of_1 : index_says 1 16 12 [] ≡ 4 ∷ []
  -- 20, 1, 2, 3, 4, 6, 15
  pub point_20 : point_says 3 0 33 18 [] ≡ 20 ∷ []
  pub point_1 : point_says 1 0 33 18 [] ≡ 1 ∷ []
  pub point_2 : point_says 1 16 33 18 [] ≡ 2 ∷ []
  pub point_3 : point_says 1 16 13 18 [] ≡ 3 ∷ []
  pub point_4 : point_says 1 3 2 18 [] ≡ 4 ∷ []
  pub point_6 : point_says 1 3 2 20 vector ≡ 6 ∷ 2 ∷ []
  pub point_6_at_end : point_says 1 3 2 18 vector ≡ 6 ∷ 0 ∷ []
  pub point_6_of_2 : point_says 2 2 4 28 pair ≡ 6 ∷ 8 ∷ []
  pub point_15 : point_says 2 2 4 12 pair ≡ 15 ∷ []
  pub point_4_of_2 : point_says 2 2 4 12 vector ≡ 4 ∷ []
  pub pointed : point_says 1 3 2 9 vector ≡ 0 ∷ []
  pub pointed_by_2 : point_says 2 2 4 16 pair ≡ 0 ∷ []
  -- a refusal leaves what was lent
  pub kept : point_leaves 3 3 2 5 vector ≡ vector
  pub kept_empty : point_leaves 2 2 4 12 pair ≡ pair
