-- The enumeration in small: six patterns, six shapes, and all 18 points of length 3 and radius 2, each in the order
-- of their indices. Of the points those with two nonzero coordinates come first, from 0 on: three patterns, 0xx,
-- x0x and xx0, one shape, 1 1, and four signs of each. With one, from 12 on, there are the patterns 00x, 0x0 and
-- x00, the shape 2, and two signs of each. proofs/Example.antt computes every line.
use Rattle.std.specs.Prelude.{ℕ, zero, suc, ◌≡◌, List, [], ◌∷◌, map, Bool, true, false, ℤ, pos, neg_ℤ}
use Rattle.counts.specs.Counts.{S}
use Rattle.enumeration.specs.Product.{pattern_index, shape_index, sign_index, product_index}
use Rattle.enumeration.specs.Reading.{pattern_of, shape_of, signs_of, product_point}
use Rattle.enumeration.specs.Signs.{flipped}

abbrev pub triple : ℤ → ℤ → ℤ → List ℤ
triple a b c = a ∷ b ∷ c ∷ []

abbrev pub points_3_2 : List (List ℤ)
points_3_2 =
    triple (pos 0) (pos 1) (pos 1)
    ∷ triple (pos 0) (pos 1) (neg_ℤ (pos 1))
    ∷ triple (pos 0) (neg_ℤ (pos 1)) (pos 1)
    ∷ triple (pos 0) (neg_ℤ (pos 1)) (neg_ℤ (pos 1))
    ∷ triple (pos 1) (pos 0) (pos 1)
    ∷ triple (pos 1) (pos 0) (neg_ℤ (pos 1))
    ∷ triple (neg_ℤ (pos 1)) (pos 0) (pos 1)
    ∷ triple (neg_ℤ (pos 1)) (pos 0) (neg_ℤ (pos 1))
    ∷ triple (pos 1) (pos 1) (pos 0)
    ∷ triple (pos 1) (neg_ℤ (pos 1)) (pos 0)
    ∷ triple (neg_ℤ (pos 1)) (pos 1) (pos 0)
    ∷ triple (neg_ℤ (pos 1)) (neg_ℤ (pos 1)) (pos 0)
    ∷ triple (pos 0) (pos 0) (pos 2)
    ∷ triple (pos 0) (pos 0) (neg_ℤ (pos 2))
    ∷ triple (pos 0) (pos 2) (pos 0)
    ∷ triple (pos 0) (neg_ℤ (pos 2)) (pos 0)
    ∷ triple (pos 2) (pos 0) (pos 0)
    ∷ triple (neg_ℤ (pos 2)) (pos 0) (pos 0)
    ∷ []

-- the six patterns of two nonzero coordinates among four, and the six shapes of three magnitudes that sum to 5
abbrev pub pattern : Bool → Bool → Bool → Bool → List Bool
pattern a b c d = a ∷ b ∷ c ∷ d ∷ []

abbrev pub patterns_2_4 : List (List Bool)
patterns_2_4 =
    pattern false false true true
    ∷ pattern false true false true
    ∷ pattern false true true false
    ∷ pattern true false false true
    ∷ pattern true false true false
    ∷ pattern true true false false
    ∷ []

abbrev pub shape : ℕ → ℕ → ℕ → List ℕ
shape a b c = a ∷ b ∷ c ∷ []

abbrev pub shapes_3_5 : List (List ℕ)
shapes_3_5 = shape 1 1 3 ∷ shape 1 2 2 ∷ shape 1 3 1 ∷ shape 2 1 2 ∷ shape 2 2 1 ∷ shape 3 1 1 ∷ []

-- i, i+1, .., n of them
abbrev pub from : ℕ → ℕ → List ℕ
from i zero = []
from i (suc n) = i ∷ from (suc i) n

pub record Example : Type 0 where
  -- patterns, shapes and signs by themselves
  pub patterns_read : map (pattern_of 2 4) (from 0 6) ≡ patterns_2_4
  pub patterns_indexed : map pattern_index patterns_2_4 ≡ from 0 6
  pub shapes_read : map (shape_of 3 5) (from 0 6) ≡ shapes_3_5
  pub shapes_indexed : map shape_index shapes_3_5 ≡ from 0 6
  pub signs_indexed : sign_index (true ∷ false ∷ false ∷ []) ≡ 4
  pub signs_read : signs_of 3 4 ≡ true ∷ false ∷ false ∷ []
  -- all points of length 3 and radius 2
  pub read : map (product_point S 3 2) (from 0 18) ≡ points_3_2
  pub indexed : map (product_index S) points_3_2 ≡ from 0 18
  -- points of length 4 and radius 5, where patterns, shapes and signs all vary: 360 points, with 4, 3, 2 and 1
  -- nonzero coordinates from 0, 64, 256 and 352 on
  pub index_18 : product_index S (pos 1 ∷ pos 1 ∷ neg_ℤ (pos 2) ∷ pos 1 ∷ []) ≡ 18
  pub index_90 : product_index S (pos 0 ∷ pos 2 ∷ neg_ℤ (pos 1) ∷ pos 2 ∷ []) ≡ 90
  pub index_133 : product_index S (neg_ℤ (pos 1) ∷ pos 0 ∷ pos 3 ∷ neg_ℤ (pos 1) ∷ []) ≡ 133
  pub index_202 : product_index S (pos 3 ∷ neg_ℤ (pos 1) ∷ pos 0 ∷ pos 1 ∷ []) ≡ 202
  pub index_317 : product_index S (pos 4 ∷ pos 0 ∷ pos 0 ∷ neg_ℤ (pos 1) ∷ []) ≡ 317
  pub index_355 : product_index S (pos 0 ∷ pos 0 ∷ neg_ℤ (pos 5) ∷ pos 0 ∷ []) ≡ 355
  pub point_133 : product_point S 4 5 133 ≡ neg_ℤ (pos 1) ∷ pos 0 ∷ pos 3 ∷ neg_ℤ (pos 1) ∷ []
  pub point_317 : product_point S 4 5 317 ≡ pos 4 ∷ pos 0 ∷ pos 0 ∷ neg_ℤ (pos 1) ∷ []
  -- at radius 0 the one point is all zeros
  pub index_none : product_index S (pos 0 ∷ pos 0 ∷ []) ≡ 0
  pub point_none : product_point S 2 0 0 ≡ pos 0 ∷ pos 0 ∷ []
  -- 5 and 7 differ in bit 1, that of the first coordinate
  pub turned : flipped 5 7 (triple (pos 1) (pos 0) (neg_ℤ (pos 1))) ≡ triple (neg_ℤ (pos 1)) (pos 0) (neg_ℤ (pos 1))
