-- The product-product enumeration in small: the 20 indices of length 2 and radius 4, 16 of which name a point; and what
-- each selector selects. The 16 indices with two nonzero coordinates come first: three shapes, 1 3, 2 2 and 3 1, in a
-- field of two bits, so that 12 to 15 name none. proofs/SelectedExample.antt computes every line.
use Rattle.std.specs.Prelude.{◌≡◌, Bool, true, false, List, [], ◌∷◌, ◌++◌, map, eqb, ℤ, pos, neg_ℤ, replicate}
use Rattle.enumeration.specs.Enumerations.{selected_by, selects_none, product, magnitude, product_product}
use Rattle.enumeration.specs.Example.{from}
use Rattle.enumeration.specs.Signs.{flipped, signs_lowest}

abbrev pair : ℤ → ℤ → List ℤ
pair a b = a ∷ b ∷ []

-- the points of the indices 0 to 11, and of 16 to 19
abbrev pub two_nonzero : List (List ℤ)
two_nonzero =
    pair (pos 1) (pos 3)
    ∷ pair (pos 1) (neg_ℤ (pos 3))
    ∷ pair (neg_ℤ (pos 1)) (pos 3)
    ∷ pair (neg_ℤ (pos 1)) (neg_ℤ (pos 3))
    ∷ pair (pos 2) (pos 2)
    ∷ pair (pos 2) (neg_ℤ (pos 2))
    ∷ pair (neg_ℤ (pos 2)) (pos 2)
    ∷ pair (neg_ℤ (pos 2)) (neg_ℤ (pos 2))
    ∷ pair (pos 3) (pos 1)
    ∷ pair (pos 3) (neg_ℤ (pos 1))
    ∷ pair (neg_ℤ (pos 3)) (pos 1)
    ∷ pair (neg_ℤ (pos 3)) (neg_ℤ (pos 1))
    ∷ []

abbrev pub one_nonzero : List (List ℤ)
one_nonzero =
    pair (pos 0) (pos 4)
    ∷ pair (pos 0) (neg_ℤ (pos 4))
    ∷ pair (pos 4) (pos 0)
    ∷ pair (neg_ℤ (pos 4)) (pos 0)
    ∷ []

abbrev pub named_2_4 : List Bool
named_2_4 = replicate 12 true ++ replicate 4 false ++ replicate 4 true

pub record SelectedExample : Type 0 where
  -- all indices of length 2 and radius 4
  pub total_2_4 : product_product.total 2 4 ≡ 20
  pub named : map (product_product.names 2 4) (from 0 20) ≡ named_2_4
  pub read_two : map (product_product.point 2 4) (from 0 12) ≡ two_nonzero
  pub read_one : map (product_product.point 2 4) (from 16 4) ≡ one_nonzero
  pub indexed_two : map product_product.index two_nonzero ≡ from 0 12
  pub indexed_one : map product_product.index one_nonzero ≡ from 16 4
  -- points of length 4 and radius 5, where 4, 6, 4 and 1 shapes have fields of 4, 8, 4 and 1: 424 indices, with 4, 3, 2
  -- and 1 nonzero coordinates from 0, 64, 320 and 416 on
  pub total_4_5 : product_product.total 4 5 ≡ 424
  pub index_18 : product_product.index (pos 1 ∷ pos 1 ∷ neg_ℤ (pos 2) ∷ pos 1 ∷ []) ≡ 18
  pub index_90 : product_product.index (pos 0 ∷ pos 2 ∷ neg_ℤ (pos 1) ∷ pos 2 ∷ []) ≡ 90
  pub index_149 : product_product.index (neg_ℤ (pos 1) ∷ pos 0 ∷ pos 3 ∷ neg_ℤ (pos 1) ∷ []) ≡ 149
  pub index_381 : product_product.index (pos 4 ∷ pos 0 ∷ pos 0 ∷ neg_ℤ (pos 1) ∷ []) ≡ 381
  pub index_419 : product_product.index (pos 0 ∷ pos 0 ∷ neg_ℤ (pos 5) ∷ pos 0 ∷ []) ≡ 419
  pub point_149 : product_product.point 4 5 149 ≡ neg_ℤ (pos 1) ∷ pos 0 ∷ pos 3 ∷ neg_ℤ (pos 1) ∷ []
  pub point_381 : product_product.point 4 5 381 ≡ pos 4 ∷ pos 0 ∷ pos 0 ∷ neg_ℤ (pos 1) ∷ []
  -- at radius 0 the one point is all zeros
  pub total_none : product_product.total 2 0 ≡ 1
  pub named_none : product_product.names 2 0 0 ≡ true
  pub index_none : product_product.index (pos 0 ∷ pos 0 ∷ []) ≡ 0
  pub point_none : product_product.point 2 0 0 ≡ pos 0 ∷ pos 0 ∷ []
  -- the product enumeration has no such index: of length 2 and radius 4 it has 16, and 12 is the first with one nonzero
  -- coordinate
  pub total_exact : product.total 2 4 ≡ 16
  pub named_exact : map (product.names 2 4) (from 0 16) ≡ replicate 16 true
  pub point_exact : product.point 2 4 12 ≡ pair (pos 0) (pos 4)
  -- what a selector selects; from 3 on nothing
  pub selector_0 : selected_by 0 ≡ product
  pub selector_1 : selected_by 1 ≡ magnitude
  pub selector_2 : selected_by 2 ≡ product_product
  pub selects_some : selects_none 2 ≡ false
  pub selects_none_lem : selects_none 3 ≡ true
  -- index 2 of length 3 and radius 2 with its bit 1 changed, 0: the point with its first nonzero coordinate negated is
  -- that of 0 exactly where that bit is a sign
  pub signs_lowest_0 : eqb (product.index (flipped 2 0 (product.point 3 2 2))) 0 ≡ signs_lowest 0
  pub signs_elsewhere : eqb (magnitude.index (flipped 2 0 (magnitude.point 3 2 2))) 0 ≡ signs_lowest 1
  pub signs_lowest_2 : eqb (product_product.index (flipped 2 0 (product_product.point 3 2 2))) 0 ≡ signs_lowest 2
