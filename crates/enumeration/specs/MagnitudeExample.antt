-- The magnitude enumeration in small: all 18 points of length 3 and radius 2 in the order of their indices, with
-- (1,0,-1) at 9; and offsets by both equations. proofs/MagnitudeExample.antt computes every line.
use Rattle.std.specs.Prelude.{◌≡◌, List, [], ◌∷◌, map, ℤ, pos, neg_ℤ}
use Rattle.enumeration.specs.Example.{triple, from}
use Rattle.enumeration.specs.Magnitude.{offset, offset_sum, magnitude_index, magnitude_point}

-- the first coordinate is 0 from 0 on, 1 from 8 on, -1 from 12 on, 2 at 16 and -2 at 17
abbrev pub ordered_3_2 : List (List ℤ)
ordered_3_2 =
    triple (pos 0) (pos 0) (pos 2)
    ∷ triple (pos 0) (pos 0) (neg_ℤ (pos 2))
    ∷ triple (pos 0) (pos 1) (pos 1)
    ∷ triple (pos 0) (pos 1) (neg_ℤ (pos 1))
    ∷ triple (pos 0) (neg_ℤ (pos 1)) (pos 1)
    ∷ triple (pos 0) (neg_ℤ (pos 1)) (neg_ℤ (pos 1))
    ∷ triple (pos 0) (pos 2) (pos 0)
    ∷ triple (pos 0) (neg_ℤ (pos 2)) (pos 0)
    ∷ triple (pos 1) (pos 0) (pos 1)
    ∷ triple (pos 1) (pos 0) (neg_ℤ (pos 1))
    ∷ triple (pos 1) (pos 1) (pos 0)
    ∷ triple (pos 1) (neg_ℤ (pos 1)) (pos 0)
    ∷ triple (neg_ℤ (pos 1)) (pos 0) (pos 1)
    ∷ triple (neg_ℤ (pos 1)) (pos 0) (neg_ℤ (pos 1))
    ∷ triple (neg_ℤ (pos 1)) (pos 1) (pos 0)
    ∷ triple (neg_ℤ (pos 1)) (neg_ℤ (pos 1)) (pos 0)
    ∷ triple (pos 2) (pos 0) (pos 0)
    ∷ triple (neg_ℤ (pos 2)) (pos 0) (pos 0)
    ∷ []

-- the values of a coordinate up to magnitude 4, in order
abbrev pub values_4 : List ℤ
values_4 =
    pos 0
    ∷ pos 1
    ∷ neg_ℤ (pos 1)
    ∷ pos 2
    ∷ neg_ℤ (pos 2)
    ∷ pos 3
    ∷ neg_ℤ (pos 3)
    ∷ pos 4
    ∷ neg_ℤ (pos 4)
    ∷ []

pub record MagnitudeExample : Type 0 where
  -- all points of length 3 and radius 2
  pub read : map (magnitude_point 3 2) (from 0 18) ≡ ordered_3_2
  pub indexed : map magnitude_index ordered_3_2 ≡ from 0 18
  -- the worked case of the paper (eq. 8): (1,0,-1) is 9
  pub index_9 : magnitude_index (triple (pos 1) (pos 0) (neg_ℤ (pos 1))) ≡ 9
  -- where each value begins in length 3 and radius 4, 66 points: by equation 6 and by equation 5
  pub offsets : map (λ (i : ℤ). offset i 3 4) values_4 ≡ 0 ∷ 16 ∷ 28 ∷ 40 ∷ 48 ∷ 56 ∷ 60 ∷ 64 ∷ 65 ∷ []
  pub offset_sums : map (λ (i : ℤ). offset_sum i 3 4) values_4 ≡ 0 ∷ 16 ∷ 28 ∷ 40 ∷ 48 ∷ 56 ∷ 60 ∷ 64 ∷ 65 ∷ []
  -- points of length 4 and radius 5, of which there are 360
  pub index_126 : magnitude_index (pos 1 ∷ pos 1 ∷ neg_ℤ (pos 2) ∷ pos 1 ∷ []) ≡ 126
  pub index_179 : magnitude_index (neg_ℤ (pos 1) ∷ pos 0 ∷ pos 3 ∷ neg_ℤ (pos 1) ∷ []) ≡ 179
  pub index_331 : magnitude_index (neg_ℤ (pos 3) ∷ pos 0 ∷ pos 1 ∷ neg_ℤ (pos 1) ∷ []) ≡ 331
  pub point_179 : magnitude_point 4 5 179 ≡ neg_ℤ (pos 1) ∷ pos 0 ∷ pos 3 ∷ neg_ℤ (pos 1) ∷ []
  pub point_331 : magnitude_point 4 5 331 ≡ neg_ℤ (pos 3) ∷ pos 0 ∷ pos 1 ∷ neg_ℤ (pos 1) ∷ []
  -- at radius 0 the one point is all zeros
  pub index_none : magnitude_index (pos 0 ∷ pos 0 ∷ []) ≡ 0
  pub point_none : magnitude_point 2 0 0 ≡ pos 0 ∷ pos 0 ∷ []
