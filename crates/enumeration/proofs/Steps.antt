-- One coordinate at a time: how a point's pattern and signs grow by a coordinate in front, and how a point is
-- written from its parts, the first coordinate first.
use Prim.Native.Nat.{ℕ, suc, ◌+◌, ◌-◌, ◌*◌, ◌≤◌, ◌<◌}
use mathlib.Core.Path.{◌≡◌, refl}
use mathlib.Core.List.{List, [], ◌∷◌}
use mathlib.Core.Bool.{true}
use native.Mathlib.Omega.{arith}
use lib.Dec.{eqb}
use lib.IntN.{ℤ, pos}
use lib.ListN.{length}
use Rattle.counts.specs.Counts.{D, B}
use Rattle.enumeration.specs.Point.{is_nonzero, is_negative, signed, pattern_in, nonzeros_in, signs_in}
use Rattle.enumeration.specs.Product.{pattern_index, sign_bit, sign_index}
use Rattle.enumeration.specs.Reading.{bit, pattern_of, first_magnitude, shape_left, shape_of, signs_of, point_from}
use Rattle.enumeration.proofs.Patterns.{pattern_zero, pattern_nonzero}
use Rattle.enumeration.proofs.Spread.{support_many, pattern_length}

-- a nonzero coordinate c in front of x
module _ (c : ℤ) (x : List ℤ) (h : is_nonzero c ≡ true) where
  pub nonzeros_grow : nonzeros_in (c ∷ x) ≡ suc (nonzeros_in x)
  nonzeros_grow = rw h

  pub pattern_grows : pattern_index (pattern_in (c ∷ x)) ≡ D (suc (nonzeros_in x)) (length x) + pattern_index (pattern_in x)
  unfolding pattern_index
  pattern_grows = rw (h, pattern_length x)

  pub sign_grows : sign_index (signs_in (c ∷ x)) ≡ sign_bit (is_negative c) * B (nonzeros_in x) + sign_index (signs_in x)
  unfolding sign_index B
  sign_grows = rw (h, support_many is_negative x)

-- a point of length l+1 by its parts
module _ (s l k pattern shape signs : ℕ) where
  pub write_none : point_from s 0 k pattern shape signs ≡ []
  unfolding point_from pattern_of
  write_none = refl

  pub write_zero : pattern < D s l → point_from s (suc l) k pattern shape signs ≡ pos 0 ∷ point_from s l k pattern shape signs
  unfolding point_from
  write_zero h = rw (pattern_zero s l pattern h)

  pub write_nonzero : D (suc s) l ≤ pattern
      → point_from (suc s) (suc l) k pattern shape signs
      ≡ signed (eqb (bit s signs) 1) (first_magnitude s k shape)
      ∷ point_from s l (k - first_magnitude s k shape) (pattern - D (suc s) l) (shape_left s k shape) signs
  unfolding point_from signs_of shape_of
  write_nonzero h = let less : suc s - 1 ≡ s = omega arith in rw (pattern_nonzero (suc s) l pattern h, less)
