-- The parts of a point, and a point by its parts, for all lengths and radii:
--     pattern_part, shape_part, sign_part     each part of a point is below its count
--     parts_back                              the point is put together again from its parts
--     IsOf, from_parts                        a point put together from parts below their counts has those parts
use Prim.Native.Nat.{ℕ, ◌+◌, ◌*◌, ◌%◌, ◌^◌, ◌≤◌, ◌<◌}
use mathlib.Core.Path.{◌≡◌, sym, ap, ap₂, ◌∙◌}
use mathlib.Core.List.{List}
use native.Mathlib.Omega.{arith}
use lib.IntN.{ℤ, nat_abs}
use lib.ListN.{length}
use Rattle.counts.specs.Counts.{D, S, B, most_nonzero}
use Rattle.enumeration.specs.Point.{sum_of, radius_of, is_negative, pattern_in, nonzeros, nonzeros_in, shape_in, signs_in}
use Rattle.enumeration.specs.Product.{pattern_index, shape_index, sign_index}
use Rattle.enumeration.specs.Reading.{pattern_of, shape_of, signs_of, sign_all, spread, point_from}
use Rattle.enumeration.proofs.Patterns.{pattern_read, pattern_below, pattern_back}
use Rattle.enumeration.proofs.Shapes.{shape_read, shape_below, shape_back}
use Rattle.enumeration.proofs.SignBits.{signs_length, signs_read, sign_below, signs_back}
use Rattle.enumeration.proofs.Spread.{resigned, rebuilt, shape_positive, shape_sum, support_many, pattern_length, nonzeros_most, positive_most, made}

module _ (x : List ℤ) where
  pub pattern_part : pattern_index (pattern_in x) < D (nonzeros_in x) (length x)
  pattern_part = rw pattern_length at (pattern_below (pattern_in x))

  pub shape_part : shape_index (shape_in x) < S (nonzeros_in x) (radius_of x)
  shape_part = rw (support_many nat_abs x, shape_sum x) at (shape_below (shape_in x) (shape_positive x))

  pub sign_part : sign_index (signs_in x) < B (nonzeros_in x)
  unfolding B
  sign_part = rw (support_many is_negative x) at (sign_below (signs_in x))

  pub nonzeros_part : nonzeros_in x ≤ most_nonzero (length x) (radius_of x)
  nonzeros_part =
      let a : nonzeros_in x ≤ length x = omega (arith, nonzeros_most (pattern_in x), pattern_length x) in
      let b : nonzeros_in x ≤ radius_of x = omega (arith, positive_most (shape_in x) (shape_positive x), support_many nat_abs x, shape_sum x) in
      omega arith

  -- the signs are read whatever stands above them
  pub parts_back : (a : ℕ)
      → point_from (nonzeros_in x) (length x) (radius_of x) (pattern_index (pattern_in x)) (shape_index (shape_in x))
      (a * B (nonzeros_in x) + sign_index (signs_in x))
      ≡ x
  unfolding point_from B
  parts_back a =
      let p : pattern_of (nonzeros_in x) (length x) (pattern_index (pattern_in x)) ≡ pattern_in x =
      rw pattern_length at (pattern_back (pattern_in x)) in
      let i : shape_of (nonzeros_in x) (radius_of x) (shape_index (shape_in x)) ≡ shape_in x =
      rw (support_many nat_abs x, shape_sum x) at (shape_back (shape_in x) (shape_positive x)) in
      let b : signs_of (nonzeros_in x) (a * 2 ^ nonzeros_in x + sign_index (signs_in x)) ≡ signs_in x =
      rw (support_many is_negative x) at (signs_back (signs_in x) a) in
      ap₂ spread p (ap₂ sign_all b i ∙ resigned _) ∙ rebuilt x

-- y has these parts
pub record IsOf (s l k pattern shape sign : ℕ) (y : List ℤ) : Type 0 where
  pub of_nonzeros : nonzeros_in y ≡ s
  pub of_length : length y ≡ l
  pub of_radius : radius_of y ≡ k
  pub of_pattern_lem : pattern_index (pattern_in y) ≡ pattern
  pub of_shape : shape_index (shape_in y) ≡ shape
  pub of_sign : sign_index (signs_in y) ≡ sign

pub from_parts : (s l k pattern shape signs : ℕ) → pattern < D s l → shape < S s k
    → IsOf s l k pattern shape (signs % 2 ^ s) (point_from s l k pattern shape signs)
unfolding point_from
from_parts s l k pattern shape signs h q =
    let p = pattern_read s l pattern h in
    let i = shape_read s k shape q in
    let y = point_from s l k pattern shape signs in
    let m =
    made (pattern_of s l pattern) (signs_of s signs) (shape_of s k shape)
    (signs_length s signs ∙ sym p.of_nonzeros)
    (i.of_length ∙ sym p.of_nonzeros)
    i.positive in
    record {
      of_nonzeros = ap nonzeros m.same_pattern ∙ p.of_nonzeros;
      of_length = sym (pattern_length y) ∙ ap length m.same_pattern ∙ p.of_length;
      of_radius = sym (shape_sum y) ∙ ap sum_of m.same_shape ∙ i.of_sum;
      of_pattern_lem = ap pattern_index m.same_pattern ∙ p.of_index;
      of_shape = ap shape_index m.same_shape ∙ i.of_index;
      of_sign = ap sign_index m.same_signs ∙ signs_read s signs;
    }
