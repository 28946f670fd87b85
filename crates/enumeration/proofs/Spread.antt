-- A point is its pattern, its shape and its signs, and is put together from them:
--     resigned, rebuilt                      a point's signs and shape give its nonzero coordinates, and these its
--                                            coordinates
--     shape_positive, shape_sum              a point's shape is above 0 and sums to its radius
--     support_many, pattern_length           as many magnitudes, and signs, as nonzero coordinates; a pattern as
--                                            long as the point
--     nonzeros_most, positive_most           no more nonzero coordinates than coordinates, and no more than they sum
--                                            to
--     Made, made                             what is put together from s signs and a shape of s magnitudes above 0
use Prim.Native.Nat.{ℕ, zero, suc, ◌+◌, ◌≤◌}
use mathlib.Core.Path.{◌≡◌, refl, ap, ap₂}
use mathlib.Core.List.{List, [], ◌∷◌, map}
use mathlib.Core.Bool.{Bool, true, false}
use native.Mathlib.Omega.{arith}
use lib.IntN.{ℤ, pos, negsuc, nat_abs}
use lib.ListN.{length}
use Rattle.enumeration.specs.Point.{sum_of, radius_of, is_nonzero, is_negative, signed, pattern_in, nonzeros, nonzeros_in, support, shape_in, signs_in}
use Rattle.enumeration.specs.Reading.{sign_all, spread}
use Rattle.enumeration.proofs.Shapes.{Positive}

pub resigned : (cs : List ℤ) → sign_all (map is_negative cs) (map nat_abs cs) ≡ cs
resigned [] = refl
resigned (pos i ∷ cs) = ap (λ (x : List ℤ). pos i ∷ x) (resigned cs)
resigned (negsuc i ∷ cs) = ap (λ (x : List ℤ). negsuc i ∷ x) (resigned cs)

pub rebuilt : (x : List ℤ) → spread (pattern_in x) (support x) ≡ x
rebuilt [] = refl
rebuilt (pos zero ∷ x) = ap (λ (y : List ℤ). pos 0 ∷ y) (rebuilt x)
rebuilt (pos (suc i) ∷ x) = ap (λ (y : List ℤ). pos (suc i) ∷ y) (rebuilt x)
rebuilt (negsuc i ∷ x) = ap (λ (y : List ℤ). negsuc i ∷ y) (rebuilt x)

pub shape_positive : (x : List ℤ) → Positive (shape_in x)
shape_positive [] = tt
shape_positive (pos zero ∷ x) = shape_positive x
shape_positive (pos (suc i) ∷ x) = (omega arith, shape_positive x)
shape_positive (negsuc i ∷ x) = (omega arith, shape_positive x)

pub shape_sum : (x : List ℤ) → sum_of (shape_in x) ≡ radius_of x
shape_sum [] = refl
shape_sum (pos zero ∷ x) = omega (arith, shape_sum x)
shape_sum (pos (suc i) ∷ x) = ap (λ (n : ℕ). suc i + n) (shape_sum x)
shape_sum (negsuc i ∷ x) = ap (λ (n : ℕ). suc i + n) (shape_sum x)

-- as many magnitudes, and as many signs, as nonzero coordinates
pub support_many : {A : Type 0} (f : ℤ → A) (x : List ℤ) → length (map f (support x)) ≡ nonzeros_in x
support_many f [] = refl
support_many f (pos zero ∷ x) = support_many f x
support_many f (pos (suc i) ∷ x) = ap suc (support_many f x)
support_many f (negsuc i ∷ x) = ap suc (support_many f x)

pub pattern_length : (x : List ℤ) → length (pattern_in x) ≡ length x
pattern_length [] = refl
pattern_length (c ∷ x) = ap suc (pattern_length x)

pub nonzeros_most : (p : List Bool) → nonzeros p ≤ length p
nonzeros_most [] = omega arith
nonzeros_most (true ∷ p) = omega (arith, nonzeros_most p)
nonzeros_most (false ∷ p) = omega (arith, nonzeros_most p)

pub positive_most : (is : List ℕ) → Positive is → length is ≤ sum_of is
positive_most [] p = omega arith
positive_most (i ∷ is) p = omega (arith, p.0, positive_most is p.1)

-- the coordinates of a point that was put together
pub record Made (p : List Bool) (bs : List Bool) (is : List ℕ) (x : List ℤ) : Type 0 where
  pub same_pattern : pattern_in x ≡ p
  pub same_shape : shape_in x ≡ is
  pub same_signs : signs_in x ≡ bs

-- a sign and a magnitude above 0 are read back from the coordinate
signed_nonzero : (b : Bool) (i : ℕ) → is_nonzero (signed b (suc i)) ≡ true
signed_nonzero false i = refl
signed_nonzero true i = refl

pub signed_magnitude : (b : Bool) (i : ℕ) → nat_abs (signed b i) ≡ i
signed_magnitude false zero = refl
signed_magnitude false (suc i) = refl
signed_magnitude true zero = refl
signed_magnitude true (suc i) = refl

signed_sign : (b : Bool) (i : ℕ) → is_negative (signed b (suc i)) ≡ b
signed_sign false i = refl
signed_sign true i = refl

more : (b : Bool) (i : ℕ) (p bs : List Bool) (is : List ℕ) (x : List ℤ) → Made p bs is x
    → Made (true ∷ p) (b ∷ bs) (suc i ∷ is) (signed b (suc i) ∷ x)
more b i p bs is x m =
    let n = signed_nonzero b i in
    record {
      same_pattern = ap₂ ◌∷◌ n m.same_pattern;
      same_shape = rw n (ap₂ ◌∷◌ (signed_magnitude b (suc i)) m.same_shape);
      same_signs = rw n (ap₂ ◌∷◌ (signed_sign b i) m.same_signs);
    }

pub made : (p bs : List Bool) (is : List ℕ) → length bs ≡ nonzeros p → length is ≡ nonzeros p → Positive is
    → Made p bs is (spread p (sign_all bs is))
made [] [] [] e f q = record { same_pattern = refl; same_shape = refl; same_signs = refl }
made [] [] (i ∷ is) e f q = absurd (omega arith)
made [] (b ∷ bs) is e f q = absurd (omega arith)
made (false ∷ p) bs is e f q =
    let m = made p bs is e f q in
    record {
      same_pattern = ap (λ (r : List Bool). false ∷ r) m.same_pattern;
      same_shape = m.same_shape;
      same_signs = m.same_signs;
    }
made (true ∷ p) [] is e f q = absurd (omega arith)
made (true ∷ p) (b ∷ bs) [] e f q = absurd (omega arith)
made (true ∷ p) (b ∷ bs) (zero ∷ is) e f q = absurd (omega (arith, q.0))
made (true ∷ p) (b ∷ bs) (suc i ∷ is) e f q =
    more b i p bs is (spread p (sign_all bs is)) (made p bs is (omega arith) (omega arith) q.1)
