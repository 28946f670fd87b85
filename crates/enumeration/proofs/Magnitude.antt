-- The magnitude enumeration is lawful: it numbers the points of every shell, for all lengths and radii. Its laws are
-- those of the first coordinate, one coordinate after the other.
use Prim.Native.Nat.{ℕ, zero, suc, ◌+◌, ◌-◌, ◌<◌}
use mathlib.Core.Path.{◌≡◌, refl, ap, ◌∙◌}
use mathlib.Core.List.{List, [], ◌∷◌}
use native.Mathlib.Omega.{arith}
use lib.IntN.{ℤ, nat_abs}
use lib.ListN.{length}
use Rattle.counts.specs.Counts.{N}
use Rattle.counts.proofs.Growth.{one_point}
use Rattle.enumeration.specs.Enumeration.{Lawful, Full}
use Rattle.enumeration.specs.Enumerations.{magnitude}
use Rattle.enumeration.specs.Magnitude.{offset, magnitude_index, first_value, magnitude_point}
use Rattle.enumeration.specs.Point.{OnShell, radius_of}
use Rattle.enumeration.proofs.Values.{IsValue, value_read, value_found, value_below}

-- the point of an index, by its first coordinate
pub point_first : (l k n left : ℕ) (i : ℤ) → IsValue l k n i left → magnitude_point (suc l) k n ≡ i ∷ magnitude_point l (k - nat_abs i) left
unfolding magnitude_point
point_first l k n left i v =
    let is : n - offset i (suc l) k ≡ left = omega (arith, v.offset_and_left) in
    rw (value_found l k n left i v, is)

-- the index of a point, by its first coordinate
module _ (i : ℤ) (x : List ℤ) (below : magnitude_index x < N (length x) (radius_of x)) where
  index_value : IsValue (length x) (nat_abs i + radius_of x) (magnitude_index (i ∷ x)) i (magnitude_index x)
  unfolding magnitude_index
  index_value =
      let rest : nat_abs i + radius_of x - nat_abs i ≡ radius_of x = omega arith in
      record { magnitude_to = omega arith; left_below = rw rest below; offset_and_left = refl }

pub index_below : (x : List ℤ) → magnitude_index x < N (length x) (radius_of x)
unfolding magnitude_index N
index_below [] = omega arith
index_below (i ∷ x) =
    value_below (length x) (nat_abs i + radius_of x) (magnitude_index (i ∷ x)) (magnitude_index x) i (index_value i x (index_below x))

back : (x : List ℤ) → magnitude_point (length x) (radius_of x) (magnitude_index x) ≡ x
unfolding magnitude_point
back [] = refl
back (i ∷ x) =
    let rest : nat_abs i + radius_of x - nat_abs i ≡ radius_of x = omega arith in
    point_first (length x) (nat_abs i + radius_of x) (magnitude_index (i ∷ x)) (magnitude_index x) i (index_value i x (index_below x))
    ∙ rw rest (ap (λ (y : List ℤ). i ∷ y) (back x))

-- the n-th point is on its shell, and its index is n
pub record IsNumbered (l k n : ℕ) (x : List ℤ) : Type 0 where
  pub on_shell : OnShell l k x
  pub of_index : magnitude_index x ≡ n

none_left : (k n : ℕ) → n < N 0 k → IsNumbered 0 k n []
unfolding magnitude_index N
none_left zero n h = record { on_shell = record { of_length = refl; of_radius = refl }; of_index = omega arith }
none_left (suc k) n h = absurd (omega arith)

with_first : (l k n left : ℕ) (i : ℤ) (x : List ℤ) → IsValue l k n i left → IsNumbered l (k - nat_abs i) left x → IsNumbered (suc l) k n (i ∷ x)
unfolding magnitude_index
with_first l k n left i x v r =
    let whole : nat_abs i + radius_of x ≡ k = omega (arith, r.on_shell.of_radius, v.magnitude_to) in
    record {
      on_shell = record { of_length = ap suc r.on_shell.of_length; of_radius = whole };
      of_index = rw (whole, r.on_shell.of_length, r.of_index) v.offset_and_left;
    }

numbered : (l k n : ℕ) → n < N l k → IsNumbered l k n (magnitude_point l k n)
unfolding magnitude_point
numbered zero k n h = none_left k n h
numbered (suc l) k n h =
    let i = first_value l k n in
    let left = n - offset i (suc l) k in
    let v = value_read l k n h in
    with_first l k n left i (magnitude_point l (k - nat_abs i) left) v (numbered l (k - nat_abs i) left v.left_below)

-- so it is lawful, and every index below N names a point
pub magnitude_lawful : Lawful magnitude
magnitude_lawful =
    record {
      index_below = λ l k x on. rw (← on.of_length, ← on.of_radius) (index_below x);
      index_names_lem = λ l k x on. refl;
      point_of_index = λ l k x on. rw (← on.of_length, ← on.of_radius) (back x);
      point_on_shell = λ l k n below named. (numbered l k n below).on_shell;
      index_of_point = λ l k n below named. (numbered l k n below).of_index;
      one_at_0 = one_point;
    }

pub magnitude_full : Full magnitude
magnitude_full l k n below = refl
