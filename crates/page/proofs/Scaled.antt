-- A coordinate of magnitude at most 32 times a step: the product fits an i32 and stays below 2^24. What a place
-- shows has no larger coordinate.
use Prim.Native.Nat.{ℕ, zero, suc, ◌*◌, ◌^◌, ◌≤◌, ◌<◌}
use mathlib.Core.List.{List, [], ◌∷◌, ◌++◌}
use mathlib.Core.Path.{◌≡◌, refl, ap, ◌∙◌}
use native.Mathlib.Nat.{mul-le-mul, le_of_lt, lt_of_le_of_lt}
use native.Mathlib.Omega.{arith}
use lib.Dec.{lit<}
use lib.IntN.{ℤ, pos, negsuc, nat_abs, neg_ℤ, ◌*ℤ◌, pos-*ℤ-pos, negsuc-*ℤ-pos}
use lib.ListN.{length, get_or, replicate, length-replicate, get_or-append}
use mir.Facts.{to_z-of_z, to_z_pos}
use mir.Syntax.{w32}
use mir.Val.{SFits, to_z, of_z}
use Rattle.enumeration.specs.Enumeration.{Lawful}
use Rattle.enumeration.specs.Point.{OnShell, radius_of}
use Rattle.tables.specs.Row.{length_of, enumeration_of}
use Rattle.rules.specs.Judging.{shown, point_named, NamesPoint, Shows}
use Rattle.rules.specs.declared.Judged.{Judged}
use Rattle.rules.specs.declared.Judged.TheVariants as judged

-- what a magnitude says of the range
negated_fits : (n : ℕ) → n < 2 ^ 24 → SFits w32 (neg_ℤ (pos n)) × (nat_abs (neg_ℤ (pos n)) < 2 ^ 24)
negated_fits zero h = (record { sfits = lit< tt }, h)
negated_fits (suc n) h = (record { sfits = omega arith }, h)

product_bound : (m s : ℕ) → m ≤ 32 → s < 65536 → m * s < 2 ^ 24
product_bound m s h g = lt_of_le_of_lt (mul-le-mul h (le_of_lt g)) (lit< tt)

pub product_fits : (z : ℤ) (s : ℕ) → nat_abs z ≤ 32 → s < 65536 → SFits w32 (z *ℤ pos s) × (nat_abs (z *ℤ pos s) < 2 ^ 24)
product_fits (pos m) s h g = let small = product_bound m s h g in rw (pos-*ℤ-pos m s) (record { sfits = omega arith }, small)
product_fits (negsuc m) s h g = rw (negsuc-*ℤ-pos m s) (negated_fits (suc m * s) (product_bound (suc m) s h g))

coordinate_to : (x : List ℤ) (i : ℕ) → nat_abs (get_or x i (pos 0)) ≤ radius_of x
coordinate_to [] i = omega arith
coordinate_to (c ∷ x) zero = omega arith
coordinate_to (c ∷ x) (suc i) = omega (arith, coordinate_to x i)

-- the product as the code works it out, from the bits of the coordinate
pub product_kept : (z : ℤ) (s : ℕ) → SFits w32 z → s < 65536 → to_z w32 (of_z w32 z) *ℤ to_z w32 s ≡ z *ℤ pos s
product_kept z s f g = let small : s < 2 ^ 31 = omega arith in rw (to_z-of_z {w = w32} f, to_z_pos w32 small) refl

-- a coordinate of what a place shows
small_fits : (z : ℤ) → nat_abs z ≤ 32 → SFits w32 z
small_fits (pos m) h = record { sfits = omega arith }
small_fits (negsuc m) h = record { sfits = omega arith }

zeros_small : (n i : ℕ) → nat_abs (get_or (replicate n (pos 0)) i (pos 0)) ≤ 32
zeros_small zero i = omega arith
zeros_small (suc n) zero = omega arith
zeros_small (suc n) (suc i) = zeros_small n i

module _ (row : List ℕ) (lawful : Lawful (enumeration_of row)) where
  on_shell : (k n : ℕ) → NamesPoint row k n → OnShell (length_of row) k (point_named row k n)
  on_shell k n names = lawful.point_on_shell (length_of row) k n names.below names.named

  shown_length : (j : Judged) → Shows row j → length (shown row j) ≡ length_of row
  shown_length (judged.Sound k n) shows = (on_shell k n shows).of_length
  shown_length (judged.Mended k n d) shows = (on_shell k n shows).of_length
  shown_length judged.Missing shows = length-replicate (length_of row) (pos 0)
  shown_length judged.Contested shows = length-replicate (length_of row) (pos 0)
  shown_length (judged.Unreadable why) shows = length-replicate (length_of row) (pos 0)

  named_small : (k n i : ℕ) → NamesPoint row k n → nat_abs (get_or (point_named row k n) i (pos 0)) ≤ 32
  named_small k n i names =
      omega (arith, coordinate_to (point_named row k n) i, (on_shell k n names).of_radius, names.usable.radius_to)

  pub small : (j : Judged) → Shows row j → (i : ℕ) → nat_abs (get_or (shown row j) i (pos 0)) ≤ 32
  small (judged.Sound k n) shows i = named_small k n i shows
  small (judged.Mended k n d) shows i = named_small k n i shows
  small judged.Missing shows i = zeros_small (length_of row) i
  small judged.Contested shows i = zeros_small (length_of row) i
  small (judged.Unreadable why) shows i = zeros_small (length_of row) i

  -- read from a buffer that begins with what is shown
  pub coordinate_read : (j : Judged) → Shows row j → (i : ℕ) → i < length_of row → (written rest : List ℤ) → written ≡ shown row j
      → to_z w32 (of_z w32 (get_or (written ++ rest) i (pos 0))) ≡ get_or (shown row j) i (pos 0)
  coordinate_read j shows i inside written rest e =
      let long : i < length written = omega (arith, ap length e, shown_length j shows) in
      ap (λ (z : ℤ). to_z w32 (of_z w32 z)) (get_or-append written rest (pos 0) i long ∙ ap (λ (x : List ℤ). get_or x i (pos 0)) e)
      ∙ to_z-of_z {w = w32} (small_fits (get_or (shown row j) i (pos 0)) (small j shows i))
