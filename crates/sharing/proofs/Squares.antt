-- The difference of two whole numbers, by its square: it is that of their magnitudes if they have one sign, and no
-- smaller if they have not.
--     difference_same       |k a - A c| for a and c of one sign
--     square_same           its square, 2 |k a| |A c| more, is |k a| squared and |A c| squared
--     square_any            it is no less for any c
use Prim.Native.Nat.{ℕ, zero, suc, ◌+◌, ◌-◌, ◌*◌, ◌≤◌}
use mathlib.Core.Path.{◌≡◌, refl, sym, ap}
use mathlib.Core.Bool.{Bool, true, false, cond}
use mathlib.Core.Logic.{◌⊎◌, inl, inr}
use native.Mathlib.Omega.{arith}
use native.Mathlib.Nat.{mul-zero, le_of_eq}
use borrow.Author.Tests.{ltb-true, ltb-false}
use lib.Dec.{ltb}
use lib.IntN.{ℤ, pos, negsuc, nat_abs, sub_ℕ, ◌-ℤ◌, ◌*ℤ◌}
use Rattle.enumeration.specs.Point.{signed}
use Rattle.enumeration.proofs.Spread.{signed_magnitude}
use Rattle.sharing.specs.Nearest.{difference, square}

-- d is how far x and y are apart
abbrev pub Apart : ℕ → ℕ → ℕ → Type 0
Apart x y d = (y + d ≡ x) ⊎ (x + d ≡ y)

apart_sub : (x y : ℕ) → Apart x y (nat_abs (sub_ℕ x y))
apart_sub x y = go (ltb x y) refl
  where
    go : (t : Bool) → ltb x y ≡ t → Apart x y (nat_abs (cond t (negsuc (y - suc x)) (pos (x - y))))
    go true h = inr (omega (arith, ltb-true x y h))
    go false h = inl (omega (arith, ltb-false x y h))

the_other_way : (x y d : ℕ) → Apart x y d → Apart y x d
the_other_way x y d (inl h) = inr h
the_other_way x y d (inr h) = inl h

apart_same : (b : Bool) (x y : ℕ) → Apart x y (nat_abs (signed b x -ℤ signed b y))
apart_same false x zero = inl (omega arith)
apart_same false x (suc y) = apart_sub x (suc y)
apart_same true zero zero = inl refl
apart_same true zero (suc y) = inr (omega arith)
apart_same true (suc x) zero = the_other_way 0 (suc x) (nat_abs (sub_ℕ 0 (suc x))) (apart_sub 0 (suc x))
apart_same true (suc x) (suc y) = the_other_way (suc y) (suc x) (nat_abs (sub_ℕ (suc y) (suc x))) (apart_sub (suc y) (suc x))

-- ---- squares
apart_square : (x y d : ℕ) → Apart x y d → d * d + 2 * (x * y) ≡ x * x + y * y
apart_square x y d (inl h) = rw (sym h) (omega arith)
apart_square x y d (inr h) = rw (sym h) (omega arith)

square_apart : (z w : ℤ) → nat_abs z * nat_abs z + nat_abs w * nat_abs w ≤ square (z -ℤ w) + 2 * (nat_abs z * nat_abs w)
square_apart (pos x) (pos y) = le_of_eq (sym (apart_square x y (nat_abs (pos x -ℤ pos y)) (apart_same false x y)))
square_apart (pos x) (negsuc y) = omega arith
square_apart (negsuc x) (pos zero) = le_of_eq (sym (apart_square (suc x) 0 (nat_abs (negsuc x -ℤ pos 0)) (apart_same true (suc x) 0)))
square_apart (negsuc x) (pos (suc y)) = omega arith
square_apart (negsuc x) (negsuc y) = le_of_eq (sym (apart_square (suc x) (suc y) (nat_abs (negsuc x -ℤ negsuc y)) (apart_same true (suc x) (suc y))))

-- ---- k a - A c
scaled : (b : Bool) (n i : ℕ) → pos n *ℤ signed b i ≡ signed b (n * i)
scaled false n i = refl
scaled true n zero = rw (mul-zero n) refl
scaled true n (suc i) = refl

scaled_magnitude : (n : ℕ) (z : ℤ) → nat_abs (pos n *ℤ z) ≡ n * nat_abs z
scaled_magnitude n (pos i) = refl
scaled_magnitude n (negsuc i) = signed_magnitude true (n * suc i)

module _ (k total : ℕ) (b : Bool) (a : ℕ) where
  pub difference_same : (c : ℕ) → Apart (k * a) (total * c) (nat_abs (difference k total (signed b a) (signed b c)))
  difference_same c = rw (scaled b k a, scaled b total c) (apart_same b (k * a) (total * c))

  pub square_same : (c : ℕ) → square (difference k total (signed b a) (signed b c)) + 2 * (k * a * (total * c)) ≡ k * a * (k * a) + total * c * (total * c)
  square_same c = apart_square (k * a) (total * c) (nat_abs (difference k total (signed b a) (signed b c))) (difference_same c)

  pub square_any : (c : ℤ) → k * a * (k * a) + total * nat_abs c * (total * nat_abs c) ≤ square (difference k total (signed b a) c) + 2 * (k * a * (total * nat_abs c))
  square_any c =
      rw (← scaled_magnitude total c, ← ap (λ (n : ℕ). k * n) (signed_magnitude b a), ← scaled_magnitude k (signed b a)) (square_apart (pos k *ℤ signed b a) (pos total *ℤ c))
