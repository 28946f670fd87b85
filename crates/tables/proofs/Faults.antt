-- The faults of a row by the facts that the code finds.
use Prim.Native.Nat.{ℕ, zero, suc, ◌+◌, ◌-◌, ◌≤◌, ◌<◌}
use mathlib.Core.Path.{◌≡◌, refl, sym, ◌∙◌}
use mathlib.Core.List.{List}
use mathlib.Core.Bool.{Bool, true, false, not, ◌||◌, or-true, or-false, false≢true}
use native.Mathlib.Numerals.{add-one}
use native.Mathlib.Omega.{arith}
use native.Mathlib.Decide.{dec_lt, dec_le}
use lib.Dec.{eqb, leb, ltb}
use borrow.Author.Tests.{lt-ltb, le-ltb}
use Rattle.counts.specs.Fields.{size_of, field_total}
use Rattle.counts.specs.declared.Field.{Field}
use Rattle.tables.specs.Largest.{largest_radius}
use Rattle.tables.specs.Usable.{most_points, unusable_shell}
use Rattle.tables.proofs.Largest.{largest_to, usable_up_to, unusable_past}
use Rattle.tables.specs.Row.{length_of, radii_of, radius_at, shell_total, unusable_radius, out_of_order, bad_radius, bad_radii}

-- a shell is unusable exactly above the largest radius of its length, by either shape field
above_largest : (f : Field) (l k : ℕ) → 1 ≤ l → l ≤ 16 → ltb (largest_radius f l) k ≡ unusable_shell l k (field_total (size_of f) l k)
above_largest f l k p q = rw (le-ltb l 1 p, le-ltb 16 l q) (go (dec_lt 32 k) (dec_le k (largest_radius f l)))
  where
    go : Dec (32 < k) → Dec (k ≤ largest_radius f l) → ltb (largest_radius f l) k ≡ (ltb 32 k || (ltb most_points (field_total (size_of f) l k) || false))
    go (yes h) d = rw (lt-ltb 32 k h, lt-ltb (largest_radius f l) k (omega (arith, largest_to f l p q)))
    go (no h) (yes g) =
        rw (le-ltb 32 k (omega arith), le-ltb (largest_radius f l) k g, le-ltb most_points (field_total (size_of f) l k) (usable_up_to f l p q k g))
    go (no h) (no g) =
        rw (
          le-ltb 32 k (omega arith),
          lt-ltb (largest_radius f l) k (omega arith),
          lt-ltb most_points (field_total (size_of f) l k) (unusable_past f l p q k (omega arith) (omega arith)),
        )

-- and so is a radius of a row whose shells have as many indices as that field makes
pub radius_above_largest : (f : Field) (row : List ℕ) (k : ℕ) → 1 ≤ length_of row → length_of row ≤ 16
    → shell_total row k ≡ field_total (size_of f) (length_of row) k → ltb (largest_radius f (length_of row)) k ≡ unusable_radius row k
radius_above_largest f row k p q same = rw same (above_largest f (length_of row) k p q)

module _ (row : List ℕ) (n : ℕ) where
  pub unused_says : radii_of row ≤ n → not (eqb (radius_at row n) 0) ≡ bad_radius row n
  unfolding bad_radius
  unused_says h = rw (le-ltb n (radii_of row) h)

  pub disorder_says : n < radii_of row → out_of_order row n ≡ true → true ≡ bad_radius row n
  unfolding bad_radius
  disorder_says h e = rw (lt-ltb n (radii_of row) h, e)

  pub used_says : n < radii_of row → out_of_order row n ≡ false → unusable_radius row (radius_at row n) ≡ bad_radius row n
  unfolding bad_radius
  used_says h e = rw (lt-ltb n (radii_of row) h, e) (sym (or-false (unusable_radius row (radius_at row n))))

-- a bad radius among the first n
pub radius_bad : (row : List ℕ) (i n : ℕ) → i < n → bad_radius row i ≡ true → bad_radii row n ≡ true
unfolding bad_radii
radius_bad row i zero h e = absurd (omega arith)
radius_bad row i (suc n) h e = go (dec_lt i n) (λ g. radius_bad row i n g e)
  where
    go : Dec (i < n) → (i < n → bad_radii row n ≡ true) → (bad_radii row n || bad_radius row n) ≡ true
    go (yes g) rest = rw (rest g)
    go (no g) rest = let same : i ≡ n = omega arith in rw (sym same, e) (or-true (bad_radii row i))

-- none is bad: then not the one at i
pub radius_at_lem : (row : List ℕ) (i n : ℕ) → i < n → bad_radii row n ≡ false → bad_radius row i ≡ false
radius_at_lem row i n h e = go (bad_radius row i) refl
  where
    go : (b : Bool) → bad_radius row i ≡ b → bad_radius row i ≡ false
    go true g = absurd (false≢true (sym e ∙ radius_bad row i n h g))
    go false g = g

-- one position more is good
pub radius_good : (row : List ℕ) (n : ℕ) → bad_radii row n ≡ false → bad_radius row n ≡ false → bad_radii row (n + 1) ≡ false
unfolding bad_radii
radius_good row n all e = rw (add-one, bad_radii, all) e

-- past the first radius the one before is at n - 1
pub next_says : (row : List ℕ) (n : ℕ) → (n ≡ 0 → ⊥) → leb (radius_at row n) (radius_at row (n - 1)) ≡ out_of_order row n
next_says row zero h = absurd (h refl)
next_says row (suc n) h = let one : suc n - 1 ≡ n = omega arith in rw one
