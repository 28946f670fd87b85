-- Nearest on the shell: no point of the shell is nearer to whole numbers than the one whose magnitudes are the shares,
-- with the signs of the whole numbers. At each coordinate the square of the difference, 2 x A x t x q more and
-- A x A x q less, is least where q is the share p at the level t. What is added and what is taken away sum to the same
-- for all points of the shell, since the magnitudes of each sum to k.
use Prim.Native.Nat.{ℕ, zero, suc, ◌+◌, ◌-◌, ◌*◌, ◌≤◌, ◌<◌}
use mathlib.Core.Path.{◌≡◌, ap, ◌∙◌, subst}
use mathlib.Core.List.{List, [], ◌∷◌}
use mathlib.Core.Bool.{Bool, false}
use mathlib.Core.Logic.{inl, inr}
use native.Mathlib.Omega.{arith}
use native.Mathlib.Decide.{dec_lt}
use native.Mathlib.Nat.{mul-le-mul_left, mul-le-mul_right}
use lib.IntN.{ℤ, pos, nat_abs}
use lib.ListN.{length, get_or}
use Rattle.enumeration.specs.Point.{sum_of, radius_of, OnShell, signed}
use Rattle.enumeration.specs.Reading.{sign_all}
use Rattle.enumeration.proofs.Signed.{signed_length, signed_magnitudes, signed_at}
use Rattle.shares.specs.Shares.{shared}
use Rattle.sharing.specs.Nearest.{difference, square, sum_of_squares, NearestOnShell}
use Rattle.shares.proofs.Sharing.{shared_length, shared_sum}
use Rattle.sharing.proofs.Levels.{AtLevel, shares_level}
use Rattle.sharing.proofs.Squares.{Apart, difference_same, square_same, square_any}

-- ---- one coordinate, in natural numbers: c is k x a, p the share at level t, q any other number
own_square : (n : ℕ) → n ≤ n * n
own_square zero = omega arith
own_square (suc n) = omega arith

-- that p is least, with all on the side where it is added, and divided by A
abbrev NoMore : (total c t p q : ℕ) → Type 0
NoMore total c t p q = total * (p * p) + total * q + 2 * (t * p) + 2 * (c * q) ≤ total * (q * q) + total * p + 2 * (t * q) + 2 * (c * p)

-- w is how far A x p + t is past c, and at most A; q is n more than p, or n less
module _ (total c t w n : ℕ) where
  square_most : total * n ≤ total * (n * n)
  square_most = mul-le-mul_left total (own_square n)

  up : (p : ℕ) → c + w ≡ total * p + t → NoMore total c t p (p + n)
  up p past = omega (arith, square_most, ap (λ (x : ℕ). x * n) past)

  down : (q : ℕ) → c + w ≡ total * (q + n) + t → w ≤ total → NoMore total c t (q + n) q
  down q past most = omega (arith, square_most, ap (λ (x : ℕ). x * n) past, mul-le-mul_right n most)

no_more : (total c t p q : ℕ) → AtLevel total t c p → NoMore total c t p q
no_more total c t p q at = go (dec_lt q p)
  where
    w : ℕ
    w = total * p + t - c

    past : c + w ≡ total * p + t
    past = omega (arith, at.reached)

    go : Dec (q < p) → NoMore total c t p q
    go (yes less) =
        let whole : q + (p - q) ≡ p = omega arith in
        subst (λ (x : ℕ). NoMore total c t x q) whole (down total c t w (p - q) q (rw whole past) (omega (arith, at.not_past)))
    go (no not-less) = let whole : p + (q - p) ≡ q = omega arith in subst (NoMore total c t p) whole (up total c t w (q - p) p past)

-- the same of the squares: s that of p's difference, s' that of q's
squared : (total c t p q s s' : ℕ) → s + 2 * (c * (total * p)) ≡ c * c + total * p * (total * p) → c * c + total * q * (total * q) ≤ s' + 2 * (c * (total * q))
    → NoMore total c t p q → s + total * total * q + 2 * (total * t * p) ≤ s' + total * total * p + 2 * (total * t * q)
squared total c t p q s s' own other less = omega (arith, mul-le-mul_left total less)

-- ---- all coordinates
module _ (k total t : ℕ) where
  sum_least : (bs : List Bool) (ms ps : List ℕ) (q : List ℤ) → length ms ≡ length bs → length ps ≡ length bs → length q ≡ length bs
      → ((i : ℕ) → i < length ms → AtLevel total t (k * get_or ms i 0) (get_or ps i 0))
      → sum_of_squares k total (sign_all bs ms) (sign_all bs ps) + total * total * radius_of q + 2 * (total * t * sum_of ps)
      ≤ sum_of_squares k total (sign_all bs ms) q + total * total * sum_of ps + 2 * (total * t * radius_of q)
  unfolding sum_of_squares
  sum_least [] [] [] [] same-m same-p same-q at = omega arith
  sum_least [] [] [] (c ∷ q) same-m same-p same-q at = absurd (omega arith)
  sum_least [] [] (p ∷ ps) q same-m same-p same-q at = absurd (omega arith)
  sum_least [] (a ∷ ms) ps q same-m same-p same-q at = absurd (omega arith)
  sum_least (b ∷ bs) [] ps q same-m same-p same-q at = absurd (omega arith)
  sum_least (b ∷ bs) (a ∷ ms) [] q same-m same-p same-q at = absurd (omega arith)
  sum_least (b ∷ bs) (a ∷ ms) (p ∷ ps) [] same-m same-p same-q at = absurd (omega arith)
  sum_least (b ∷ bs) (a ∷ ms) (p ∷ ps) (c ∷ q) same-m same-p same-q at =
      let own = square (difference k total (signed b a) (signed b p)) in
      let other = square (difference k total (signed b a) c) in
      let first = squared total (k * a) t p (nat_abs c) own other (square_same k total b a p) (square_any k total b a c)
      (no_more total (k * a) t p (nat_abs c) (at 0 (omega arith))) in
      omega (arith, first, sum_least bs ms ps q (omega arith) (omega arith) (omega arith) (λ i h. at (suc i) (omega arith)))

apart_below : (x y d total : ℕ) → Apart x y d → x < y + total → y < x + total → d < total
apart_below x y d total (inl h) above below = omega arith
apart_below x y d total (inr h) above below = omega arith

-- ---- the shares, with signs
pub shares_on_shell : (k : ℕ) (bs : List Bool) (ms : List ℕ) → length ms ≡ length bs → (0 < k → 0 < sum_of ms)
    → OnShell (length bs) k (sign_all bs (shared k ms))
shares_on_shell k bs ms same some =
    let long : length (shared k ms) ≡ length bs = shared_length k ms ∙ same in
    record { of_length = signed_length bs (shared k ms) long; of_radius = ap sum_of (signed_magnitudes bs (shared k ms) long) ∙ shared_sum k ms some }

module _ (k : ℕ) (bs : List Bool) (ms : List ℕ) (same : length ms ≡ length bs) (above : 0 < k) (some : 0 < sum_of ms) where
  as_long : length (shared k ms) ≡ length bs
  as_long = shared_length k ms ∙ same

  wholes_long : length (sign_all bs ms) ≡ length bs
  wholes_long = signed_length bs ms same

  is_total : radius_of (sign_all bs ms) ≡ sum_of ms
  is_total = ap sum_of (signed_magnitudes bs ms same)

  none_nearer : (q : List ℤ) → OnShell (length bs) k q
      → sum_of_squares k (sum_of ms) (sign_all bs ms) (sign_all bs (shared k ms)) ≤ sum_of_squares k (sum_of ms) (sign_all bs ms) q
  none_nearer q on =
      let (level, at) = shares_level k ms above some in
      let least = sum_least k (sum_of ms) level bs ms (shared k ms) q same as_long on.of_length at in
      omega (arith, rw (on.of_radius, shared_sum k ms (λ h. some)) at least)

  each_below : (i : ℕ) → i < length bs
      → nat_abs (difference k (sum_of ms) (get_or (sign_all bs ms) i (pos 0)) (get_or (sign_all bs (shared k ms)) i (pos 0))) < sum_of ms
  each_below i h =
      let (level, at) = shares_level k ms above some in
      let here = at i (omega (arith, same)) in
      let sign = get_or bs i false in
      let a = get_or ms i 0 in
      let p = get_or (shared k ms) i 0 in
      rw (signed_at bs ms i h same, signed_at bs (shared k ms) i h as_long)
      (apart_below (k * a) (sum_of ms * p) (nat_abs (difference k (sum_of ms) (signed sign a) (signed sign p))) (sum_of ms) (difference_same k (sum_of ms) sign a p)
      here.less_above here.less_below)

  pub nearest_on_shell : NearestOnShell k (sign_all bs ms) (sign_all bs (shared k ms))
  nearest_on_shell = record {
    on_shell = rw wholes_long (shares_on_shell k bs ms same (λ h. some));
    none_nearer = λ q on. rw is_total (none_nearer q (rw wholes_long at on));
    each_below = λ i h. rw is_total (each_below i (rw wholes_long at h));
  }
