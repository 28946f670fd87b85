-- The whole number nearest to a / b, ties to even: a number is that if its multiple of b is within half of b from
-- a, and it is even where it is just half; `closest` gives such a number, and no two numbers are so.
use Prim.Native.Nat.{ℕ, zero, suc, ◌+◌, ◌*◌, ◌/◌, ◌%◌, ◌^◌, ◌≤◌, ◌<◌, compare, Ordering}
use mathlib.Core.Path.{◌≡◌, sym, ap, ◌∙◌, subst}
use mathlib.Core.Logic.{◌⊎◌, inl, inr}
use mathlib.Core.Bool.{not}
use native.Mathlib.Omega.{arith}
use native.Mathlib.Nat.{le_of_eq, le_antisymm, add-zero, mod-lt, div-add-mod', mul-le-mul_right, suc-mul}
use native.Mathlib.Numerals.{add-one}
use native.Mathlib.Decide.{dec_lt}
use lib.Dec.{T, is_le, compare_is_eq, eqb, leb→le, nleb→lt, eqb→eq, T_not, lit<}
use lib.Ieee.Fits.{eq→eqb}
use lib.Ieee.{Float, nearest}
use lib.Ieee.Nearest.{closest}
use Rattle.floats.specs.Nearest.{gap, IsNearest, nearest_whole}
use Rattle.floats.specs.Units.{units_of}

-- the multiples of two numbers are equal, or b apart at least
step_up : (m n b : ℕ) → m < n → m * b + b ≤ n * b
step_up m n b h = subst (λ (x : ℕ). x ≤ n * b) (suc-mul m b) (mul-le-mul_right b h)

apart : (m n b : ℕ) → (m ≡ n) ⊎ ((m * b + b ≤ n * b) ⊎ (n * b + b ≤ m * b))
apart m n b = go (dec_lt m n) (dec_lt n m)
  where
    go : Dec (m < n) → Dec (n < m) → (m ≡ n) ⊎ ((m * b + b ≤ n * b) ⊎ (n * b + b ≤ m * b))
    go (yes h) g = inr (inl (step_up m n b h))
    go (no h) (yes g) = inr (inr (step_up n m b g))
    go (no h) (no g) = inl (omega arith)

-- within half of b, and even at just half
pub within_half : (a b n : ℕ) → 2 * gap a (n * b) ≤ b → (2 * gap a (n * b) ≡ b → n % 2 ≡ 0) → IsNearest a b n
within_half a b n near even = record { least = λ m. not_nearer m (apart m n b); even_on_tie = λ m other tie. at_half m other tie (apart m n b) }
  where
    not_nearer : (m : ℕ) → (m ≡ n) ⊎ ((m * b + b ≤ n * b) ⊎ (n * b + b ≤ m * b)) → gap a (n * b) ≤ gap a (m * b)
    not_nearer m (inl e) = le_of_eq (ap (λ (x : ℕ). gap a (x * b)) (sym e))
    not_nearer m (inr (inl h)) = omega arith
    not_nearer m (inr (inr h)) = omega arith

    at_half : (m : ℕ) → (m ≡ n → ⊥) → gap a (m * b) ≡ gap a (n * b) → (m ≡ n) ⊎ ((m * b + b ≤ n * b) ⊎ (n * b + b ≤ m * b)) → n % 2 ≡ 0
    at_half m other tie (inl e) = absurd (other e)
    at_half m other tie (inr (inl h)) = even (omega arith)
    at_half m other tie (inr (inr h)) = even (omega arith)

-- by how twice the rest r of a compares with b
closest_is_nearest : (a b q r : ℕ) (o : Ordering) → q * b + r ≡ a → r < b → (T (is_le o) → r * 2 ≤ b) → (T (not (is_le o)) → b < r * 2) → (T (compare_is_eq o) → r * 2 ≡ b)
    → (T (not (compare_is_eq o)) → r * 2 ≡ b → ⊥) → IsNearest a b (nearest q o)
closest_is_nearest a b q r Ordering.lt whole rest le gt eq ne =
    let half : r * 2 ≤ b = le tt in
    let not_half : r * 2 ≡ b → ⊥ = ne tt in
    within_half a b q (omega arith) (λ e. absurd (not_half (omega arith)))
closest_is_nearest a b q r Ordering.eq whole rest le gt eq ne = within_half a b (q + q % 2) (near (q % 2) (omega arith) (eq tt)) (λ e. omega arith)
  where
    near : (x : ℕ) → x < 2 → r * 2 ≡ b → 2 * gap a ((q + x) * b) ≤ b
    near zero h half = let same : (q + 0) * b ≡ q * b = ap (λ (y : ℕ). y * b) (add-zero q) in omega arith
    near (suc zero) h half = let next : (q + 1) * b ≡ q * b + b = ap (λ (y : ℕ). y * b) (add-one q) ∙ suc-mul q b in omega arith
    near (suc (suc x)) h half = absurd (omega arith)
closest_is_nearest a b q r Ordering.gt whole rest le gt eq ne =
    let half : b < r * 2 = gt tt in
    let next : suc q * b ≡ q * b + b = suc-mul q b in
    within_half a b (suc q) (omega arith) (λ e. absurd (omega arith))

pub nearest_is : (a b : ℕ) → 0 < b → IsNearest a b (closest a b)
nearest_is a b h =
    let r = a % b * 2 in
    closest_is_nearest a b (a / b) (a % b) (compare r b) (div-add-mod' a b) (mod-lt a h) (leb→le r b) (nleb→lt r b) (eqb→eq r b)
    (λ t e. T_not (eqb r b) t (eq→eqb e))

-- between two numbers there would be another, nearer one
no_two : (a b m n : ℕ) → 0 < b → IsNearest a b m → IsNearest a b n → m < n → ⊥
no_two a b m n h p q l =
    let next : suc m * b ≡ m * b + b = suc-mul m b in
    let tie : gap a (m * b) ≡ gap a (n * b) = le_antisymm (p.least n) (q.least m) in
    let even_m : m % 2 ≡ 0 = p.even_on_tie n (λ e. omega arith) (sym tie) in
    let even_n : n % 2 ≡ 0 = q.even_on_tie m (λ e. omega arith) tie in
    let last : suc m * b + b ≤ n * b = step_up (suc m) n b (omega arith) in
    let middle : gap a (m * b) ≤ gap a (suc m * b) = p.least (suc m) in
    omega arith

pub nearest_unique : (a b m n : ℕ) → 0 < b → IsNearest a b m → IsNearest a b n → m ≡ n
nearest_unique a b m n h p q = go (dec_lt m n) (dec_lt n m)
  where
    go : Dec (m < n) → Dec (n < m) → m ≡ n
    go (yes l) g = absurd (no_two a b m n h p q l)
    go (no l) (yes g) = absurd (no_two a b n m h q p g)
    go (no l) (no g) = omega arith

-- so with the whole number that a coefficient becomes
pub whole_nearest : (x : Float) → IsNearest (256 * units_of x) (2 ^ 149) (nearest_whole x)
unfolding nearest_whole
whole_nearest x = nearest_is (256 * units_of x) (2 ^ 149) (lit< tt)

pub whole_only : (x : Float) (n : ℕ) → IsNearest (256 * units_of x) (2 ^ 149) n → n ≡ nearest_whole x
whole_only x n h = nearest_unique (256 * units_of x) (2 ^ 149) n (nearest_whole x) (lit< tt) h (whole_nearest x)
