-- Which coefficients the code lets through: those between -32,768 and 32,768, which are just the usable ones; and
-- they become whole numbers of at most 2^23.
use Prim.Native.Nat.{ℕ, ◌+◌, ◌*◌, ◌/◌, ◌%◌, ◌^◌, ◌≤◌, ◌<◌, compare}
use mathlib.Core.Path.{◌≡◌, refl, sym, ap, ◌∙◌}
use mathlib.Core.Bool.{Bool, true, false, not, false≢true}
use native.Mathlib.Omega.{arith}
use native.Mathlib.Nat.{le_trans, le_of_eq, lt_of_not-le, not-le_of_lt, mul-one, one-mul, mul_right_comm, mul-le-mul_right, le_of_mul-le-mul_right, div-lt_iff_lt-mul}
use native.Mathlib.Decide.{dec_lt}
use borrow.Author.Tests.{lt-ltb, le-ltb, le-leb, lt-leb, ltb-true, ltb-false, leb-false}
use lib.Dec.{T, ltb, leb, lit<}
use lib.IntN.{ℤ, pos}
use lib.Ieee.{Float, nan, inf, fin, binary32, up, down, fits, lt}
use lib.Ieee.Fits.{down_pos, nearest-le}
use lib.Ieee.Nearest.{closest}
use Rattle.floats.specs.Units.{units_of, unusable_coefficient}
use Rattle.floats.specs.Nearest.{nearest_whole}
use Rattle.floats.proofs.Value.{units_value}

abbrev pub above : Float
above = fin false 1 (pos 15)

abbrev pub under : Float
under = fin true 1 (pos 15)

-- a / d is u / c, and both are compared with k
carried : (a d u c k : ℕ) → a * c ≡ u * d → 0 < d → k * d ≤ a → k * c ≤ u
carried a d u c k same dp h = le_of_mul-le-mul_right (le_trans (le_of_eq (mul_right_comm k c d)) (le_trans (mul-le-mul_right c h) (le_of_eq same))) dp

compared : (a d u c k : ℕ) → a * c ≡ u * d → 0 < c → 0 < d → ltb a (k * d) ≡ ltb u (k * c)
compared a d u c k same cp dp = go (dec_lt a (k * d))
  where
    go : Dec (a < k * d) → ltb a (k * d) ≡ ltb u (k * c)
    go (yes h) = lt-ltb a (k * d) h ∙ sym (lt-ltb u (k * c) (lt_of_not-le (λ (g : k * c ≤ u). not-le_of_lt h (carried u c a d k (sym same) cp g))))
    go (no h) = le-ltb a (k * d) (omega arith) ∙ sym (le-ltb u (k * c) (carried a d u c k same dp (omega arith)))

not_below : (u k : ℕ) (t : Bool) → ltb u k ≡ t → leb k u ≡ not t
not_below u k true h = lt-leb k u (ltb-true u k h)
not_below u k false h = le-leb k u (ltb-false u k h)

-- 2 ^ 149 stays a variable here
judged : (a d u c k : ℕ) (t : Bool) → a * c ≡ u * d → 0 < c → 0 < d → ltb (a * 1) (1 * k * d) ≡ t → leb (k * c) u ≡ not t
judged a d u c k t same cp dp h =
    not_below u (k * c) t (sym (compared a d u c k same cp dp) ∙ sym (ap (λ (x : ℕ). ltb x (k * d)) (mul-one a)) ∙ sym (ap (λ (x : ℕ). ltb (a * 1) (x * d)) (one-mul k)) ∙ h)

finite_judged : (s : Bool) (m : ℕ) (e : ℤ) (t : Bool) → T (fits binary32 (fin s m e)) → ltb (m * up e * 1) (1 * 2 ^ 15 * down e) ≡ t
    → leb (32768 * 2 ^ 149) (units_of (fin s m e)) ≡ not t
finite_judged s m e t f h = judged (m * up e) (down e) (units_of (fin s m e)) (2 ^ 149) (2 ^ 15) t (units_value s m e f) (lit< tt) (down_pos e) h

-- the two tests of the code
pub let_through : (x : Float) → T (fits binary32 x) → lt x above ≡ true → lt under x ≡ true → unusable_coefficient x ≡ false
unfolding lt unusable_coefficient
let_through nan f g h = absurd (false≢true g)
let_through (inf true) f g h = absurd (false≢true h)
let_through (inf false) f g h = absurd (false≢true g)
let_through (fin true m e) f g h = finite_judged true m e true f h
let_through (fin false m e) f g h = finite_judged false m e true f g

pub past_limit : (x : Float) → T (fits binary32 x) → lt x above ≡ false → unusable_coefficient x ≡ true
unfolding lt unusable_coefficient
past_limit nan f g = refl
past_limit (inf s) f g = refl
past_limit (fin true m e) f g = absurd (false≢true (sym g ∙ lt-ltb 0 (m * up e * 1 + 1 * 2 ^ 15 * down e) (omega (arith, down_pos e))))
past_limit (fin false m e) f g = finite_judged false m e false f g

pub before_limit : (x : Float) → T (fits binary32 x) → lt under x ≡ false → unusable_coefficient x ≡ true
unfolding lt unusable_coefficient
before_limit nan f g = refl
before_limit (inf s) f g = refl
before_limit (fin true m e) f g = finite_judged true m e false f g
before_limit (fin false m e) f g = absurd (false≢true (sym g ∙ lt-ltb 0 (1 * 2 ^ 15 * down e + m * up e * 1) (omega (arith, down_pos e))))

-- a usable coefficient is finite, and below 32,768
pub usable_below : (s : Bool) (m : ℕ) (e : ℤ) → unusable_coefficient (fin s m e) ≡ false → units_of (fin s m e) < 32768 * 2 ^ 149
unfolding unusable_coefficient
usable_below s m e h = leb-false (32768 * 2 ^ 149) (units_of (fin s m e)) h

-- at most 2^23
under_top : (u c : ℕ) → 0 < c → u < 32768 * c → closest (256 * u) c ≤ 2 ^ 23
under_top u c cp h = le_trans (nearest-le (256 * u / c) (compare (256 * u % c * 2) c)) ((div-lt_iff_lt-mul cp).1 (omega arith))

pub whole_bound : (x : Float) → unusable_coefficient x ≡ false → nearest_whole x ≤ 2 ^ 23
unfolding nearest_whole unusable_coefficient
whole_bound nan h = absurd (false≢true (sym h))
whole_bound (inf s) h = absurd (false≢true (sym h))
whole_bound (fin s m e) h = under_top (units_of (fin s m e)) (2 ^ 149) (lit< tt) (usable_below s m e h)
