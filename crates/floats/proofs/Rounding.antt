-- What the code's multiplication and addition make of a coefficient u / 2^149, u below 32,768 x 2^149: 256 times it
-- is exact, and beside 2^23 an f32 has no digit for a fraction, so that the addition rounds to the nearest whole
-- number.
use Prim.Native.Nat.{ℕ, zero, suc, ◌+◌, ◌-◌, ◌*◌, ◌/◌, ◌%◌, ◌^◌, ◌≤◌, ◌<◌, compare, Ordering}
use mathlib.Core.Path.{◌≡◌, refl, sym, ap, ◌∙◌, subst}
use mathlib.Core.Bool.{true, false, false≢true}
use native.Mathlib.Omega.{arith}
use native.Mathlib.Nat.{lt_of_lt_of_le, lt_of_le_of_lt, lt_of_not-le, not-le_of_lt, le_antisymm, mul-one, one-mul, mul_comm, mul_assoc, mul_right_comm, add-mul, mul-pos, mul-le-mul_right, mul-div_cancel, two-pow-succ, eq_of_mul-eq-mul_right, add-mul-div_right, add-mul-mod_self_right}
use borrow.Author.Tests.{lt-ltb}
use lib.Dec.{T, ltb, eqb, eqb→eq, lit<, lit≤, le→leb}
use lib.IntN.{ℤ, pos, negsuc}
use lib.Pow.{pow-add, pow_pos, pow_mono}
use lib.Ieee.{Float, nan, inf, fin, binary32, up, down, size, nearest, round, sum, add, mul, fits, of_int, in_float, in_unsigned, to_unsigned, to_bits, lt}
use lib.Ieee.Back.{round_whole, whole_unique, unsigned_back}
use lib.Ieee.Digits.{size-lt, size-le}
use lib.Ieee.Exact.{HasValue, round_exact}
use lib.Ieee.Fits.{down_pos, up_pos, round-fits}
use lib.Ieee.Nearest.{closest, closest_same}
use lib.Ieee.Order.{drop}
use lib.Ieee.Scale.{grid, overflow, round_same, round_val}
use Rattle.floats.specs.Units.{units_of, unusable_coefficient, negative}
use Rattle.floats.specs.Nearest.{nearest_whole}
use Rattle.floats.proofs.Value.{Digits, units_value, units_digits}
use Rattle.floats.proofs.Limit.{usable_below, whole_bound}

-- 256.0 and 8388608.0
abbrev pub scale : Float
scale = fin false 1 (pos 8)

abbrev pub beside : Float
beside = fin false 1 (pos 23)

-- ---- 256 times a coefficient is exact
times_256 : (a c u d : ℕ) → a * c ≡ u * d → a * (1 * 2 ^ 8) * c ≡ 256 * u * (d * 1)
times_256 a c u d same =
    mul_right_comm a 256 c ∙ ap (λ (x : ℕ). x * 256) same ∙ mul_comm (u * d) 256 ∙ sym (mul_assoc 256 u d) ∙ ap (λ (x : ℕ). 256 * u * x) (sym (mul-one d))

scaled_is : (m : ℕ) (e : ℤ) → T (fits binary32 (fin false m e)) → mul binary32 (fin false m e) scale ≡ round binary32 false (256 * units_of (fin false m e)) (2 ^ 149)
unfolding mul
scaled_is m e f =
    let u = units_of (fin false m e) in
    round_same binary32 false (m * up e * (1 * 2 ^ 8)) (down e * 1) (256 * u) (2 ^ 149) (mul-pos (down_pos e) (lit< tt)) (lit< tt)
    (times_256 (m * up e) (2 ^ 149) u (down e) (units_value false m e f))

shifted : (u q j : ℕ) → u ≡ q * 2 ^ j → 256 * u ≡ q * 2 ^ (j + 8)
shifted u q j same = ap (λ (x : ℕ). 256 * x) same ∙ mul_comm 256 (q * 2 ^ j) ∙ mul_assoc q (2 ^ j) 256 ∙ ap (λ (x : ℕ). q * x) (sym (pow-add 2 j 8))

in_range_lem : (u c : ℕ) → u < 32768 * c → 256 * u < 8388608 * c
in_range_lem u c h = omega arith

scaled_exact : (u : ℕ) → Digits u → u < 32768 * 2 ^ 149 → HasValue (round binary32 false (256 * u) (2 ^ 149)) false (256 * u) (2 ^ 149)
scaled_exact u (q, j, few, same) h =
    let up_8 : 256 * u ≡ q * 2 ^ (j + 8) = shifted u q j same in
    round_exact binary32 false (256 * u) (2 ^ 149) q (j + 8) (lit< tt) few
    (subst (λ (x : ℕ). x < 2 ^ 277) up_8 (lt_of_lt_of_le (in_range_lem u (2 ^ 149) h) (lit≤ tt)))
    (ap (λ (x : ℕ). x * 2 ^ 149) up_8)

-- ---- the sum with 2^23
crossed : (a c w d k : ℕ) → a * c ≡ w * d → (a * 1 + 1 * k * d) * c ≡ (w + k * c) * (d * 1)
crossed a c w d k same = rw (mul-one a, one-mul k, mul-one d, add-mul a (k * d) c, add-mul w (k * c) d, same, mul_right_comm k d c)

beside_is : (y : Float) (w : ℕ) → HasValue y false w (2 ^ 149) → add binary32 y beside ≡ round binary32 false (w + 2 ^ 23 * 2 ^ 149) (2 ^ 149)
unfolding add sum
beside_is nan w v = absurd v
beside_is (inf s) w v = absurd v
beside_is (fin true n d) w v = absurd (false≢true (sym v.0))
beside_is (fin false n d) w v =
    round_same binary32 false (n * up d * 1 + 1 * 2 ^ 23 * down d) (down d * 1) (w + 2 ^ 23 * 2 ^ 149) (2 ^ 149) (mul-pos (down_pos d) (lit< tt)) (lit< tt)
    (crossed (n * up d) (2 ^ 149) w (down d) (2 ^ 23) v.1)

-- ---- from 2^23 to 2^24 the whole numbers are all that an f32 holds
digits_173 : (v : ℕ) → 2 ^ 172 ≤ v → v < 2 ^ 173 → size v ≡ 173
digits_173 v lo hi = le_antisymm (size-le v 173 hi) (lt_of_not-le (λ (g : size v ≤ 172). not-le_of_lt (lt_of_lt_of_le (size-lt v) (pow_mono g)) lo))

-- an even number more
even_more : (q n : ℕ) (o : Ordering) → n % 2 ≡ 0 → nearest (q + n) o ≡ nearest q o + n
even_more q n Ordering.lt even = refl
even_more q n Ordering.eq even = omega arith
even_more q n Ordering.gt even = omega arith

closest_more : (a b n : ℕ) → 0 < b → n % 2 ≡ 0 → closest (a + n * b) b ≡ closest a b + n
closest_more a b n h even =
    ap (λ (x : ℕ). nearest x (compare ((a + n * b) % b * 2) b)) (add-mul-div_right a n h)
    ∙ ap (λ (x : ℕ). nearest (a / b + n) (compare (x * 2) b)) (add-mul-mod_self_right a n b)
    ∙ even_more (a / b) n (compare (a % b * 2) b) even

-- the numbers in units of 2^-149
drops_149 : (v : ℕ) → 2 ^ 172 ≤ v → v < 2 ^ 173 → drop 24 (v * 2 ^ 149) (2 ^ 149) ≡ 149
drops_149 v lo hi = ap (λ (x : ℕ). size x - 24) (mul-div_cancel v (lit< tt)) ∙ ap (λ (x : ℕ). x - 24) (digits_173 v lo hi)

keeps_whole : (v c : ℕ) → 0 < c → closest (v * c) (c * c) ≡ closest v c
keeps_whole v c h = closest_same (v * c) (c * c) v c (mul-pos h h) h (mul_assoc v c c)

grid_is : (v : ℕ) → 2 ^ 172 ≤ v → v < 2 ^ 173 → grid binary32 v (2 ^ 149) ≡ closest v (2 ^ 149) * 2 ^ 149
grid_is v lo hi =
    ap (λ (k : ℕ). closest (v * 2 ^ 149) (2 ^ 149 * 2 ^ k) * 2 ^ k) (drops_149 v lo hi) ∙ ap (λ (x : ℕ). x * 2 ^ 149) (keeps_whole v (2 ^ 149) (lit< tt))

-- a value of w whole numbers
unscaled : (a c w d : ℕ) → 0 < c → a * c ≡ w * c * d → a * 1 ≡ w * d
unscaled a c w d h same = mul-one a ∙ eq_of_mul-eq-mul_right c h a (w * d) (same ∙ mul_right_comm w c d)

whole_value : (z : Float) (w : ℕ) → HasValue z false (w * 2 ^ 149) (2 ^ 149) → HasValue z false w 1
whole_value nan w v = v
whole_value (inf s) w v = v
whole_value (fin s m e) w v = (v.0, unscaled (m * up e) (2 ^ 149) w (down e) (lit< tt) v.1)

rounds_to : (v w : ℕ) → 2 ^ 172 ≤ v → v < 2 ^ 173 → closest v (2 ^ 149) ≡ w → w ≤ 2 ^ 24 → round binary32 false v (2 ^ 149) ≡ of_int binary32 (pos w)
unfolding of_int
rounds_to v w lo hi same top =
    let of_grid : grid binary32 v (2 ^ 149) ≡ w * 2 ^ 149 = grid_is v lo hi ∙ ap (λ (x : ℕ). x * 2 ^ 149) same in
    let fine : w * 2 ^ 149 < overflow binary32 = lt_of_le_of_lt (mul-le-mul_right (2 ^ 149) top) (lit< tt) in
    let value : HasValue (round binary32 false v (2 ^ 149)) false (w * 2 ^ 149) (2 ^ 149) =
    subst (λ (x : ℕ). HasValue (round binary32 false v (2 ^ 149)) false x (2 ^ 149)) of_grid
    (round_val binary32 v (2 ^ 149) (subst (λ (x : ℕ). x < overflow binary32) (sym of_grid) fine)) in
    whole_unique binary32 (round binary32 false v (2 ^ 149)) (round binary32 false w 1) false w
    (round-fits binary32 false v (2 ^ 149)) (round-fits binary32 false w 1)
    (whole_value (round binary32 false v (2 ^ 149)) w value) (round_whole binary32 false w top)

-- ---- a coefficient that is not negative
from_172 : (w c : ℕ) → 2 ^ 23 * c ≤ w + 2 ^ 23 * c
from_172 w c = omega arith

to_173 : (u c : ℕ) → u < 32768 * c → 256 * u + 2 ^ 23 * c < 2 ^ 24 * c
to_173 u c h = omega arith

positive_rounds : (m : ℕ) (e : ℤ) → T (fits binary32 (fin false m e)) → unusable_coefficient (fin false m e) ≡ false
    → add binary32 (mul binary32 (fin false m e) scale) beside ≡ of_int binary32 (pos (nearest_whole (fin false m e) + 2 ^ 23))
unfolding nearest_whole
positive_rounds m e f usable =
    let x = fin false m e in
    let u = units_of x in
    let below : u < 32768 * 2 ^ 149 = usable_below false m e usable in
    let top : nearest_whole x ≤ 2 ^ 23 = whole_bound x usable in
    ap (λ (y : Float). add binary32 y beside) (scaled_is m e f)
    ∙ beside_is (round binary32 false (256 * u) (2 ^ 149)) (256 * u) (scaled_exact u (units_digits x) below)
    ∙ rounds_to (256 * u + 2 ^ 23 * 2 ^ 149) (nearest_whole x + 2 ^ 23) (from_172 (256 * u) (2 ^ 149)) (to_173 u (2 ^ 149) below)
    (closest_more (256 * u) (2 ^ 149) (2 ^ 23) (lit< tt) refl) (omega arith)

-- zero is written in one way
flat : (e : ℤ) → T (eqb (up e * down e) 1) → e ≡ pos 0
flat (pos zero) t = refl
flat (pos (suc k)) t = absurd (omega (arith, eqb→eq (2 ^ suc k * 1) 1 t, two-pow-succ k, pow_pos k))
flat (negsuc k) t = absurd (omega (arith, eqb→eq (1 * 2 ^ suc k) 1 t, two-pow-succ k, pow_pos k))

-- and the negative zero becomes 0
zero_rounds : (e : ℤ) → e ≡ pos 0 → add binary32 (mul binary32 (fin true 0 e) scale) beside ≡ of_int binary32 (pos (nearest_whole (fin true 0 e) + 2 ^ 23))
unfolding nearest_whole units_of mul add of_int to_bits
zero_rounds e same = rw same refl

below_zero : (m : ℕ) (e : ℤ) → ltb 0 (suc m * up e * 1 + 0 * 1 * down e) ≡ true
below_zero m e = let some : 0 < suc m * up e = mul-pos (omega arith) (up_pos e) in lt-ltb 0 (suc m * up e * 1 + 0 * 1 * down e) (omega arith)

pub rounds : (x : Float) → T (fits binary32 x) → unusable_coefficient x ≡ false → negative x ≡ false
    → add binary32 (mul binary32 x scale) beside ≡ of_int binary32 (pos (nearest_whole x + 2 ^ 23))
unfolding unusable_coefficient negative lt fits
rounds nan f usable sign = absurd (false≢true (sym usable))
rounds (inf s) f usable sign = absurd (false≢true (sym usable))
rounds (fin false m e) f usable sign = positive_rounds m e f usable
rounds (fin true zero e) f usable sign = zero_rounds e (flat e f)
rounds (fin true (suc m) e) f usable sign = absurd (false≢true (sym sign ∙ below_zero m e))

-- so that the cast loses nothing
pub cast : (x : Float) → T (fits binary32 x) → unusable_coefficient x ≡ false → negative x ≡ false
    → T (in_unsigned binary32 32 (add binary32 (mul binary32 x scale) beside)) × (to_unsigned 32 (add binary32 (mul binary32 x scale) beside) ≡ nearest_whole x + 2 ^ 23)
unfolding in_float
cast x f usable sign =
    let w = nearest_whole x + 2 ^ 23 in
    let top : nearest_whole x ≤ 2 ^ 23 = whole_bound x usable in
    rw (rounds x f usable sign) (unsigned_back binary32 32 w (le→leb w (2 ^ 24) (omega arith)) (omega arith))

-- and without 2^23 the number is left
pub taken_off : {n w : ℕ} → n ≡ w + 2 ^ 23 → w ≤ 2 ^ 23 → (n - 2 ^ 23 ≡ w) × (n - 2 ^ 23 ≤ 2 ^ 23)
taken_off same top = (omega arith, omega arith)
