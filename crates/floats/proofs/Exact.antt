-- A whole number of magnitude below 2^24 converts without rounding, and its quotient by 256 is exact too; and a
-- float is known by its sign and its X, so that no other is that number over 256.
use Prim.Native.Nat.{ℕ, ◌+◌, ◌-◌, ◌*◌, ◌/◌, ◌^◌, ◌<◌}
use mathlib.Core.Path.{◌≡◌, refl, sym, ap, ap₂, ◌∙◌}
use mathlib.Core.Bool.{Bool, true, false, cond, false≢true}
use native.Mathlib.Omega.{arith}
use native.Mathlib.Nat.{le_of_lt, mul_comm, mul_assoc, mul_right_comm, mul-pos, mul-div_cancel, lt_of_lt_of_le, mul-lt-mul_of_pos_right, eq_of_mul-eq-mul_right}
use lib.Dec.{T, lit<, lit≤, le→leb, lt→ltb}
use lib.IntN.{ℤ, pos, negsuc, nat_abs}
use lib.Ieee.{Float, nan, inf, fin, binary32, up, down, round, div, fits, of_int, in_float, size, hid, top, to_bits, of_bits}
use lib.Ieee.Back.{round_whole}
use lib.Ieee.Bits.{of_bits-to_bits}
use lib.Ieee.Exact.{HasValue, round_exact}
use lib.Ieee.Fits.{down_pos, round-fits}
use lib.Ieee.Scale.{round_same}
use Rattle.enumeration.specs.Point.{is_negative}
use Rattle.floats.specs.Units.{units_of}
use Rattle.floats.specs.Exact.{IsOver256, over256}
use Rattle.floats.proofs.Value.{units_value}

-- 256.0
abbrev pub divisor : Float
divisor = fin false 1 (pos 8)

-- ---- a value n / 1 divided by 256
crossed : (a d n : ℕ) → a * 1 ≡ n * d → a * 1 * 256 ≡ n * (1 * 2 ^ 8 * d)
crossed a d n same = ap (λ (x : ℕ). x * 256) same ∙ mul_assoc n d 256 ∙ ap (λ (x : ℕ). n * x) (mul_comm d 256)

divided_is : (x : Float) (s : Bool) (n : ℕ) → HasValue x s n 1 → div binary32 x divisor ≡ round binary32 s n 256
unfolding div
divided_is nan s n v = absurd v
divided_is (inf t) s n v = absurd v
divided_is (fin true m e) false n v = absurd (false≢true (sym v.0))
divided_is (fin false m e) true n v = absurd (false≢true v.0)
divided_is (fin true m e) true n v = round_same binary32 true (m * up e * 1) (1 * 2 ^ 8 * down e) n 256 (mul-pos (lit< tt) (down_pos e)) (lit< tt) (crossed (m * up e) (down e) n v.1)
divided_is (fin false m e) false n v = round_same binary32 false (m * up e * 1) (1 * 2 ^ 8 * down e) n 256 (mul-pos (lit< tt) (down_pos e)) (lit< tt) (crossed (m * up e) (down e) n v.1)

quotient_exact : (s : Bool) (n : ℕ) → n < 2 ^ 24 → HasValue (round binary32 s n 256) s n 256
quotient_exact s n h =
    round_exact binary32 s n 256 n 141 (lit< tt) h
    (lt_of_lt_of_le (mul-lt-mul_of_pos_right {m = n} {n = 2 ^ 24} {k = 2 ^ 141} h (lit< tt)) (lit≤ tt)) (sym (mul_assoc n (2 ^ 141) 256))

-- ---- what such a value says of X
same_multiple : (a u d n c : ℕ) → a * c ≡ u * d → a * 256 ≡ n * d → 0 < d → 256 * u ≡ n * c
same_multiple a u d n c units value dp =
    eq_of_mul-eq-mul_right d dp (256 * u) (n * c)
    (mul_assoc 256 u d ∙ ap (λ (x : ℕ). 256 * x) (sym units) ∙ sym (mul_assoc 256 a c) ∙ ap (λ (x : ℕ). x * c) (mul_comm 256 a ∙ value) ∙ mul_right_comm n d c)

of_value : (z : ℤ) (s : Bool) (v : Float) → s ≡ is_negative z → T (fits binary32 v) → HasValue v s (nat_abs z) 256 → IsOver256 z v
of_value z s nan is-sign f h = absurd h
of_value z s (inf t) is-sign f h = absurd h
of_value z s (fin t m e) is-sign f h = record {
  is_finite = refl;
  sign = h.0 ∙ is-sign;
  value = same_multiple (m * up e) (units_of (fin t m e)) (down e) (nat_abs z) (2 ^ 149) (units_value t m e f) h.1 (down_pos e);
}

quotient_is : (z : ℤ) (s : Bool) → s ≡ is_negative z → nat_abs z < 2 ^ 24 → div binary32 (round binary32 s (nat_abs z) 1) divisor ≡ over256 z
unfolding over256
quotient_is z s is-sign h =
    let n = nat_abs z in
    divided_is (round binary32 s n 1) s n (round_whole binary32 s n (le_of_lt h)) ∙ ap (λ (t : Bool). round binary32 t n 256) is-sign

-- converted and divided
pub quotient_says : (z : ℤ) → nat_abs z < 2 ^ 24 → div binary32 (of_int binary32 z) divisor ≡ over256 z
unfolding of_int
quotient_says (pos n) h = quotient_is (pos n) false refl h
quotient_says (negsuc n) h = quotient_is (negsuc n) true refl h

pub exact_quotient : (z : ℤ) → nat_abs z < 2 ^ 24 → IsOver256 z (over256 z)
unfolding over256
exact_quotient z h =
    let n = nat_abs z in
    of_value z (is_negative z) (round binary32 (is_negative z) n 256) refl (round-fits binary32 (is_negative z) n 256) (quotient_exact (is_negative z) n h)

-- the conversion loses nothing
pub converts : (z : ℤ) → nat_abs z < 2 ^ 24 → T (in_float binary32 z)
unfolding in_float
converts (pos n) h = le→leb n (2 ^ 24) (le_of_lt h)
converts (negsuc n) h = lt→ltb n (2 ^ 24) (le_of_lt h)

-- ---- a float by its sign and X
abbrev bits_by : Bool → ℕ → ℕ
bits_by s u = cond s (top binary32) 0 + (size u - 24) * hid binary32 + u / 2 ^ (size u - 24)

bits_by_lem : (s : Bool) (m : ℕ) (e : ℤ) → T (fits binary32 (fin s m e)) → to_bits binary32 (fin s m e) ≡ bits_by s (units_of (fin s m e))
unfolding to_bits
bits_by_lem s m e f =
    let u = units_of (fin s m e) in
    ap (bits_by s) (ap (λ (x : ℕ). x / down e) (units_value s m e f) ∙ mul-div_cancel u (down_pos e))

known : (s t : Bool) (m n : ℕ) (e d : ℤ) → T (fits binary32 (fin s m e)) → T (fits binary32 (fin t n d)) → s ≡ t → units_of (fin s m e) ≡ units_of (fin t n d)
    → fin s m e ≡ fin t n d
known s t m n e d f g sign units =
    sym (of_bits-to_bits binary32 (fin s m e) f)
    ∙ ap (of_bits binary32) (bits_by_lem s m e f ∙ ap₂ bits_by sign units ∙ sym (bits_by_lem t n d g))
    ∙ of_bits-to_bits binary32 (fin t n d) g

pub only_quotient : (z : ℤ) (v w : Float) → T (fits binary32 v) → T (fits binary32 w) → IsOver256 z v → IsOver256 z w → v ≡ w
only_quotient z nan w f g p q = absurd (false≢true p.is_finite)
only_quotient z (inf s) w f g p q = absurd (false≢true p.is_finite)
only_quotient z (fin s m e) nan f g p q = absurd (false≢true q.is_finite)
only_quotient z (fin s m e) (inf t) f g p q = absurd (false≢true q.is_finite)
only_quotient z (fin s m e) (fin t n d) f g p q =
    known s t m n e d f g (p.sign ∙ sym q.sign) (same_units (units_of (fin s m e)) (units_of (fin t n d)) (p.value ∙ sym q.value))
  where
    same_units : (u w : ℕ) → 256 * u ≡ 256 * w → u ≡ w
    same_units u w same = omega arith
