-- A finite f32 is X over 2^149, with its sign, where X is what its bits give; and X is at most 24 digits, shifted
-- up. Two numbers X and Y that one float has are equal.
use Prim.Native.Nat.{ℕ, zero, suc, ◌+◌, ◌*◌, ◌/◌, ◌%◌, ◌^◌, ◌<◌}
use mathlib.Core.Path.{◌≡◌, refl, sym, ap, ◌∙◌, subst}
use mathlib.Core.Bool.{Bool, true, false, cond}
use native.Mathlib.Omega.{arith}
use native.Mathlib.Nat.{mul-one, mod-lt, eq_of_mul-eq-mul_right}
use native.Mathlib.Decide.{dec_lt}
use borrow.Author.Tests.{eq-eqb, ne_eqb}
use lib.Dec.{T, leb, eqb, lit<}
use lib.IntN.{ℤ}
use lib.Ieee as ieee
use lib.Ieee.{Float, nan, inf, fin, binary32, up, down, odd, fits, to_bits, of_bits, is_nan}
use lib.Ieee.Bits.{of_bits-to_bits, to_bits-of_bits}
use lib.Ieee.Exact.{HasValue, odd_sign}
use lib.Ieee.Fits.{down_pos}
use lib.Ieee.Scale.{finite}
use Rattle.floats.specs.Units.{of_fields, of_pattern, units_of}

-- at most 24 digits, shifted up
abbrev pub Digits : ℕ → Type 0
Digits u = (q : ℕ) × (j : ℕ) × (q < 2 ^ 24) × (u ≡ q * 2 ^ j)

few_digits : (field digits : ℕ) → digits < 2 ^ 23 → Digits (of_fields field digits)
few_digits zero digits h = (digits, 0, omega arith, sym (mul-one digits))
few_digits (suc x) digits h = (2 ^ 23 + digits, x, omega arith, refl)

pattern_digits : (bits : ℕ) → Digits (of_pattern bits)
unfolding of_pattern
pattern_digits bits = few_digits (bits % 2 ^ 31 / 2 ^ 23) (bits % 2 ^ 23) (mod-lt bits (lit< tt))

-- the float that the fields stand for, up to the field of the infinities and NaN
fields_value : (s : Bool) (field digits : ℕ) → field < 255 → HasValue (ieee.of_fields binary32 s field digits) s (of_fields field digits) (2 ^ 149)
unfolding ieee.of_fields
fields_value s zero digits h = subst (λ (u : ℕ). HasValue (odd 24 s digits 0 149) s u (2 ^ 149)) (mul-one digits) (odd_sign 24 s digits 0 149)
fields_value s (suc x) digits h = rw (ne_eqb (suc x) 255 (λ e. omega arith)) (odd_sign 24 s (2 ^ 23 + digits) x 149)

pub pattern_value : (bits : ℕ) → bits % 2 ^ 31 / 2 ^ 23 < 255 → HasValue (of_bits binary32 bits) (leb (2 ^ 31) bits) (of_pattern bits) (2 ^ 149)
unfolding of_bits of_pattern
pattern_value bits h = fields_value (leb (2 ^ 31) bits) (bits % 2 ^ 31 / 2 ^ 23) (bits % 2 ^ 23) h

-- only a field of 255 stands for an infinity or NaN
fields_finite : (s : Bool) (field digits : ℕ) → field < 256 → T (finite (ieee.of_fields binary32 s field digits)) → field < 255
unfolding ieee.of_fields
fields_finite s zero digits h t = omega arith
fields_finite s (suc x) digits h t = go (dec_lt (suc x) 255)
  where
    none : (b : Bool) → T (finite (cond b (inf s) nan)) → ⊥
    none true u = u
    none false u = u

    go : Dec (suc x < 255) → suc x < 255
    go (yes below) = below
    go (no above) =
        let last : suc x ≡ 255 = omega arith in
        absurd (none (eqb digits 0) (rw (eq-eqb (suc x) 255 last) at t))

pattern_finite : (bits : ℕ) → T (finite (of_bits binary32 bits)) → bits % 2 ^ 31 / 2 ^ 23 < 255
unfolding of_bits
pattern_finite bits t = fields_finite (leb (2 ^ 31) bits) (bits % 2 ^ 31 / 2 ^ 23) (bits % 2 ^ 23) (omega arith) t

-- a finite f32 is X over 2^149
pub units_value : (s : Bool) (m : ℕ) (e : ℤ) → T (fits binary32 (fin s m e)) → m * up e * 2 ^ 149 ≡ units_of (fin s m e) * down e
unfolding units_of
units_value s m e f =
    let bits = to_bits binary32 (fin s m e) in
    let same : of_bits binary32 bits ≡ fin s m e = of_bits-to_bits binary32 (fin s m e) f in
    let below : bits % 2 ^ 31 / 2 ^ 23 < 255 = pattern_finite bits (subst (λ (x : Float). T (finite x)) (sym same) tt) in
    (subst (λ (x : Float). HasValue x (leb (2 ^ 31) bits) (of_pattern bits) (2 ^ 149)) same (pattern_value bits below)).1

-- so that X is the same whatever the sign
pub units_unsigned : (s t : Bool) (m : ℕ) (e : ℤ) → T (fits binary32 (fin s m e)) → T (fits binary32 (fin t m e)) → units_of (fin s m e) ≡ units_of (fin t m e)
units_unsigned s t m e f g = eq_of_mul-eq-mul_right (down e) (down_pos e) (units_of (fin s m e)) (units_of (fin t m e)) (sym (units_value s m e f) ∙ units_value t m e g)

pub units_digits : (x : Float) → Digits (units_of x)
unfolding units_of
units_digits x = pattern_digits (to_bits binary32 x)

-- and the X of a bit pattern is what its own fields give
pub units_of_pattern : (bits : ℕ) → bits < 2 ^ 32 → is_nan (of_bits binary32 bits) ≡ false → units_of (of_bits binary32 bits) ≡ of_pattern bits
unfolding units_of
units_of_pattern bits h n = ap of_pattern (to_bits-of_bits binary32 bits h (rw n tt))
