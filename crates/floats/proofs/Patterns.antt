-- Which bit patterns are refused: with the sign off, exactly those from that of 32,768 on, the infinities and every
-- NaN among them; 32,768 has the exponent field 142 and no digits. And which are those of NaN: beyond infinity's.
use Prim.Native.Nat.{ℕ, zero, suc, ◌+◌, ◌*◌, ◌/◌, ◌%◌, ◌^◌, ◌≤◌, ◌<◌}
use mathlib.Core.Path.{◌≡◌, refl, sym, ap, ◌∙◌}
use mathlib.Core.Bool.{Bool, true, false, cond, false≢true}
use native.Mathlib.Omega.{arith}
use native.Mathlib.Nat.{le_trans, lt_of_lt_of_le, mul-le-mul, mul-le-mul_left, mul-lt-mul_of_pos_right, mod-lt}
use native.Mathlib.Decide.{dec_lt}
use borrow.Author.Tests.{le-leb, lt-leb, lt-ltb, le-ltb, eq-eqb}
use lib.Dec.{leb, eqb, lit<, lit≤}
use lib.Pow.{pow_mono, pow_pos}
use lib.Ieee as ieee
use lib.Ieee.{Float, nan, inf, fin, binary32, of_bits, is_nan, nan_bits}
use lib.Ieee.Bits.{nan_bits_is, nan_bits_above}
use lib.Ieee.Exact.{HasValue}
use Rattle.floats.specs.Units.{of_fields, of_pattern, units_of, unusable_coefficient}
use Rattle.floats.proofs.Value.{pattern_value, units_of_pattern}

-- X by its fields: below field 142 it is below 32,768 x 2^149, and from there on it is not
fields_below : (field digits : ℕ) → digits < 2 ^ 23 → field < 142 → of_fields field digits < 32768 * 2 ^ 149
fields_below zero digits h below = lt_of_lt_of_le h (lit≤ tt)
fields_below (suc x) digits h below =
    let up_to : x ≤ 140 = omega arith in
    lt_of_lt_of_le (mul-lt-mul_of_pos_right {m = 2 ^ 23 + digits} {n = 2 ^ 24} (omega arith) (pow_pos x)) (le_trans (mul-le-mul_left (2 ^ 24) (pow_mono up_to)) (lit≤ tt))

fields_above : (field digits : ℕ) → 142 ≤ field → 32768 * 2 ^ 149 ≤ of_fields field digits
fields_above zero digits above = absurd (omega arith)
fields_above (suc x) digits above =
    let from : 141 ≤ x = omega arith in
    let most : 2 ^ 23 ≤ 2 ^ 23 + digits = omega arith in
    le_trans {m = 32768 * 2 ^ 149} (lit≤ {n = 2 ^ 23 * 2 ^ 141} tt) (mul-le-mul most (pow_mono from))

judged : (field digits : ℕ) → digits < 2 ^ 23 → leb (32768 * 2 ^ 149) (of_fields field digits) ≡ leb 142 field
judged field digits h = go (dec_lt field 142)
  where
    go : Dec (field < 142) → leb (32768 * 2 ^ 149) (of_fields field digits) ≡ leb 142 field
    go (yes below) = lt-leb (32768 * 2 ^ 149) (of_fields field digits) (fields_below field digits h below) ∙ sym (lt-leb 142 field below)
    go (no above) = let from : 142 ≤ field = omega arith in le-leb (32768 * 2 ^ 149) (of_fields field digits) (fields_above field digits from) ∙ sym (le-leb 142 field from)

-- the field of the infinities and NaN
either_unusable : (s b : Bool) → unusable_coefficient (cond b (inf s) nan) ≡ true
unfolding unusable_coefficient
either_unusable s true = refl
either_unusable s false = refl

last_field : (s : Bool) (field digits : ℕ) → field ≡ 255 → unusable_coefficient (ieee.of_fields binary32 s field digits) ≡ true
unfolding ieee.of_fields
last_field s zero digits last = absurd (omega arith)
last_field s (suc x) digits last = rw (eq-eqb (suc x) 255 last) (either_unusable s (eqb digits 0))

module _ (bits : ℕ) (h : bits < 2 ^ 32) where
  field : ℕ
  field = bits % 2 ^ 31 / 2 ^ 23

  special : field ≡ 255 → unusable_coefficient (of_bits binary32 bits) ≡ true
  unfolding of_bits field
  special last = last_field (leb (2 ^ 31) bits) (bits % 2 ^ 31 / 2 ^ 23) (bits % 2 ^ 23) last

  ordinary : (x : Float) → of_bits binary32 bits ≡ x → HasValue x (leb (2 ^ 31) bits) (of_pattern bits) (2 ^ 149) → unusable_coefficient x ≡ leb 142 field
  unfolding unusable_coefficient is_nan of_pattern field
  ordinary nan same v = absurd v
  ordinary (inf s) same v = absurd v
  ordinary (fin s m e) same v =
      ap (leb (32768 * 2 ^ 149)) (ap units_of (sym same) ∙ units_of_pattern bits h (ap is_nan same))
      ∙ judged (bits % 2 ^ 31 / 2 ^ 23) (bits % 2 ^ 23) (mod-lt bits (lit< tt))

  of_field : unusable_coefficient (of_bits binary32 bits) ≡ leb 142 field
  unfolding field
  of_field = go (dec_lt (bits % 2 ^ 31 / 2 ^ 23) 255)
    where
      go : Dec (bits % 2 ^ 31 / 2 ^ 23 < 255) → unusable_coefficient (of_bits binary32 bits) ≡ leb 142 field
      go (yes below) = ordinary (of_bits binary32 bits) refl (pattern_value bits below)
      go (no above) = special (omega arith) ∙ sym (le-leb 142 (bits % 2 ^ 31 / 2 ^ 23) (omega arith))

  pub refused_patterns : unusable_coefficient (of_bits binary32 bits) ≡ leb (142 * 2 ^ 23) (bits % 2 ^ 31)
  unfolding field
  refused_patterns = of_field ∙ go (dec_lt (bits % 2 ^ 31 / 2 ^ 23) 142)
    where
      go : Dec (bits % 2 ^ 31 / 2 ^ 23 < 142) → leb 142 (bits % 2 ^ 31 / 2 ^ 23) ≡ leb (142 * 2 ^ 23) (bits % 2 ^ 31)
      go (yes below) = lt-leb 142 (bits % 2 ^ 31 / 2 ^ 23) below ∙ sym (lt-leb (142 * 2 ^ 23) (bits % 2 ^ 31) (omega arith))
      go (no above) = le-leb 142 (bits % 2 ^ 31 / 2 ^ 23) (omega arith) ∙ sym (le-leb (142 * 2 ^ 23) (bits % 2 ^ 31) (omega arith))

-- ---- the patterns of NaN
the_nan : (x : Float) → is_nan x ≡ true → x ≡ nan
unfolding is_nan
the_nan nan h = refl
the_nan (inf s) h = absurd (false≢true h)
the_nan (fin s m e) h = absurd (false≢true h)

pub nan_pattern : (bits : ℕ) → 255 * 2 ^ 23 < bits % 2 ^ 31 → of_bits binary32 bits ≡ nan
nan_pattern bits beyond = the_nan (of_bits binary32 bits) (sym (nan_bits_is binary32 bits) ∙ nan_bits_above binary32 bits ∙ lt-ltb (255 * 2 ^ 23) (bits % 2 ^ 31) beyond)

pub no_nan_pattern : (bits : ℕ) → bits % 2 ^ 31 ≤ 255 * 2 ^ 23 → nan_bits binary32 bits ≡ false
no_nan_pattern bits up_to = nan_bits_above binary32 bits ∙ le-ltb (255 * 2 ^ 23) (bits % 2 ^ 31) up_to
