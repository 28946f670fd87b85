-- An f32 as a whole number over 2^149 (docs/RULES.md, "Quantizing into a record"): what "exact", "nearest" and "of
-- magnitude 32,768 or more" are judged on. A bit pattern is a sign, 8 bits of exponent field and 23 digits.
use Rattle.std.specs.Prelude.{ℕ, zero, suc, ◌+◌, ◌*◌, ◌/◌, ◌%◌, ◌^◌, Bool, true, false, leb, Float, pos}
use Rattle.std.specs.Float.{nan, inf, fin, binary32}
use Rattle.std.specs.Float.Ieee.{to_bits, lt}

-- the whole number that an exponent field and the digits stand for: a field of 0 has no leading digit, and counts
-- as a field of 1
abbrev pub of_fields : ℕ → ℕ → ℕ
of_fields zero digits = digits
of_fields (suc x) digits = (2 ^ 23 + digits) * 2 ^ x

-- the same of a bit pattern, the sign apart
unfoldable pub of_pattern : ℕ → ℕ
of_pattern bits = of_fields (bits % 2 ^ 31 / 2 ^ 23) (bits % 2 ^ 23)

-- X: every finite f32 is a whole number, given by its bits, over 2^149
unfoldable pub units_of : Float → ℕ
unfolding of_pattern
units_of x = of_pattern (to_bits binary32 x)

-- NaN, infinities and values of magnitude 32,768 or more are refused
unfoldable pub unusable_coefficient : Float → Bool
unusable_coefficient nan = true
unusable_coefficient (inf s) = true
unusable_coefficient (fin s m e) = leb (32768 * 2 ^ 149) (units_of (fin s m e))

-- the sign of a coefficient: below zero, which neither of the two zeros is
unfoldable pub negative : Float → Bool
negative x = lt x (fin false 0 (pos 0))
