-- The coefficients of docs/RULES.md, "Worked cases", and the whole numbers that they become, by the definitions.
-- proofs/Example.antt computes every line, so that another rounding or another limit disagrees with it.
use Rattle.std.specs.Prelude.{ℕ, ◌-◌, ◌^◌, ◌≡◌, Bool, true, false, Float, pos, negsuc}
use Rattle.std.specs.Float.{nan, inf, fin, binary32}
use Rattle.std.specs.Float.Ieee.{to_bits}
use Rattle.floats.specs.Units.{units_of, unusable_coefficient, negative}
use Rattle.floats.specs.Nearest.{nearest_whole}
use Rattle.floats.specs.Exact.{over256}

-- n / 512, negative where s is true, by an odd n
abbrev pub over512 : Bool → ℕ → Float
over512 s n = fin s n (negsuc 8)

pub record Example : Type 0 where
  -- 1/512 becomes 0, 3/512 becomes 2, 5/512 becomes 2
  pub whole_1 : nearest_whole (over512 false 1) ≡ 0
  pub whole_3 : nearest_whole (over512 false 3) ≡ 2
  pub whole_5 : nearest_whole (over512 true 5) ≡ 2
  -- the largest f32 below 32,768 becomes 8,388,608; 32,768 is refused
  pub whole_largest : nearest_whole (over512 false (2 ^ 24 - 1)) ≡ 8388608
  pub largest_usable : unusable_coefficient (over512 true (2 ^ 24 - 1)) ≡ false
  pub limit_refused : unusable_coefficient (fin false 1 (pos 15)) ≡ true
  pub negative_limit_refused : unusable_coefficient (fin true 1 (pos 15)) ≡ true
  pub nan_refused : unusable_coefficient nan ≡ true
  pub infinity_refused : unusable_coefficient (inf false) ≡ true
  pub negative_infinity_refused : unusable_coefficient (inf true) ≡ true
  -- negative is below zero, which neither zero is
  pub below_zero : negative (over512 true 1) ≡ true
  pub above_zero : negative (over512 false 1) ≡ false
  pub zero_not_below : negative (fin false 0 (pos 0)) ≡ false
  pub negative_zero_not_below : negative (fin true 0 (pos 0)) ≡ false
  -- both zeros give 0; 1 is 2^149 over 2^149, and the smallest magnitude above 0 is 1 over it
  pub zero : nearest_whole (fin false 0 (pos 0)) ≡ 0
  pub negative_zero : nearest_whole (fin true 0 (pos 0)) ≡ 0
  pub one : units_of (fin false 1 (pos 0)) ≡ 2 ^ 149
  pub smallest : units_of (fin true 1 (negsuc 148)) ≡ 1
  pub smallest_becomes : nearest_whole (fin true 1 (negsuc 148)) ≡ 0
  -- whole numbers over 256, as bit patterns: 775 / 256 is 3.02734375, and zero is positive zero
  pub over_775 : to_bits binary32 (over256 (pos 775)) ≡ 1078050816
  pub over_negative : to_bits binary32 (over256 (negsuc 774)) ≡ 3225534464
  pub over_zero : to_bits binary32 (over256 (pos 0)) ≡ 0
  pub over_largest : to_bits binary32 (over256 (pos 16777215)) ≡ 1199570943
