-- An f32 that is a whole number over 256, exactly (docs/RULES.md, "The page": the value of a coefficient is exact,
-- and zero is positive zero). It is judged as the rounding is: on 256 X against the multiples of 2^149.
use Rattle.std.specs.Prelude.{◌*◌, ◌^◌, ◌≡◌, Bool, true, false, Float, ℤ, nat_abs}
use Rattle.std.specs.Float.{nan, inf, fin, binary32}
use Rattle.std.specs.Float.Ieee.{round}
use Rattle.std.specs.Float.Ieee.Scale.{finite}
use Rattle.enumeration.specs.Point.{is_negative}
use Rattle.floats.specs.Units.{units_of}

-- the sign, which zero has too
abbrev pub sign_of : Float → Bool
sign_of nan = false
sign_of (inf s) = s
sign_of (fin s m e) = s

-- v is z / 256
pub record IsOver256 (z : ℤ) (v : Float) : Type 0 where
  pub is_finite : finite v ≡ true
  pub sign : sign_of v ≡ is_negative z
  pub value : 256 * units_of v ≡ nat_abs z * 2 ^ 149

-- z / 256 as f32, as operations on f32 round; for magnitudes below 2^24 proofs/Exact.antt shows that it is exact
unfoldable pub over256 : ℤ → Float
over256 z = round binary32 (is_negative z) (nat_abs z) 256
