-- Numbers and their bytes, written out: another order of the bytes, or another base, disagrees. proofs/Example.antt
-- computes every line.
use Rattle.std.specs.Prelude.{◌≡◌, [], ◌∷◌}
use Rattle.octets.specs.Octets.{high_first, from_high}

pub record Example : Type 0 where
  pub written_1 : high_first 1 255 ≡ 255 ∷ []
  pub written_2 : high_first 2 0x0103 ≡ 1 ∷ 3 ∷ []
  pub written_4 : high_first 4 0x05060708 ≡ 5 ∷ 6 ∷ 7 ∷ 8 ∷ []
  -- of a number that needs more bytes, the low ones
  pub written_low : high_first 2 0x05060708 ≡ 7 ∷ 8 ∷ []
  pub read_1 : from_high (255 ∷ []) ≡ 255
  pub read_2 : from_high (1 ∷ 3 ∷ []) ≡ 259
  pub read_4 : from_high (5 ∷ 6 ∷ 7 ∷ 8 ∷ []) ≡ 84281096
  pub read_largest : from_high (255 ∷ 255 ∷ 255 ∷ 255 ∷ []) ≡ 4294967295
