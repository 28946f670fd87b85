-- Numbers put together, and two stored words. proofs/Example.antt computes every line.
use Rattle.std.specs.Prelude.{◌≡◌, [], ◌∷◌}
use Rattle.patterns.specs.Words.{together, stored}

pub record Example : Type 0 where
  pub one_two : together (1 ∷ 2 ∷ []) ≡ 0x0002_0001
  -- length 2 from s = 0 on: 1, 2, 1
  pub word_10 : stored 10 ≡ 0x0000_0001_0002_0001
  -- length 16 from s = 4 on: 1820, 4368, 8008, 11440
  pub word_81 : stored 81 ≡ 0x2cb0_1f48_1110_071c
