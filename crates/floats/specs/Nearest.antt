-- The whole number nearest to a fraction, ties to even (docs/RULES.md, "Quantizing into a record").
use Rattle.std.specs.Prelude.{ℕ, ◌+◌, ◌-◌, ◌*◌, ◌%◌, ◌^◌, ◌≤◌, ◌≡◌, Float}
use Rattle.std.specs.Float.Ieee.Nearest.{closest}
use Rattle.floats.specs.Units.{units_of}

-- |a - b|
abbrev pub gap : ℕ → ℕ → ℕ
gap a b = a - b + (b - a)

-- n is the whole number nearest to a / b: its multiple of b is nearest to a, and n is even where another's is as near
pub record IsNearest (a b n : ℕ) : Type 0 where
  pub least : (m : ℕ) → gap a (n * b) ≤ gap a (m * b)
  pub even_on_tie : (m : ℕ) → (m ≡ n → ⊥) → gap a (m * b) ≡ gap a (n * b) → n % 2 ≡ 0

-- each f32 x becomes the whole number nearest to 256x, judged on 256 X against the multiples of 2^149; this is its
-- magnitude
unfoldable pub nearest_whole : Float → ℕ
nearest_whole x = closest (256 * units_of x) (2 ^ 149)
