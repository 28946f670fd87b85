-- What a call says, in one number: its answer, or 2^40 plus the number of its refusal; or, where the answer has no
-- value, 0 or the number.
use Rattle.std.specs.Prelude.{ℕ, zero, suc, ◌+◌, ◌^◌, List, [], ◌∷◌, Float, get_or}
use Rattle.std.specs.Float.{binary32}
use Rattle.std.specs.Float.Ieee.{of_bits}

unfoldable pub coded : List ℕ → ℕ
coded [] = 0
coded (zero ∷ vs) = get_or vs 0 0
coded (suc n ∷ vs) = 2 ^ 40 + suc n

-- the value that stands behind the number that is said first
abbrev pub valued : List ℕ → ℕ
valued said = get_or said 1 0

-- the zero that stands for a value that is not carried
abbrev pub positive_zero : Float
positive_zero = of_bits binary32 0
