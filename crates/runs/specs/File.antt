-- The run of coefficients in a file (docs/RULES.md, "Sender program": "each f32 as its four bytes, high byte first").
-- `bytes` are those of the file, any.
use Rattle.std.specs.Prelude.{ℕ, ◌*◌, ◌%◌, List, [], ◌∷◌, Float, length}
use Rattle.std.specs.Float.{binary32}
use Rattle.std.specs.Float.Ieee.{of_bits}
use Rattle.answers.specs.Checks.{pick, wrong_length}
use Rattle.octets.specs.Octets.{from_high}

-- the coefficient whose bit pattern these four bytes are
abbrev pub coefficient_of : List ℕ → Float
coefficient_of four = of_bits binary32 (from_high four)

-- the coefficients of each four bytes in turn, and of a shorter last part none
unfoldable pub each_four : List ℕ → List Float
each_four [] = []
each_four (a ∷ []) = []
each_four (a ∷ b ∷ []) = []
each_four (a ∷ b ∷ c ∷ []) = []
each_four (a ∷ b ∷ c ∷ d ∷ bytes) = coefficient_of (a ∷ b ∷ c ∷ d ∷ []) ∷ each_four bytes

-- the run: bytes that are no whole number of fours give the empty one, which no good table accepts, so that such a
-- file is refused 4
abbrev pub run_of : List ℕ → List Float
run_of bytes = pick (wrong_length (length bytes % 4) 0) [] (each_four bytes)

-- So many bytes of a file tell whether its run is too long, however long it is: 4,096 places of length 16 have 65,536
-- coordinates, and these are the bytes of one more.
abbrev pub run_room : ℕ
run_room = 4 * 65537
