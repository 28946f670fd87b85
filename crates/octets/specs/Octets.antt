-- A number as bytes, high byte first (docs/RULES.md: "A number of several bytes has its high byte first"). Every
-- number of several bytes, in a table and in a record, is written and read by these definitions.
use Rattle.std.specs.Prelude.{ℕ, zero, suc, ◌+◌, ◌*◌, ◌/◌, ◌%◌, ◌^◌, List, [], ◌∷◌}

-- the low b bytes of a number
abbrev pub high_first : ℕ → ℕ → List ℕ
high_first zero n = []
high_first (suc b) n = n / 256 ^ b % 256 ∷ high_first b n

-- the number that bytes stand for, behind n
abbrev pub read_from : ℕ → List ℕ → ℕ
read_from n [] = n
read_from n (byte ∷ bytes) = read_from (256 * n + byte) bytes

-- the number that bytes stand for
abbrev pub from_high : List ℕ → ℕ
from_high bytes = read_from 0 bytes
