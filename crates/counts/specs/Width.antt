-- The width of a total: docs/RULES.md, "Points and counts": "the least number of bits with 2^b at least T".
use Rattle.std.specs.Prelude.{ℕ, zero, suc, ◌≤◌, ◌^◌, true, false, leb}

-- the first of b, b + 1, .. with 2^b at least n, when it is among the next `tries`
unfoldable pub bits_from : ℕ → ℕ → ℕ → ℕ
bits_from zero b n = b
bits_from (suc tries) b n = elim (leb n (2 ^ b)) [ true ↦ b | false ↦ bits_from tries (suc b) n ]

-- 2^n is at least n, so n tries are enough
unfoldable pub width : ℕ → ℕ
width n = bits_from n 0 n

-- what the sentence says of b: 2^b is at least n, and b is the least such number
pub record IsWidth (n b : ℕ) : Type 0 where
  pub enough : n ≤ 2 ^ b
  pub least : (c : ℕ) → n ≤ 2 ^ c → b ≤ c
