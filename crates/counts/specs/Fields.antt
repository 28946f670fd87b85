-- The shape field of an index: docs/RULES.md, "The product index" and "The product-product index"; the paper, equations
-- 14 and 28. Each shape of s magnitudes that sum to k is numbered in a field with room for so many numbers.
use Rattle.std.specs.Prelude.{ℕ, zero, suc, ◌≤◌, ◌^◌, ◌≡◌}
use Rattle.counts.specs.Counts.{S, range_start}
use Rattle.counts.specs.Width.{width}
use Rattle.counts.specs.declared.Field.{Field}
use Rattle.counts.specs.declared.Field.TheVariants as field

-- 2^e, with the fewest bits e for which that is at least S(s,k)
unfoldable pub bit_field : ℕ → ℕ → ℕ
bit_field s k = 2 ^ width (S s k)

-- the room of either field, and for n shapes
abbrev pub size_of : Field → ℕ → ℕ → ℕ
size_of field.Exact = S
size_of field.Bits = bit_field

abbrev pub room_for : Field → ℕ → ℕ
room_for field.Exact n = n
room_for field.Bits n = 2 ^ width n

-- How many indices a shell has: its ranges for s = 1 to m together (eq. 14 with the field S, eq. 28 with bits). Radius
-- 0 has one index.
unfoldable pub field_total : (ℕ → ℕ → ℕ) → ℕ → ℕ → ℕ
field_total F l zero = 1
field_total F l (suc k) = range_start F 0 l (suc k)

-- what is asked of a field: each shape has a number in it, and where there are no magnitudes, that alone
pub record IsField (F : ℕ → ℕ → ℕ) : Type 0 where
  pub room : (s k : ℕ) → S s k ≤ F s k
  pub one : F 0 0 ≡ 1
