-- What is numbered by a first magnitude: all that begin with 1 come first, then all that begin with 2, and so on. k is
-- what the magnitudes sum to, and `many j` is how many begin with the magnitude that leaves j to the others. So are
-- shapes numbered (specs/Reading.antt), and the points of the magnitude enumeration that begin with no zero
-- (specs/Magnitude.antt).
use Rattle.std.specs.Prelude.{ℕ, zero, suc, ◌-◌, true, false, ltb}
use Rattle.counts.specs.Counts.{sum_after}

-- the first magnitude of the n-th
unfoldable pub first_among : (ℕ → ℕ) → ℕ → ℕ → ℕ
first_among many zero n = 0
first_among many (suc k) n = elim (ltb n (many k)) [ true ↦ 1 | false ↦ suc (first_among many k (n - many k)) ]

-- and which of those that begin with that magnitude the n-th is
unfoldable pub left_among : (ℕ → ℕ) → ℕ → ℕ → ℕ
left_among many zero n = n
left_among many (suc k) n = elim (ltb n (many k)) [ true ↦ n | false ↦ left_among many k (n - many k) ]

-- how many begin with one of the magnitudes 1 to i
abbrev pub passed_among : (ℕ → ℕ) → ℕ → ℕ → ℕ
passed_among many k i = sum_after (λ j. many (k - j)) 0 i
