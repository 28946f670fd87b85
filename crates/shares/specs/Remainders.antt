-- Largest remainders as a property (docs/RULES.md, "Quantizing into a record": what is missing to the sum k is
-- given "to the coordinates with the largest remainders", "and among equal remainders to the lower coordinate"). k
-- is the radius, ms are the magnitudes a_i, `shares` what the coordinates get. proofs/Remainders.antt shows that
-- `shared` has the property, and that nothing else has it.
use Rattle.std.specs.Prelude.{ℕ, suc, ◌<◌, ◌≡◌, List, ◌⊎◌, length, get_or}
use Rattle.enumeration.specs.Point.{sum_of}
use Rattle.shares.specs.Shares.{whole_part, remainder}

-- the whole part and the remainder of coordinate i
abbrev pub whole_at : ℕ → List ℕ → ℕ → ℕ
whole_at k ms i = whole_part k (sum_of ms) (get_or ms i 0)

abbrev pub rest_at : ℕ → List ℕ → ℕ → ℕ
rest_at k ms i = remainder k (sum_of ms) (get_or ms i 0)

-- i comes before j: its remainder is larger, or the two are equal and i is the lower coordinate
abbrev pub Before : (ℕ → ℕ) → ℕ → ℕ → Type 0
Before rest i j = (rest j < rest i) ⊎ ((rest j ≡ rest i) × (i < j))

pub record IsShared (k : ℕ) (ms shares : List ℕ) : Type 0 where
  pub as_long : length shares ≡ length ms
  -- each coordinate has the whole part, or one more
  pub whole_or_more : (i : ℕ) → i < length ms → (get_or shares i 0 ≡ whole_at k ms i) ⊎ (get_or shares i 0 ≡ suc (whole_at k ms i))
  -- where i has one more and j has not, i comes before j
  pub largest_first : (i j : ℕ) → i < length ms → j < length ms
      → get_or shares i 0 ≡ suc (whole_at k ms i) → get_or shares j 0 ≡ whole_at k ms j → Before (rest_at k ms) i j
  -- until the sum is k
  pub sums_to : sum_of shares ≡ k
