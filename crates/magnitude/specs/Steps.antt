-- What is left to write of a point, and what is asked of it.
use Rattle.std.specs.Prelude.{ℕ, suc, ◌-◌, ◌*◌, ◌≤◌, ◌<◌, ◌≡◌, List, ◌∷◌, ℤ, length, get_or}
use Rattle.counts.specs.Counts.{N}
use Rattle.enumeration.specs.Among.{first_among, left_among, passed_among}
use Rattle.enumeration.specs.Magnitude.{magnitude_point}
use Rattle.tables.specs.Usable.{most_points}
use Rattle.magnitude.specs.Rows.{Countable}
use Rattle.magnitude.specs.declared.inner.read.Left.{Left}
use Rattle.magnitude.specs.declared.inner.read.Step.{Step}

-- the point of length l that is left to write
abbrev pub point_left : Left → ℕ → List ℤ
point_left left l = magnitude_point l left.k left.n

-- it can be written
pub record Writable (left : Left) (l : ℕ) : Type 0 where
  pub countable : Countable l left.k
  pub index_below : left.n < N l left.k

-- both signs of a magnitude that leaves j to the rest, by a row of counts
abbrev pub both_in : List ℕ → ℕ → ℕ
both_in row j = 2 * get_or row j 0

-- a number among those that begin with no zero; a row's counts are all within the limit
pub record Passable (row : List ℕ) (k n : ℕ) : Type 0 where
  pub room : k < length row
  pub limited : (j : ℕ) → j ≤ k → get_or row j 0 ≤ most_points
  pub number_below : n < passed_among (both_in row) k k

-- the magnitude that it begins with is passed: what that leaves to the rest, and which of those that begin with the
-- magnitude it is
pub record IsPassed (row : List ℕ) (k n : ℕ) (left : Left) : Type 0 where
  pub is_sum : left.k ≡ k - first_among (both_in row) k n
  pub is_number : left.n ≡ left_among (both_in row) k n

-- the first coordinate of what is left, and what is left behind it
pub record IsStep (left : Left) (behind : ℕ) (step : Step) : Type 0 where
  pub less : step.left.k ≤ left.k
  pub writable : Writable step.left behind
  pub first : point_left left (suc behind) ≡ step.c ∷ point_left step.left behind
