-- What the code gathers of a point from its last coordinate on.
use Rattle.std.specs.Prelude.{ℕ, ◌-◌, ◌≡◌, List, ℤ, length, drop}
use Rattle.enumeration.specs.Magnitude.{magnitude_index}
use Rattle.enumeration.specs.Point.{radius_of}
use Rattle.magnitude.specs.Rows.{counts_room, CountsTo, Countable}
use Rattle.magnitude.specs.declared.inner.weigh.Tail.{Tail}

-- of some coordinates: what their magnitudes sum to, and their index
abbrev pub tail_of : List ℤ → Tail
tail_of x = record { sum = radius_of x; index = magnitude_index x }

-- a point of radius k whose counts are all within the limit
pub record Weighable (k : ℕ) (x : List ℤ) : Type 0 where
  pub of_radius : radius_of x ≡ k
  pub countable : Countable (length x) k

-- the coordinates of x from `at` on are gathered, and `row` is the row of their number
pub record Gathered (k : ℕ) (x : List ℤ) (at : ℕ) (row : List ℕ) (tail : Tail) : Type 0 where
  pub room : length row ≡ counts_room
  pub of_length : CountsTo (length x - at) k row
  pub is_tail : tail ≡ tail_of (drop at x)
