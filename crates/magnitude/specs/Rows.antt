-- Rows of counts, as the code makes them: number j of the row of length l is N(l,j), up to a radius k.
use Rattle.std.specs.Prelude.{ℕ, zero, suc, ◌+◌, ◌-◌, ◌≤◌, ◌<◌, ◌≡◌, List, length, get_or}
use Rattle.counts.specs.Counts.{N}
use Rattle.tables.specs.Usable.{most_points}

-- the radii 0 to 32
abbrev pub counts_room : ℕ
counts_room = 33

-- the row of length l, up to radius k
abbrev pub CountsTo : ℕ → ℕ → List ℕ → Type 0
CountsTo l k row = (j : ℕ) → j ≤ k → get_or row j 0 ≡ N l j

-- the row of length 0, up to every radius
abbrev pub IsStart : List ℕ → Type 0
IsStart row = (k : ℕ) → CountsTo 0 k row

-- the row of the length above (eq. 10): N(l,k) = N(l,k-1) + N(l-1,k) + N(l-1,k-1); at radius 0 it is the same
unfoldable pub above : List ℕ → ℕ → ℕ
above row zero = get_or row 0 0
above row (suc j) = above row j + get_or row (suc j) 0 + get_or row j 0

-- the row of the length below, by the same equation: N(l-1,k) = N(l,k) - N(l,k-1) - N(l-1,k-1)
unfoldable pub below : List ℕ → ℕ → ℕ
below row zero = get_or row 0 0
below row (suc j) = get_or row (suc j) 0 - get_or row j 0 - below row j

-- what is made of a row, up to radius k
abbrev pub Raised : ℕ → List ℕ → List ℕ → Type 0
Raised k row made = (j : ℕ) → j ≤ k → get_or made j 0 ≡ above row j

abbrev pub Lowered : ℕ → List ℕ → List ℕ → Type 0
Lowered k row made = (j : ℕ) → j ≤ k → get_or made j 0 ≡ below row j

-- what is asked for that: there is room, no count passes the limit, and no difference is below 0
pub record Raisable (k : ℕ) (row : List ℕ) : Type 0 where
  pub room : k < length row
  pub limited : (j : ℕ) → j ≤ k → above row j ≤ most_points

pub record Lowerable (k : ℕ) (row : List ℕ) : Type 0 where
  pub room : k < length row
  pub differs : (j : ℕ) → j < k → get_or row j 0 + below row j ≤ get_or row (suc j) 0

-- every count of that length and radius is at most the limit
pub record Countable (l k : ℕ) : Type 0 where
  pub room : k < counts_room
  pub limited : (m j : ℕ) → m ≤ l → j ≤ k → N m j ≤ most_points
