-- A way to number the points of every shell, and what makes it lawful: index and point undo each other between the
-- points of a shell and the indices that name one.
use Rattle.std.specs.Prelude.{ℕ, ◌<◌, ◌≡◌, List, Bool, true, ℤ}
use Rattle.enumeration.specs.Point.{OnShell}

pub record Enumeration : Type 0 where
  -- how many indices a shell has, by length and radius
  pub total : ℕ → ℕ → ℕ
  pub index : List ℤ → ℕ
  -- by length, radius and index
  pub point : ℕ → ℕ → ℕ → List ℤ
  -- by length, radius and index: whether an index below the total names a point of the shell
  pub names : ℕ → ℕ → ℕ → Bool

pub record Lawful (e : Enumeration) : Type 0 where
  -- a point of the shell has an index below the total, which names it
  pub index_below : (l k : ℕ) (x : List ℤ) → OnShell l k x → e.index x < e.total l k
  pub index_names_lem : (l k : ℕ) (x : List ℤ) → OnShell l k x → e.names l k (e.index x) ≡ true
  pub point_of_index : (l k : ℕ) (x : List ℤ) → OnShell l k x → e.point l k (e.index x) ≡ x
  -- an index below the total that names a point gives one of the shell, and its index is that number
  pub point_on_shell : (l k n : ℕ) → n < e.total l k → e.names l k n ≡ true → OnShell l k (e.point l k n)
  pub index_of_point : (l k n : ℕ) → n < e.total l k → e.names l k n ≡ true → e.index (e.point l k n) ≡ n
  -- radius 0 has one index
  pub one_at_0 : (l : ℕ) → e.total l 0 ≡ 1

-- every index below the total names a point
abbrev pub Full : Enumeration → Type 0
Full e = (l k n : ℕ) → n < e.total l k → e.names l k n ≡ true
