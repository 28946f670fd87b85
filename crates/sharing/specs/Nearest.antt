-- Nearest on the shell (docs/RULES.md, "Quantizing into a record"). ws are whole numbers with their signs, the a_i of
-- the rules; A is the sum of their magnitudes, and k the radius.
use Rattle.std.specs.Prelude.{ℕ, ◌+◌, ◌*◌, ◌≤◌, ◌<◌, List, [], ◌∷◌, ℤ, pos, nat_abs, ◌-ℤ◌, ◌*ℤ◌, length, get_or}
use Rattle.enumeration.specs.Point.{radius_of, OnShell}

-- k x a - A x c, for a coordinate c
abbrev pub difference : ℕ → ℕ → ℤ → ℤ → ℤ
difference k total a c = pos k *ℤ a -ℤ pos total *ℤ c

abbrev pub square : ℤ → ℕ
square z = nat_abs z * nat_abs z

-- the sum of the squares of the differences, coordinate by coordinate
unfoldable pub sum_of_squares : ℕ → ℕ → List ℤ → List ℤ → ℕ
sum_of_squares k total [] q = 0
sum_of_squares k total (a ∷ ws) [] = 0
sum_of_squares k total (a ∷ ws) (c ∷ q) = square (difference k total a c) + sum_of_squares k total ws q

-- p is a point of the shell, no point q of the shell has a smaller sum, whatever its signs, and each difference of p is
-- smaller in magnitude than A
pub record NearestOnShell (k : ℕ) (ws p : List ℤ) : Type 0 where
  pub on_shell : OnShell (length ws) k p
  pub none_nearer : (q : List ℤ) → OnShell (length ws) k q → sum_of_squares k (radius_of ws) ws p ≤ sum_of_squares k (radius_of ws) ws q
  pub each_below : (i : ℕ) → i < length ws → nat_abs (difference k (radius_of ws) (get_or ws i (pos 0)) (get_or p i (pos 0))) < radius_of ws
