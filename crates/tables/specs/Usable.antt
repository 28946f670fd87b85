-- Which shells there are: docs/RULES.md, "Points and counts", "Refusal numbers" and "Order of checks". l is the
-- length and k the radius, any whole numbers; `total` is how many indices the shell has, which an enumeration says.
use Rattle.std.specs.Prelude.{ℕ, ◌≤◌, ◌^◌, List, [], ◌∷◌, Bool, ltb}
use Rattle.answers.specs.Checks.{Check, any_of, fails_of}

-- 1: length outside 1 to 16
abbrev pub length_outside : ℕ → Bool
length_outside l = any_of (ltb l 1 ∷ ltb 16 l ∷ [])

-- 2: radius above 32
abbrev pub radius_above : ℕ → Bool
radius_above k = ltb 32 k

-- a shell is usable only if its total is at most 2^32
abbrev pub most_points : ℕ
most_points = 2 ^ 32

-- 3: a total above 2^32
abbrev pub too_many : ℕ → Bool
too_many total = ltb most_points total

-- the checks of a shell, in the order of count, of index and of point: 1, 2, 3
abbrev pub shell_checks : ℕ → ℕ → ℕ → List Check
shell_checks l k total =
    record { number = 1; values = []; fails = length_outside l }
    ∷ record { number = 2; values = []; fails = radius_above k }
    ∷ record { number = 3; values = []; fails = too_many total }
    ∷ []

-- a shell that one of them refuses
abbrev pub unusable_shell : ℕ → ℕ → ℕ → Bool
unusable_shell l k total = any_of (fails_of (shell_checks l k total))

-- a shell that none of them refuses
pub record IsUsable (l k total : ℕ) : Type 0 where
  pub length_from : 1 ≤ l
  pub length_to : l ≤ 16
  pub radius_to : k ≤ 32
  pub points_to : total ≤ most_points
