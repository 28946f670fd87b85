-- A point, and what the product index looks at in it: docs/RULES.md, "Points and counts" and "The product index".
-- Coordinates are whole numbers of any size.
use Rattle.std.specs.Prelude.{ℕ, zero, suc, ◌+◌, ◌≡◌, List, [], ◌∷◌, map, Bool, true, false, cond, ℤ, pos, negsuc, nat_abs, neg_ℤ, length}

abbrev pub sum_of : List ℕ → ℕ
sum_of [] = 0
sum_of (i ∷ is) = i + sum_of is

-- the radius that a point has: its absolute values sum to it
abbrev pub radius_of : List ℤ → ℕ
radius_of x = sum_of (map nat_abs x)

-- a point of length l and radius k
pub record OnShell (l k : ℕ) (x : List ℤ) : Type 0 where
  pub of_length : length x ≡ l
  pub of_radius : radius_of x ≡ k

abbrev pub is_nonzero : ℤ → Bool
is_nonzero (pos zero) = false
is_nonzero (pos (suc i)) = true
is_nonzero (negsuc i) = true

abbrev pub is_negative : ℤ → Bool
is_negative (pos i) = false
is_negative (negsuc i) = true

-- a coordinate by its sign, true for negative, and its magnitude
abbrev pub signed : Bool → ℕ → ℤ
signed false i = pos i
signed true i = neg_ℤ (pos i)

-- the pattern: which coordinates are nonzero
abbrev pub pattern_in : List ℤ → List Bool
pattern_in x = map is_nonzero x

-- how many coordinates of a pattern are nonzero
abbrev pub nonzeros : List Bool → ℕ
nonzeros [] = 0
nonzeros (true ∷ p) = suc (nonzeros p)
nonzeros (false ∷ p) = nonzeros p

-- the number s of nonzero coordinates of a point
abbrev pub nonzeros_in : List ℤ → ℕ
nonzeros_in x = nonzeros (pattern_in x)

-- the nonzero coordinates, in order
abbrev pub support : List ℤ → List ℤ
support [] = []
support (c ∷ x) = cond (is_nonzero c) (c ∷ support x) (support x)

-- the shape: their magnitudes
abbrev pub shape_in : List ℤ → List ℕ
shape_in x = map nat_abs (support x)

-- their signs: true for negative
abbrev pub signs_in : List ℤ → List Bool
signs_in x = map is_negative (support x)
