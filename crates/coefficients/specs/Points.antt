-- The point of a vector (docs/RULES.md, "Quantizing into a record"): the radius k shared out among the magnitudes
-- of the coefficients, with the signs of the coefficients.
use Rattle.std.specs.Prelude.{ℕ, ◌<◌, ◌≡◌, List, [], ◌∷◌, map, ◌⊎◌, Float, ℤ, pos, nat_abs, length, get_or}
use Rattle.std.specs.Float.{nan}
use Rattle.enumeration.specs.Point.{sum_of, signed, is_negative}
use Rattle.floats.specs.Units.{negative}
use Rattle.floats.specs.Nearest.{nearest_whole}
use Rattle.shares.specs.Shares.{shared}
use Rattle.shares.specs.Remainders.{IsShared}

-- the magnitudes a_i of the whole numbers that the coefficients become
abbrev pub magnitudes_of : List Float → List ℕ
magnitudes_of xs = map nearest_whole xs

-- A, the sum of magnitudes
abbrev pub total_of : List Float → ℕ
total_of xs = sum_of (magnitudes_of xs)

-- magnitudes ms, with the signs of the coefficients
abbrev pub signed_by : List Float → List ℕ → List ℤ
signed_by [] ms = []
signed_by (x ∷ xs) [] = []
signed_by (x ∷ xs) (i ∷ ms) = signed (negative x) i ∷ signed_by xs ms

-- the a_i with their signs
abbrev pub wholes_of : List Float → List ℤ
wholes_of xs = signed_by xs (magnitudes_of xs)

abbrev pub point_of : ℕ → List Float → List ℤ
point_of k xs = signed_by xs (shared k (magnitudes_of xs))

-- what makes q the point of the coefficients xs at radius k: its magnitudes are shared out by largest remainders,
-- and a coordinate is 0 or has its coefficient's sign. proofs/Points.antt shows that `point_of` is such a point, and
-- that there is no other.
pub record IsPointOf (k : ℕ) (xs : List Float) (q : List ℤ) : Type 0 where
  pub magnitudes : IsShared k (magnitudes_of xs) (map nat_abs q)
  pub signs : (i : ℕ) → i < length xs → (get_or q i (pos 0) ≡ pos 0) ⊎ (is_negative (get_or q i (pos 0)) ≡ negative (get_or xs i nan))
