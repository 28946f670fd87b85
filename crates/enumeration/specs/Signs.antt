-- What changed sign bits do to a point: docs/RULES.md, "The product index", "Sign index"; and where an index has sign
-- bits: "Enumerations".
use Rattle.std.specs.Prelude.{ℕ, List, [], ◌∷◌, Bool, cond, ◌||◌, eqb, ℤ, neg_ℤ}
use Rattle.enumeration.specs.Point.{nonzeros_in}
use Rattle.enumeration.specs.Reading.{bit}

-- The bit of a coordinate is the number of nonzero coordinates after it. Where n and n' differ in that bit the
-- coordinate is negated; a zero stays what it is.
abbrev pub flipped : ℕ → ℕ → List ℤ → List ℤ
flipped n n' [] = []
flipped n n' (c ∷ x) = cond (eqb (bit (nonzeros_in x) n) (bit (nonzeros_in x) n')) c (neg_ℤ c) ∷ flipped n n' x

-- the selectors of the enumerations whose indices have one sign bit for each nonzero coordinate, lowest in the index:
-- 0 and 2
abbrev pub signs_lowest : ℕ → Bool
signs_lowest v = eqb v 0 || eqb v 2
