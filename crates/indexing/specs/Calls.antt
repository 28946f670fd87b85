-- What the calls index and point say, and what point leaves in the lent buffer: docs/RULES.md, "Enumerations",
-- "Refusal numbers" and "Order of checks". v is the selector, l the length and k the radius, any whole numbers; n is an
-- index.
use Rattle.std.specs.Prelude.{ℕ, List, [], ◌∷◌, ◌++◌, Bool, not, eqb, leb, ℤ, length}
use Rattle.answers.specs.Checks.{Check, length_check, first_of, leaves}
use Rattle.counts.specs.Distance.{distance}
use Rattle.tables.specs.Usable.{shell_checks}
use Rattle.enumeration.specs.Point.{radius_of}
use Rattle.enumeration.specs.Enumeration.{Enumeration}
use Rattle.enumeration.specs.Enumerations.{selected_by, selects_none}

-- 5: magnitudes don't sum to k
abbrev pub wrong_sum : List ℤ → ℕ → Bool
wrong_sum x k = not (eqb (radius_of x) k)

-- 6: index past the end, with its distance. It is said of any total.
abbrev pub past_end : ℕ → ℕ → Bool
past_end n total = leb total n

abbrev pub past_end_check : ℕ → ℕ → Check
past_end_check n total = record { number = 6; values = distance total n ∷ []; fails = past_end n total }

-- 15: an empty shape: the index names no point. It is said of any enumeration.
abbrev pub empty_check : Enumeration → ℕ → ℕ → ℕ → Check
empty_check e l k n = record { number = 15; values = []; fails = not (e.names l k n) }

-- 20: enumeration selector above 2
abbrev pub selector_check : ℕ → Check
selector_check v = record { number = 20; values = []; fails = selects_none v }

-- what index and point check first: 20, 1, 2, 3
abbrev pub selected_checks : ℕ → ℕ → ℕ → List Check
selected_checks v l k = selector_check v ∷ shell_checks l k ((selected_by v).total l k)

-- Index: 20, 1, 2, 3, 4, 5; first the last two
abbrev pub index_rest : ℕ → ℕ → List ℤ → List Check
index_rest l k x = length_check (length x) l ∷ record { number = 5; values = []; fails = wrong_sum x k } ∷ []

abbrev pub index_checks : ℕ → ℕ → ℕ → List ℤ → List Check
index_checks v l k x = selected_checks v l k ++ index_rest l k x

-- Point: 20, 1, 2, 3, 4, 6, 15, in the same way, by any enumeration; b is the length of the lent buffer
abbrev pub point_rest : Enumeration → ℕ → ℕ → ℕ → ℕ → List Check
point_rest e l k n b = length_check b l ∷ past_end_check n (e.total l k) ∷ empty_check e l k n ∷ []

abbrev pub point_checks : ℕ → ℕ → ℕ → ℕ → ℕ → List Check
point_checks v l k n b = selected_checks v l k ++ point_rest (selected_by v) l k n b

-- what index is to say
abbrev pub index_says : ℕ → ℕ → ℕ → List ℤ → List ℕ
index_says v l k x = first_of (index_checks v l k x) (0 ∷ (selected_by v).index x ∷ [])

-- what point is to say, and what it leaves in a buffer that held `held`
abbrev pub point_says : ℕ → ℕ → ℕ → ℕ → List ℤ → List ℕ
point_says v l k n held = first_of (point_checks v l k n (length held)) (0 ∷ [])

abbrev pub point_leaves : ℕ → ℕ → ℕ → ℕ → List ℤ → List ℤ
point_leaves v l k n held = leaves (point_checks v l k n (length held)) ((selected_by v).point l k n) held
