-- What a refusal says: its number in the table of docs/RULES.md, "Refusal numbers", then the values that the table
-- names (for 11 and 12, the place that a call for a whole page names, too), at most two.
use Rattle.std.specs.Prelude.{ℕ, List, [], ◌∷◌, length, get_or, drop, Result, Ok, Err}
use Rattle.answers.specs.declared.Refusal.{Refusal}
use Rattle.answers.specs.declared.Refusal.TheVariants as refusal

abbrev pub meaning : Refusal → List ℕ
meaning refusal.LengthOutside = 1 ∷ []
meaning refusal.RadiusAbove = 2 ∷ []
meaning refusal.ShellTooLarge = 3 ∷ []
meaning refusal.BufferLength = 4 ∷ []
meaning refusal.MagnitudeSum = 5 ∷ []
meaning (refusal.IndexPastEnd distance) = 6 ∷ distance ∷ []
meaning (refusal.BadTable row) = 7 ∷ row ∷ []
meaning refusal.NoSuchPlace = 8 ∷ []
meaning refusal.ForeignRow = 9 ∷ []
meaning (refusal.UnusableCoefficient coordinate) = 11 ∷ coordinate ∷ []
meaning (refusal.UnusableCoefficientAt place coordinate) = 11 ∷ place ∷ coordinate ∷ []
meaning refusal.BadCell = 12 ∷ []
meaning (refusal.BadCellAt place) = 12 ∷ place ∷ []
meaning refusal.NoSuchCoordinate = 13 ∷ []
meaning refusal.EmptyShape = 15 ∷ []
meaning refusal.NoSuchMode = 16 ∷ []
meaning refusal.BooksOutside = 17 ∷ []
meaning refusal.NoSuchEnumeration = 20 ∷ []

-- the number alone
abbrev pub number_of : Refusal → ℕ
number_of r = get_or (meaning r) 0 0

-- the values that it names; 0 where it names none
abbrev pub first_named : Refusal → ℕ
first_named r = get_or (meaning r) 1 0

abbrev pub second_named : Refusal → ℕ
second_named r = get_or (meaning r) 2 0

-- how many it names
abbrev pub named_by : Refusal → ℕ
named_by r = length (drop 1 (meaning r))

-- what a program prints of a refusal that says this: its number, and the values that it names if it names two
abbrev pub printed : List ℕ → List ℕ
printed [] = []
printed (n ∷ []) = n ∷ []
printed (n ∷ v ∷ []) = n ∷ []
printed (n ∷ p ∷ i ∷ vs) = n ∷ p ∷ i ∷ []

-- what a call answers, or a check: 0 and what its answer tells, or its refusal's number and values
abbrev pub result_meaning : {A : Type 0} → (A → List ℕ) → Result A Refusal → List ℕ
result_meaning tells (Ok a) = 0 ∷ tells a
result_meaning tells (Err r) = meaning r

-- what an answer tells of one number
abbrev pub one_number : ℕ → List ℕ
one_number n = n ∷ []

-- that every check has passed, or that the work is done, and nothing more
abbrev pub no_values : Unit {0} → List ℕ
no_values passed = []

abbrev pub verdict_meaning : Result (Unit {0}) Refusal → List ℕ
verdict_meaning = result_meaning no_values
