-- The order of checks as data (docs/RULES.md, "Order of checks"): a call's checks stand in a list, in the order in
-- which it makes them, and the first that fails gives the refusal. An answer's meaning begins with 0 and a
-- refusal's with its number.
use Rattle.std.specs.Prelude.{ℕ, zero, suc, List, [], ◌∷◌, Bool, true, false, not, ◌||◌, ◌≡◌, ◌⊎◌, eqb, get_or}

-- One check: the refusal number, the values named with it, and whether it is given, as the table's "given exactly
-- when".
pub record Check : Type 0 where
  pub number : ℕ
  pub values : List ℕ
  pub fails : Bool

-- a check of several faults fails at any of them
abbrev pub any_of : List Bool → Bool
any_of [] = false
any_of (fault ∷ faults) = fault || any_of faults

abbrev pub pick : {A : Type 0} → Bool → A → A → A
pick true refused rest = refused
pick false refused rest = rest

-- what a call says: the refusal of the first check that fails, or else its answer
abbrev pub first_of : List Check → List ℕ → List ℕ
first_of [] answer = answer
first_of (c ∷ cs) answer = pick c.fails (c.number ∷ c.values) (first_of cs answer)

-- the number that is said first: a refusal's, or 0 with an answer
abbrev pub number_said : List ℕ → ℕ
number_said says = get_or says 0 0

-- what a lent buffer holds afterwards: what it held, if a check fails, or else what the call makes of it
abbrev pub leaves : {A : Type 0} → List Check → A → A → A
leaves [] made held = made
leaves (c ∷ cs) made held = pick c.fails held (leaves cs made held)

-- whether each check fails
abbrev pub fails_of : List Check → List Bool
fails_of [] = []
fails_of (c ∷ cs) = c.fails ∷ fails_of cs

-- 4: a lent buffer has the wrong length; it has b elements and is to have n
abbrev pub wrong_length : ℕ → ℕ → Bool
wrong_length b n = not (eqb b n)

abbrev pub length_check : ℕ → ℕ → Check
length_check b n = record { number = 4; values = []; fails = wrong_length b n }

-- a check for each number from i on, n of them: so rows, coordinates and places are judged, and the lowest at fault
-- is named
abbrev pub each_from : (ℕ → Check) → ℕ → ℕ → List Check
each_from c i zero = []
each_from c i (suc n) = c i ∷ each_from c (suc i) n

-- the check of number n, with these values, fails, and none before it does
abbrev pub Refuses : List Check → ℕ → List ℕ → Type 0
Refuses [] n vs = ⊥
Refuses (c ∷ cs) n vs = ((c.fails ≡ true) × (c.number ≡ n) × (c.values ≡ vs)) ⊎ ((c.fails ≡ false) × Refuses cs n vs)

-- none of the faults is there
abbrev pub NoneOf : List Bool → Type 0
NoneOf [] = Unit {0}
NoneOf (fault ∷ faults) = (fault ≡ false) × NoneOf faults

-- no check fails
abbrev pub Passes : List Check → Type 0
Passes cs = NoneOf (fails_of cs)
