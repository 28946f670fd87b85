-- Which coefficients are refused (docs/RULES.md, "Quantizing into a record" and "Refusal numbers"). xs are the
-- coefficients, any of them.
use Rattle.std.specs.Prelude.{ℕ, zero, suc, ◌≤◌, ◌<◌, ◌≡◌, List, [], ◌∷◌, Bool, true, false, ◌||◌, Float, length, get_or}
use Rattle.std.specs.Float.{nan}
use Rattle.answers.specs.Checks.{Check, each_from}
use Rattle.floats.specs.Units.{unusable_coefficient}

-- 11: unusable coefficient, with the first coordinate at fault
abbrev pub usable_check : List Float → ℕ → Check
usable_check xs i = record { number = 11; values = i ∷ []; fails = unusable_coefficient (get_or xs i nan) }

abbrev pub usable_checks : List Float → List Check
usable_checks xs = each_from (usable_check xs) 0 (length xs)

-- n is the first coordinate at fault, or the number of coefficients where none is
pub record FirstAtFault (xs : List Float) (n : ℕ) : Type 0 where
  pub to : n ≤ length xs
  pub before : (i : ℕ) → i < n → unusable_coefficient (get_or xs i nan) ≡ false
  pub here : n < length xs → unusable_coefficient (get_or xs n nan) ≡ true

-- one of the first n coefficients is unusable
unfoldable pub some_unusable : List Float → ℕ → Bool
some_unusable xs zero = false
some_unusable xs (suc n) = some_unusable xs n || unusable_coefficient (get_or xs n nan)

-- every coefficient is usable
abbrev pub AllUsable : List Float → Type 0
AllUsable xs = (i : ℕ) → i < length xs → unusable_coefficient (get_or xs i nan) ≡ false
