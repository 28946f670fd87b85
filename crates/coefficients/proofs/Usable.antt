-- The checks of the coefficients have a number above 0, and pass only where every coefficient is usable; and the search
-- for an unusable one.
use Prim.Native.Nat.{ℕ, zero, suc, ◌<◌}
use mathlib.Core.Bool.{Bool, true, false, ◌||◌, false≢true}
use mathlib.Core.List.{List, [], ◌∷◌}
use mathlib.Core.Path.{◌≡◌, refl, sym}
use native.Mathlib.Decide.{dec_lt}
use native.Mathlib.Omega.{arith}
use lib.Dec.{lit<}
use lib.Ieee.{Float, nan}
use lib.ListN.{length, get_or}
use Rattle.answers.specs.Checks.{first_of, Passes}
use Rattle.answers.proofs.Each.{each_passes, each_numbered}
use Rattle.answers.proofs.InOrder.{says_passes}
use Rattle.floats.specs.Units.{unusable_coefficient}
use Rattle.coefficients.specs.Coefficients.{usable_check, usable_checks, some_unusable, AllUsable}

-- none is refused
pub says_usable : (xs : List Float) → 0 ∷ [] ≡ first_of (usable_checks xs) (0 ∷ []) → Passes (usable_checks xs)
says_usable xs said = says_passes [] [] (usable_checks xs) (each_numbered (usable_check xs) 0 (length xs) (λ i. lit< tt)) (sym said)

pub passes_usable : (xs : List Float) → Passes (usable_checks xs) → AllUsable xs
passes_usable xs passes i h = each_passes (usable_check xs) 0 (length xs) i passes (omega arith) (omega arith)

-- none of the first n is unusable: then each is usable
pub none_usable : (xs : List Float) (n i : ℕ) → some_unusable xs n ≡ false → i < n → unusable_coefficient (get_or xs i nan) ≡ false
unfolding some_unusable
none_usable xs zero i none h = absurd (omega arith)
none_usable xs (suc n) i none h = go (some_unusable xs n) refl none (dec_lt i n) (none_usable xs n i)
  where
    go : (b : Bool) → some_unusable xs n ≡ b → b || unusable_coefficient (get_or xs n nan) ≡ false → Dec (i < n)
        → (some_unusable xs n ≡ false → i < n → unusable_coefficient (get_or xs i nan) ≡ false) → unusable_coefficient (get_or xs i nan) ≡ false
    go true is e d rest = absurd (false≢true (sym e))
    go false is e (yes below) rest = rest is below
    go false is e (no past) rest = let same : i ≡ n = omega arith in rw same e
