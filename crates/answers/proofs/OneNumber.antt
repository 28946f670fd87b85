-- Checks that all have one number: whichever of them fails, that number is said.
use Prim.Native.Nat.{ℕ, zero, suc}
use mathlib.Core.Bool.{Bool, true, false, ◌||◌}
use mathlib.Core.List.{List, [], ◌∷◌, ◌++◌, append-nil}
use mathlib.Core.Path.{◌≡◌, refl, sym, ap, ◌∙◌}
use Rattle.answers.specs.Checks.{Check, number_said, any_of, pick, first_of, fails_of, each_from}

-- every check has number n
abbrev pub OfNumber : ℕ → List Check → Type 0
OfNumber n [] = Unit {0}
OfNumber n (c ∷ cs) = (c.number ≡ n) × OfNumber n cs

pub each_of : (c : ℕ → Check) (n i m : ℕ) → ((j : ℕ) → (c j).number ≡ n) → OfNumber n (each_from c i m)
each_of c n i zero p = tt
each_of c n i (suc m) p = (p i, each_of c n (suc i) m p)

pub of_then : (n : ℕ) (cs ds : List Check) → OfNumber n cs → OfNumber n ds → OfNumber n (cs ++ ds)
of_then n [] ds p q = q
of_then n (c ∷ cs) ds p q = (p.0, of_then n cs ds p.1 q)

-- whatever is checked after them
pub one_number : (answer : List ℕ) (n : ℕ) (cs ds : List Check) → OfNumber n cs
    → number_said (first_of (cs ++ ds) answer) ≡ number_said (pick (any_of (fails_of cs)) (n ∷ []) (first_of ds answer))
one_number answer n [] ds p = refl
one_number answer n (c ∷ cs) ds p = go c.fails (one_number answer n cs ds p.1)
  where
    go : (b : Bool) → number_said (first_of (cs ++ ds) answer) ≡ number_said (pick (any_of (fails_of cs)) (n ∷ []) (first_of ds answer))
        → number_said (pick b (c.number ∷ c.values) (first_of (cs ++ ds) answer))
        ≡ number_said (pick (b || any_of (fails_of cs)) (n ∷ []) (first_of ds answer))
    go true rest = p.0
    go false rest = rest

-- or nothing
pub one_number_last : (answer : List ℕ) (n : ℕ) (cs : List Check) → OfNumber n cs
    → number_said (first_of cs answer) ≡ number_said (pick (any_of (fails_of cs)) (n ∷ []) answer)
one_number_last answer n cs p = ap (λ (ds : List Check). number_said (first_of ds answer)) (sym (append-nil cs)) ∙ one_number answer n cs [] p
