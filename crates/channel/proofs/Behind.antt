-- What is said and left by checks cs with others behind them: what stands behind decides only where cs pass. And what
-- is judged, counted or written for each of some numbers is the same where it is the same for each.
use Prim.Native.Nat.{ℕ, zero, suc, ◌+◌, ◌≤◌, ◌<◌}
use mathlib.Core.Bool.{Bool, true, false}
use mathlib.Core.List.{List, [], ◌∷◌, ◌++◌}
use mathlib.Core.Path.{◌≡◌, refl, ap₂}
use native.Mathlib.Omega.{arith}
use Rattle.answers.specs.Checks.{Check, pick, first_of, leaves, each_from, Passes}
use Rattle.rules.specs.Tallying.{count_of, counts_of}

pub says_behind : (cs ds ds' : List Check) (a a' : List ℕ) → (Passes cs → first_of ds a ≡ first_of ds' a')
    → first_of (cs ++ ds) a ≡ first_of (cs ++ ds') a'
says_behind [] ds ds' a a' same = same tt
says_behind (c ∷ cs) ds ds' a a' same = go c.fails refl (λ e. says_behind cs ds ds' a a' (λ passes. same (e, passes)))
  where
    go : (b : Bool) → c.fails ≡ b → (c.fails ≡ false → first_of (cs ++ ds) a ≡ first_of (cs ++ ds') a')
        → pick b (c.number ∷ c.values) (first_of (cs ++ ds) a) ≡ pick b (c.number ∷ c.values) (first_of (cs ++ ds') a')
    go true e rest = refl
    go false e rest = rest e

pub leaves_behind : {A : Type 0} (cs ds ds' : List Check) (made made' held held' : A) → held ≡ held'
    → (Passes cs → leaves ds made held ≡ leaves ds' made' held') → leaves (cs ++ ds) made held ≡ leaves (cs ++ ds') made' held'
leaves_behind [] ds ds' made made' held held' kept same = same tt
leaves_behind (c ∷ cs) ds ds' made made' held held' kept same =
    go c.fails refl (λ e. leaves_behind cs ds ds' made made' held held' kept (λ passes. same (e, passes)))
  where
    go : (b : Bool) → c.fails ≡ b → (c.fails ≡ false → leaves (cs ++ ds) made held ≡ leaves (cs ++ ds') made' held')
        → pick b held (leaves (cs ++ ds) made held) ≡ pick b held' (leaves (cs ++ ds') made' held')
    go true e rest = kept
    go false e rest = rest e

-- a check for each number
pub each_same : (f g : ℕ → Check) (p n : ℕ) → ((i : ℕ) → p ≤ i → i < p + n → f i ≡ g i) → each_from f p n ≡ each_from g p n
each_same f g p zero same = refl
each_same f g p (suc n) same =
    ap₂ ◌∷◌ (same p (omega arith) (omega arith)) (each_same f g (suc p) n (λ i from to. same i (omega arith) (omega arith)))

-- the counts of answers
count_same : (f g : ℕ → ℕ) (a n : ℕ) → ((i : ℕ) → i < n → f i ≡ g i) → count_of f a n ≡ count_of g a n
unfolding count_of
count_same f g a zero same = refl
count_same f g a (suc n) same = rw (same n (omega arith), count_same f g a n (λ i h. same i (omega arith))) refl

pub counts_same : (f g : ℕ → ℕ) (n : ℕ) → ((i : ℕ) → i < n → f i ≡ g i) → counts_of f n ≡ counts_of g n
counts_same f g n same =
    rw (count_same f g 0 n same, count_same f g 1 n same, count_same f g 2 n same, count_same f g 3 n same, count_same f g 4 n same) refl
