-- A check for each number, as a loop goes through them: from i on there are n - i of n left. While they pass, what
-- is left decides; the first that fails is told; and all pass exactly when each does.
use Prim.Native.Nat.{ℕ, zero, suc, ◌+◌, ◌-◌, ◌≤◌, ◌<◌}
use mathlib.Core.Path.{◌≡◌, sym, ap, ◌∙◌}
use mathlib.Core.List.{List, ◌∷◌}
use mathlib.Core.Bool.{true, false}
use native.Mathlib.Nat.{sub-zero, zero-add}
use native.Mathlib.Omega.{arith}
use native.Mathlib.Decide.{dec_lt}
use Rattle.answers.specs.Checks.{Check, first_of, each_from, Passes}
use Rattle.answers.proofs.InOrder.{Numbered, passes_says}

module _ (c : ℕ → Check) where
  -- some are left
  one_left : (i n : ℕ) → i < n → each_from c i (n - i) ≡ c i ∷ each_from c (suc i) (n - suc i)
  one_left i n h = ap (each_from c i) (counts n i h)
    where
      counts : (n i : ℕ) → i < n → n - i ≡ suc (n - suc i)
      counts n i h = omega arith

  pub each_refused : (answer : List ℕ) (i n : ℕ) → i < n → (c i).fails ≡ true → first_of (each_from c i (n - i)) answer ≡ (c i).number ∷ (c i).values
  each_refused answer i n h e = ap (λ (cs : List Check). first_of cs answer) (one_left i n h) ∙ rw e

  pub each_passed : (answer : List ℕ) (i n : ℕ) → i < n → (c i).fails ≡ false
      → first_of (each_from c i (n - i)) answer ≡ first_of (each_from c (suc i) (n - suc i)) answer
  each_passed answer i n h e = ap (λ (cs : List Check). first_of cs answer) (one_left i n h) ∙ rw e

  pub none_left : (answer : List ℕ) (i n : ℕ) → n ≤ i → first_of (each_from c i (n - i)) answer ≡ answer
  none_left answer i n h = let none : n - i ≡ 0 = omega arith in rw none

  -- all pass: then each does
  pub each_passes : (i n j : ℕ) → Passes (each_from c i n) → i ≤ j → j < i + n → (c j).fails ≡ false
  each_passes i zero j p from to = absurd (omega arith)
  each_passes i (suc n) j p from to = go (dec_lt i j) (λ h. each_passes (suc i) n j p.1 h (omega arith))
    where
      go : Dec (i < j) → (i < j → (c j).fails ≡ false) → (c j).fails ≡ false
      go (yes h) rest = rest h
      go (no h) rest = let same : j ≡ i = omega arith in rw same p.0

  -- and the other way round
  pub passes_each : (i n : ℕ) → ((j : ℕ) → i ≤ j → j < i + n → (c j).fails ≡ false) → Passes (each_from c i n)
  passes_each i zero p = tt
  passes_each i (suc n) p = (p i (omega arith) (omega arith), passes_each (suc i) n (λ j from to. p j (omega arith) (omega arith)))

  -- the first that fails is told, and where none does, the answer
  pub first_refused : (answer : List ℕ) (j n : ℕ) → j < n → ((i : ℕ) → i < j → (c i).fails ≡ false) → (c j).fails ≡ true
      → first_of (each_from c 0 n) answer ≡ (c j).number ∷ (c j).values
  first_refused answer j n below before here = ap (λ (m : ℕ). first_of (each_from c 0 m) answer) (sym (sub-zero n)) ∙ to j 0 (zero-add j)
    where
      to : (k i : ℕ) → i + k ≡ j → first_of (each_from c i (n - i)) answer ≡ (c j).number ∷ (c j).values
      to zero i e = let same : i ≡ j = omega arith in rw same (each_refused answer j n below here)
      to (suc k) i e = each_passed answer i n (omega arith) (before i (omega arith)) ∙ to k (suc i) (omega arith)

  pub none_refused : (answer : List ℕ) (n : ℕ) → ((i : ℕ) → i < n → (c i).fails ≡ false) → first_of (each_from c 0 n) answer ≡ answer
  none_refused answer n before = passes_says answer (each_from c 0 n) (passes_each 0 n (λ j from to. before j (omega arith)))

  pub each_numbered : (i n : ℕ) → ((j : ℕ) → 0 < (c j).number) → Numbered (each_from c i n)
  each_numbered i zero p = tt
  each_numbered i (suc n) p = (p i, each_numbered (suc i) n p)
