-- The first best of some numbers: what docs/RULES.md asks for in "Quantizing into a record", the least and
-- on a tie the smaller, the largest and on a tie the lower. `beats x y` says that x is better than y.
use Rattle.std.specs.Prelude.{ℕ, zero, suc, ◌≤◌, ◌<◌, ◌≡◌, Bool, true, false, cond, ltb}

-- of 0 to n, the first whose f no other's beats: a later one is taken only where it is better
unfoldable pub first_best : (ℕ → ℕ → Bool) → (ℕ → ℕ) → ℕ → ℕ
first_best beats f zero = 0
first_best beats f (suc n) = cond (beats (f (suc n)) (f (first_best beats f n))) (suc n) (first_best beats f n)

abbrev pub smaller : ℕ → ℕ → Bool
smaller x y = ltb x y

abbrev pub larger : ℕ → ℕ → Bool
larger x y = ltb y x

-- b is the first best of 0 to n
pub record IsFirstBest (beats : ℕ → ℕ → Bool) (f : ℕ → ℕ) (n b : ℕ) : Type 0 where
  pub among : b ≤ n
  pub unbeaten : (i : ℕ) → i ≤ n → beats (f i) (f b) ≡ false
  pub first : (i : ℕ) → i < b → beats (f b) (f i) ≡ true
