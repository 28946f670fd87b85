-- What the last arm of a `match` is told of a number, where the arms before have the numbers from f on, one by one.
use Prim.Native.Nat.{ℕ, zero, suc, ◌+◌, ◌≤◌}
use mathlib.Core.Path.{◌≡◌}
use native.Mathlib.Omega.{arith}

-- i is none of the n numbers from f on
abbrev pub NoneOf : ℕ → ℕ → ℕ → Type 0
NoneOf f zero i = Unit {0}
NoneOf f (suc n) i = NoneOf f n i × (i ≡ f + n → ⊥)

pub past : (f n i : ℕ) → NoneOf f n i → f ≤ i → f + n ≤ i
past f zero i h p = omega arith
past f (suc n) i h p = omega (arith, past f n i h.0 p, h.1)
