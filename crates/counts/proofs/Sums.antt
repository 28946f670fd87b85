-- Sums of the terms s+1 to s+n of a function:
--     sum_cong, sum_add       equal terms; a sum of two terms each
--     sum_first, sum_shift    the lowest term taken off; the same terms counted one lower
--     sum_none, sum_cut       terms that are 0 add nothing
--     sum_multiple            a common divisor of the terms
--     sum_grows               larger terms, and more of them
use Prim.Native.Nat.{ℕ, zero, suc, ◌+◌, ◌≤◌, ◌<◌, ◌∣◌}
use mathlib.Core.Path.{◌≡◌, refl, ap, ap₂}
use native.Mathlib.Nat.{le_trans, add-zero, add-suc, suc-add, dvd-zero, dvd-add}
use native.Mathlib.Decide.{le_ind}
use native.Mathlib.Omega.{arith}
use Rattle.counts.specs.Counts.{sum_after}

pub sum_cong : (f g : ℕ → ℕ) → ((i : ℕ) → f i ≡ g i) → (s n : ℕ) → sum_after f s n ≡ sum_after g s n
unfolding sum_after
sum_cong f g e s zero = refl
sum_cong f g e s (suc n) = ap₂ ◌+◌ (e (suc (s + n))) (sum_cong f g e s n)

pub sum_add : (f g : ℕ → ℕ) (s n : ℕ) → sum_after (λ i. f i + g i) s n ≡ sum_after f s n + sum_after g s n
unfolding sum_after
sum_add f g s zero = refl
sum_add f g s (suc n) = omega (arith, sum_add f g s n)

pub sum_first : (f : ℕ → ℕ) (s n : ℕ) → sum_after f s (suc n) ≡ f (suc s) + sum_after f (suc s) n
unfolding sum_after
sum_first f s zero = simp add-zero
sum_first f s (suc n) = rw (add-suc s n, suc-add s n) (omega (arith, sum_first f s n))

pub sum_shift : (f : ℕ → ℕ) (s n : ℕ) → sum_after f (suc s) n ≡ sum_after (λ i. f (suc i)) s n
unfolding sum_after
sum_shift f s zero = refl
sum_shift f s (suc n) = rw (suc-add s n) (ap (λ (x : ℕ). f (suc (suc (s + n))) + x) (sum_shift f s n))

pub sum_none : (f : ℕ → ℕ) (s n : ℕ) → ((i : ℕ) → s < i → f i ≡ 0) → sum_after f s n ≡ 0
unfolding sum_after
sum_none f s zero h = refl
sum_none f s (suc n) h = omega (arith, sum_none f s n h, h (suc (s + n)) (omega arith))

pub sum_cut : (f : ℕ → ℕ) (s k j : ℕ) → ((i : ℕ) → s + k < i → f i ≡ 0) → sum_after f s (k + j) ≡ sum_after f s k
unfolding sum_after
sum_cut f s k zero h = rw add-zero
sum_cut f s k (suc j) h =
    rw (add-suc k j) (omega (arith, sum_cut f s k j h, h (suc (s + (k + j))) (omega arith)))

pub sum_multiple : (d : ℕ) (f : ℕ → ℕ) (s n : ℕ) → ((i : ℕ) → s < i → d ∣ f i) → d ∣ sum_after f s n
unfolding sum_after
sum_multiple d f s zero h = dvd-zero d
sum_multiple d f s (suc n) h = dvd-add d (h (suc (s + n)) (omega arith)) (sum_multiple d f s n h)

sum_terms : (f g : ℕ → ℕ) → ((i : ℕ) → 0 < i → f i ≤ g i) → (s n : ℕ) → sum_after f s n ≤ sum_after g s n
unfolding sum_after
sum_terms f g h s zero = omega arith
sum_terms f g h s (suc n) = omega (arith, h (suc (s + n)) (omega arith), sum_terms f g h s n)

pub sum_grows : (f g : ℕ → ℕ) → ((i : ℕ) → 0 < i → f i ≤ g i) → (s n m : ℕ) → n ≤ m → sum_after f s n ≤ sum_after g s m
unfolding sum_after
sum_grows f g h s n m q =
    le_ind (λ (u : ℕ). sum_after f s n ≤ sum_after g s u) (sum_terms f g h s n) (λ u r e. le_trans e (next u)) m q
  where
    next : (u : ℕ) → sum_after g s u ≤ sum_after g s (suc u)
    next u = omega arith
