-- A row of the triangle read from its other end is the same: binomial(n,n-r) is binomial(n,r).
use Prim.Native.Nat.{ℕ, zero, suc, ◌+◌, ◌-◌, ◌≤◌}
use mathlib.Core.Path.{◌≡◌, refl, sym, ap, ◌∙◌}
use native.Mathlib.Omega.{arith}
use Rattle.counts.specs.Counts.{binomial}
use Rattle.counts.proofs.Pascal.{binomial_small}

last : (n : ℕ) → binomial n n ≡ 1
unfolding binomial
last zero = refl
last (suc n) = omega (arith, binomial_small n (suc n) (omega arith), last n)

of_sum : (n a b : ℕ) → a + b ≡ n → binomial n a ≡ binomial n b
unfolding binomial
of_sum zero zero b e = let none : b ≡ 0 = omega arith in ap (binomial 0) (sym none)
of_sum zero (suc a) b e = absurd (omega arith)
of_sum (suc n) zero b e = let all : b ≡ suc n = omega arith in sym (ap (binomial (suc n)) all ∙ last (suc n))
of_sum (suc n) (suc a) zero e = let all : suc a ≡ suc n = omega arith in ap (binomial (suc n)) all ∙ last (suc n)
of_sum (suc n) (suc a) (suc b) e =
    let left : binomial n (suc a) ≡ binomial n b = of_sum n (suc a) b (omega arith) in
    let right : binomial n a ≡ binomial n (suc b) = of_sum n a (suc b) (omega arith) in
    omega arith

pub mirrored : (n r : ℕ) → r ≤ n → binomial n (n - r) ≡ binomial n r
mirrored n r h = of_sum n (n - r) r (omega arith)
