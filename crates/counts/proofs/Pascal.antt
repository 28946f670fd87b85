-- Binomials, pattern counts, shape counts and sign counts, law by law, for all whole numbers:
--     D_zero, D_addition, D_small     D(0,l) = 1; binomial addition (eq. 17); 0 where s exceeds l, as binomial_small
--     S_none, S_addition, S_small     S(0,k) for k above 0; the same addition for shapes; 0 where s exceeds k
--     B_zero, B_next                  one sign of no coordinates; twice as many with one coordinate more
--     binomial_bound, D_bound, S_bound     binomial(n,r) is at most 2^n, so D(s,l) is at most 2^l and S(s,k) at most
--                                          2^(k-1)
--     binomial_half                        above n = 0, no binomial(n,r) is more than half of 2^n
use Prim.Native.Nat.{ℕ, zero, suc, ◌+◌, ◌^◌, ◌≤◌, ◌<◌}
use mathlib.Core.Path.{◌≡◌, refl}
use native.Mathlib.Nat.{pow-suc}
use native.Mathlib.Omega.{arith}
use lib.Pow.{pow_pos}
use Rattle.counts.specs.Counts.{binomial, D, S, B}

pub D_zero : (l : ℕ) → D 0 l ≡ 1
unfolding D binomial
D_zero l = refl

pub D_addition : (s l : ℕ) → D (suc s) (suc l) ≡ D (suc s) l + D s l
unfolding D binomial
D_addition s l = refl

pub binomial_small : (n r : ℕ) → n < r → binomial n r ≡ 0
unfolding binomial
binomial_small n zero h = omega arith
binomial_small zero (suc r) h = refl
binomial_small (suc n) (suc r) h =
    let a : binomial n (suc r) ≡ 0 = binomial_small n (suc r) (omega arith) in
    let b : binomial n r ≡ 0 = binomial_small n r (omega arith) in
    omega arith

pub D_small : (s l : ℕ) → l < s → D s l ≡ 0
unfolding D
D_small s l h = binomial_small l s h

pub S_none : (k : ℕ) → S 0 (suc k) ≡ 0
unfolding S
S_none k = refl

pub S_addition : (s k : ℕ) → S (suc s) (suc k) ≡ S (suc s) k + S s k
unfolding S binomial
S_addition zero zero = refl
S_addition zero (suc k) = refl
S_addition (suc s) zero = refl
S_addition (suc s) (suc k) = refl

pub S_small : (s k : ℕ) → k < s → S s k ≡ 0
unfolding S
S_small zero k h = omega arith
S_small (suc s) zero h = refl
S_small (suc s) (suc k) h = binomial_small k s (omega arith)

pub B_zero : B 0 ≡ 1
unfolding B
B_zero = refl

pub B_next : (s : ℕ) → B (suc s) ≡ B s + B s
unfolding B
B_next s = omega (arith, pow-suc 2 s)

pub binomial_bound : (n r : ℕ) → binomial n r ≤ 2 ^ n
unfolding binomial
binomial_bound n zero = pow_pos n
binomial_bound zero (suc r) = omega arith
binomial_bound (suc n) (suc r) =
    let a : binomial n (suc r) ≤ 2 ^ n = binomial_bound n (suc r) in
    let b : binomial n r ≤ 2 ^ n = binomial_bound n r in
    omega (arith, pow-suc 2 n)

pub binomial_half : (n r : ℕ) → binomial (suc n) r ≤ 2 ^ n
unfolding binomial
binomial_half n zero = pow_pos n
binomial_half zero (suc zero) = omega arith
binomial_half zero (suc (suc r)) = omega arith
binomial_half (suc n) (suc r) =
    let a : binomial (suc n) (suc r) ≤ 2 ^ n = binomial_half n (suc r) in
    let b : binomial (suc n) r ≤ 2 ^ n = binomial_half n r in
    omega (arith, pow-suc 2 n)

pub D_bound : (s l : ℕ) → D s l ≤ 2 ^ l
unfolding D
D_bound s l = binomial_bound l s

pub S_bound : (s k : ℕ) → S s (suc k) ≤ 2 ^ k
unfolding S
S_bound zero k = omega arith
S_bound (suc s) k = binomial_bound k s
