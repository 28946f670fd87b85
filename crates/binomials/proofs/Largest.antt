-- For n up to 31 no number that is met is above the largest:
--     product_within    a product of up to six factors
--     step_within       a binomial of up to 13 with one factor more
--     last_within       a binomial of 14 with one factor more
--     at_most           a binomial, which is at most 2^31
use Prim.Native.Nat.{ℕ, zero, suc, ◌-◌, ◌*◌, ◌^◌, ◌≤◌, ◌<◌}
use mathlib.Core.Path.{◌≡◌, refl}
use mathlib.Core.Bool.{Bool, true, ◌&&◌, and-eq-true_iff}
use native.Mathlib.Decide.{dec_lt, le_ind}
use native.Mathlib.Nat.{mul-le-mul, mul-le-mul_left, le_refl, le_trans}
use native.Mathlib.Omega.{arith}
use lib.Dec.{leb}
use lib.Pow.{pow_mono}
use borrow.Author.Tests.{leb-true}
use Rattle.counts.specs.Counts.{binomial}
use Rattle.counts.proofs.Pascal.{binomial_bound}
use Rattle.binomials.specs.ProductForm.{falling, largest_product, largest_step, largest_last}
use Rattle.binomials.proofs.Example.{example}

falling_of_more : (n m r : ℕ) → n ≤ m → falling n r ≤ falling m r
unfolding falling
falling_of_more n m zero h = le_refl 1
falling_of_more n m (suc r) h = let factor : n - r ≤ m - r = omega arith in mul-le-mul (falling_of_more n m r h) factor

-- up to 31 factors of 31 the product grows
falling_grows : (r t : ℕ) → r ≤ t → t ≤ 31 → falling 31 r ≤ falling 31 t
unfolding falling
falling_grows r t h = le_ind (λ (m : ℕ). m ≤ 31 → falling 31 r ≤ falling 31 m) (λ q. le_refl (falling 31 r)) more t h
  where
    more : (m : ℕ) → r ≤ m → (m ≤ 31 → falling 31 r ≤ falling 31 m) → suc m ≤ 31 → falling 31 r ≤ falling 31 (suc m)
    more m p below q =
        let one : 1 ≤ 31 - m = omega arith in
        le_trans (below (omega arith)) (omega (arith, mul-le-mul_left (falling 31 m) one))

pub product_within : (n r : ℕ) → n < 32 → r ≤ 6 → falling n r ≤ largest_product
product_within n r h p = le_trans (falling_of_more n 31 r (omega arith)) (rw (← example.product_met) (falling_grows r 6 p (omega arith)))

binomial_next : (n r : ℕ) → binomial n r ≤ binomial (suc n) r
unfolding binomial
binomial_next n zero = le_refl 1
binomial_next n (suc r) = omega arith

binomial_of_more : (n m r : ℕ) → n ≤ m → binomial n r ≤ binomial m r
binomial_of_more n m r h = le_ind (λ (x : ℕ). binomial n r ≤ binomial x r) (le_refl (binomial n r)) (λ x q e. le_trans e (binomial_next x r)) m h

-- whether the steps of 31 from the binomials below that of r are all within the largest, which antt computes
steps : ℕ → Bool
steps zero = true
steps (suc r) = leb (binomial 31 r * (31 - r)) largest_step && steps r

all_steps : steps 14 ≡ true
unfolding steps binomial
all_steps = refl

step_at : (t r : ℕ) → steps t ≡ true → r < t → binomial 31 r * (31 - r) ≤ largest_step
unfolding steps
step_at zero r e h = absurd (omega arith)
step_at (suc t) r e h = go (dec_lt r t) (λ q. step_at t r ((and-eq-true_iff (leb (binomial 31 t * (31 - t)) largest_step) (steps t)).0 e).1 q)
  where
    go : Dec (r < t) → (r < t → binomial 31 r * (31 - r) ≤ largest_step) → binomial 31 r * (31 - r) ≤ largest_step
    go (yes q) rest = rest q
    go (no q) rest =
        let same : r ≡ t = omega arith in
        let own = ((and-eq-true_iff (leb (binomial 31 t * (31 - t)) largest_step) (steps t)).0 e).0 in
        rw same (leb-true (binomial 31 t * (31 - t)) largest_step own)

pub step_within : (n r : ℕ) → n < 32 → r < 14 → binomial n r * (n - r) ≤ largest_step
step_within n r h p =
    let factor : n - r ≤ 31 - r = omega arith in
    le_trans (mul-le-mul (binomial_of_more n 31 r (omega arith)) factor) (step_at 14 r all_steps p)

pub last_within : (n : ℕ) → n < 32 → binomial n 14 * (n - 14) ≤ largest_last
last_within n h =
    let factor : n - 14 ≤ 17 = omega arith in
    rw (← example.last_met) (mul-le-mul (binomial_of_more n 31 14 (omega arith)) factor)

pub at_most : (n r : ℕ) → n < 32 → binomial n r ≤ 2 ^ 31
at_most n r h = le_trans (binomial_bound n r) (pow_mono {i = n} {j = 31} (omega arith))
