-- The product form, for all numbers:
--     next_factor     with one factor more, a binomial is r+1 times the next one
--     product_form    the product of r factors is binomial(n,r) times r!
--     exact           so the division by r! leaves nothing over and gives binomial(n,r)
--     next_exact      and that by r+1 the next binomial
use Prim.Native.Nat.{ℕ, zero, suc, ◌+◌, ◌-◌, ◌*◌, ◌/◌, ◌≤◌, ◌<◌}
use mathlib.Core.Path.{◌≡◌, refl, sym, ap, ◌∙◌}
use native.Mathlib.Decide.{dec_lt}
use native.Mathlib.Nat.{one-mul, mul-one, sub-zero, zero-mul, mul-zero, mul-add, add-mul, mul_comm, mul_assoc, mul-le-mul, div-eq_of_eq-mul_left}
use native.Mathlib.Omega.{arith}
use Rattle.counts.specs.Counts.{binomial}
use Rattle.counts.proofs.Pascal.{binomial_small}
use Rattle.binomials.specs.ProductForm.{falling, factorial}

-- the last two of three factors exchanged
exchange : (x y z : ℕ) → x * y * z ≡ x * z * y
exchange x y z = mul_assoc x y z ∙ ap (λ a. x * a) (mul_comm y z) ∙ sym (mul_assoc x z y)

-- from n on there is no factor more, and no next binomial
no_factor : (n r : ℕ) → n ≤ r → binomial n (suc r) * suc r ≡ binomial n r * (n - r)
no_factor n r h =
    let none : n - r ≡ 0 = omega arith in
    let left : binomial n (suc r) * suc r ≡ 0 = ap (λ x. x * suc r) (binomial_small n (suc r) (omega arith)) ∙ zero-mul (suc r) in
    let right : binomial n r * (n - r) ≡ 0 = ap (λ x. binomial n r * x) none ∙ mul-zero (binomial n r) in
    left ∙ sym right

-- one row further, with three binomials a, b and c of a row side by side
one_row_further : (n r a b c : ℕ) → r < n → c * suc (suc r) ≡ b * (n - suc r) → b * suc r ≡ a * (n - r) → (c + b) * suc (suc r) ≡ (b + a) * (suc n - suc r)
one_row_further n r a b c h p q =
    let same : suc n - suc r ≡ n - r = omega arith in
    let after : n - suc r + suc (suc r) ≡ suc n = omega arith in
    let before : n - r + suc r ≡ suc n = omega arith in
    let left : b * (n - suc r) + b * suc (suc r) ≡ b * suc n = sym (mul-add b (n - suc r) (suc (suc r))) ∙ ap (λ x. b * x) after in
    let right : b * (n - r) + b * suc r ≡ b * suc n = sym (mul-add b (n - r) (suc r)) ∙ ap (λ x. b * x) before in
    rw same (omega (arith, p, q, left, right, add-mul c b (suc (suc r)), add-mul b a (n - r)))

next_factor : (n r : ℕ) → binomial n (suc r) * suc r ≡ binomial n r * (n - r)
unfolding binomial
next_factor zero r = no_factor zero r (omega arith)
next_factor (suc n) zero = omega (arith, next_factor n zero)
next_factor (suc n) (suc r) = go (dec_lt r n) (next_factor n (suc r)) (next_factor n r)
  where
    go :
        Dec (r < n) →
        binomial n (suc (suc r)) * suc (suc r) ≡ binomial n (suc r) * (n - suc r) →
        binomial n (suc r) * suc r ≡ binomial n r * (n - r) →
        binomial (suc n) (suc (suc r)) * suc (suc r) ≡ binomial (suc n) (suc r) * (suc n - suc r)
    go (yes h) p q = one_row_further n r (binomial n r) (binomial n (suc r)) (binomial n (suc (suc r))) h p q
    go (no h) p q = no_factor (suc n) (suc r) (omega arith)

pub product_form : (n r : ℕ) → falling n r ≡ binomial n r * factorial r
unfolding binomial falling
product_form n zero = refl
product_form n (suc r) =
    ap (λ x. x * (n - r)) (product_form n r)
    ∙ exchange (binomial n r) (factorial r) (n - r)
    ∙ ap (λ x. x * factorial r) (sym (next_factor n r))
    ∙ exchange (binomial n (suc r)) (suc r) (factorial r)
    ∙ mul_assoc (binomial n (suc r)) (factorial r) (suc r)

pub factorial_positive : (r : ℕ) → 0 < factorial r
factorial_positive zero = omega arith
factorial_positive (suc r) = mul-le-mul {n₁ = 1} {m₁ = 1} (factorial_positive r) (omega arith)

pub exact : (n r : ℕ) → falling n r / factorial r ≡ binomial n r
exact n r = div-eq_of_eq-mul_left (factorial_positive r) (product_form n r)

pub next_exact : (n r : ℕ) → binomial n r * (n - r) / suc r ≡ binomial n (suc r)
next_exact n r = div-eq_of_eq-mul_left (omega arith) (sym (next_factor n r))

-- the product of one factor, and its binomial, is n
pub falling_one : (n : ℕ) → falling n 1 ≡ n
unfolding falling
falling_one n = one-mul (n - 0) ∙ sub-zero n

pub binomial_one : (n : ℕ) → binomial n 1 ≡ n
binomial_one n = sym (mul-one (binomial n 1)) ∙ sym (product_form n 1) ∙ falling_one n

-- the binomial of i factors where r is i
pub reached : (n : ℕ) {b r i : ℕ} → b ≡ binomial n i → i ≡ r → b ≡ binomial n r
reached n p same = p ∙ ap (binomial n) same
