-- N by the recurrence (eq. 10) is the sum of R over s (eq. 14 and 25), for all lengths and radii. At radius 0 the
-- term for s = 0 is the one point; above it that term is 0 and the sum runs from 1, as the rules have it. The way:
-- `spread l f` is the sum of binomial(l,s) x f(s), written by binomial addition alone; N is `spread` of S x 2^s by
-- one induction, and `spread` is the sum by another.
use Prim.Native.Nat.{ℕ, zero, suc, ◌+◌, ◌-◌, ◌*◌, ◌≤◌, ◌<◌}
use mathlib.Core.Path.{◌≡◌, refl, sym, ap, ap₂, ◌∙◌}
use native.Mathlib.Omega.{arith}
use native.Mathlib.Decide.{dec_le}
use native.Mathlib.Nat.{zero-mul, mul-zero, mul_assoc, one-mul, add-mul, mul-add, sub-zero, min-eq_left}
use Rattle.counts.specs.Counts.{N, binomial, D, S, B, most_nonzero, sum_after, range_size, range_start, R, O}
use Rattle.counts.proofs.Pascal.{D_small, S_none, S_addition, S_small, B_zero, B_next}
use Rattle.counts.proofs.Sums.{sum_cong, sum_add, sum_first, sum_shift, sum_none, sum_cut}

spread : ℕ → (ℕ → ℕ) → ℕ
spread zero f = f 0
spread (suc l) f = spread l f + spread l (λ s. f (suc s))

spread_cong : (l : ℕ) (f g : ℕ → ℕ) → ((s : ℕ) → f s ≡ g s) → spread l f ≡ spread l g
unfolding spread
spread_cong zero f g e = e 0
spread_cong (suc l) f g e = ap₂ ◌+◌ (spread_cong l f g e) (spread_cong l (λ s. f (suc s)) (λ s. g (suc s)) (λ s. e (suc s)))

spread_add : (l : ℕ) (f g : ℕ → ℕ) → spread l (λ s. f s + g s) ≡ spread l f + spread l g
unfolding spread
spread_add zero f g = refl
spread_add (suc l) f g = omega (arith, spread_add l f g, spread_add l (λ s. f (suc s)) (λ s. g (suc s)))

spread_none : (l : ℕ) (f : ℕ → ℕ) → ((s : ℕ) → f s ≡ 0) → spread l f ≡ 0
unfolding spread
spread_none zero f e = e 0
spread_none (suc l) f e = omega (arith, spread_none l f e, spread_none l (λ s. f (suc s)) (λ s. e (suc s)))

-- the shapes and signs of s nonzero coordinates
weight : ℕ → ℕ → ℕ
weight k s = S s k * B s

weight_next : (k s : ℕ) → weight (suc k) (suc s) ≡ weight k (suc s) + (weight k s + weight k s)
unfolding weight
weight_next k s =
    rw (S_addition s k, add-mul)
    (ap (λ (x : ℕ). S (suc s) k * B (suc s) + x) (ap (λ (x : ℕ). S s k * x) (B_next s) ∙ mul-add (S s k) (B s) (B s)))

N_spread : (l k : ℕ) → N l k ≡ spread l (weight k)
unfolding N spread weight S
N_spread zero zero = sym (one-mul (B 0) ∙ B_zero)
N_spread zero (suc k) = sym (zero-mul (B 0))
N_spread (suc l) zero = omega (arith, N_spread l zero, spread_none l (λ s. weight 0 (suc s)) (λ s. zero-mul (B (suc s))))
N_spread (suc l) (suc k) =
    let next : spread l (λ s. weight (suc k) (suc s)) ≡ spread l (λ s. weight k (suc s)) + (spread l (weight k) + spread l (weight k)) =
    spread_cong l (λ s. weight (suc k) (suc s)) (λ s. weight k (suc s) + (weight k s + weight k s)) (weight_next k)
    ∙ spread_add l (λ s. weight k (suc s)) (λ s. weight k s + weight k s)
    ∙ ap (λ (x : ℕ). spread l (λ s. weight k (suc s)) + x) (spread_add l (weight k) (weight k)) in
    omega (arith, N_spread (suc l) k, N_spread l (suc k), N_spread l k, next)

-- f(0) + f(1) + .. + f(n)
total : (ℕ → ℕ) → ℕ → ℕ
total f n = f 0 + sum_after f 0 n

total_first : (f : ℕ → ℕ) (n : ℕ) → total f (suc n) ≡ f 0 + total (λ i. f (suc i)) n
unfolding total
total_first f n = ap (λ (x : ℕ). f 0 + x) (sum_first f 0 n ∙ ap (λ (x : ℕ). f 1 + x) (sum_shift f 0 n))

total_cong : (f g : ℕ → ℕ) → ((i : ℕ) → f i ≡ g i) → (n : ℕ) → total f n ≡ total g n
unfolding total
total_cong f g e n = ap₂ ◌+◌ (e 0) (sum_cong f g e 0 n)

total_add : (f g : ℕ → ℕ) (n : ℕ) → total (λ i. f i + g i) n ≡ total f n + total g n
unfolding total
total_add f g n = omega (arith, sum_add f g 0 n)

-- `spread` is the sum, to any n from l on
spread_total : (l : ℕ) (f : ℕ → ℕ) (n : ℕ) → l ≤ n → total (λ s. binomial l s * f s) n ≡ spread l f
unfolding spread binomial total
spread_total zero f n h = omega (arith, one-mul (f 0), sum_none (λ s. binomial 0 s * f s) 0 n none)
  where
    none : (i : ℕ) → 0 < i → binomial 0 i * f i ≡ 0
    none zero q = omega arith
    none (suc i) q = zero-mul (f (suc i))
spread_total (suc l) f zero h = omega arith
spread_total (suc l) f (suc n) h =
    let up : ℕ → ℕ = λ s. f (suc s) in
    let both : total (λ s. binomial (suc l) (suc s) * up s) n ≡ total (λ s. binomial l (suc s) * up s) n + total (λ s. binomial l s * up s) n =
    total_cong (λ s. binomial (suc l) (suc s) * up s) (λ s. binomial l (suc s) * up s + binomial l s * up s)
    (λ s. add-mul (binomial l (suc s)) (binomial l s) (f (suc s))) n
    ∙ total_add (λ s. binomial l (suc s) * up s) (λ s. binomial l s * up s) n in
    omega (
      arith,
      total_first (λ s. binomial (suc l) s * f s) n,
      total_first (λ s. binomial l s * f s) n,
      both,
      spread_total l f (suc n) (omega arith),
      spread_total l up n (omega arith),
    )

-- N is the sum of R over s from 0 to l, and past m every R is 0
N_total : (l k : ℕ) → N l k ≡ R 0 l k + sum_after (λ s. R s l k) 0 l
unfolding total weight range_size D
N_total l k =
    N_spread l k ∙ sym (spread_total l (weight k) l (omega arith))
    ∙ total_cong (λ s. binomial l s * weight k s) (λ s. R s l k) (λ s. sym (mul_assoc (binomial l s) (S s k) (B s))) l

pub R_past : (l k s : ℕ) → most_nonzero l k < s → R s l k ≡ 0
unfolding range_size
R_past l k s h = go (dec_le l k)
  where
    go : Dec (l ≤ k) → D s l * S s k * B s ≡ 0
    go (yes q) = rw (D_small s l (rw (← min-eq_left q) h), zero-mul (S s k), zero-mul (B s))
    go (no q) = rw (S_small s k (omega arith), mul-zero (D s l), zero-mul (B s))

pub volume : (l k : ℕ) → N l k ≡ R 0 l k + O 0 l k
unfolding range_start
volume l k =
    let m = most_nonzero l k in
    let cut : sum_after (λ s. R s l k) 0 (m + (l - m)) ≡ sum_after (λ s. R s l k) 0 m =
    sum_cut (λ s. R s l k) 0 m (l - m) (λ i q. R_past l k i (omega arith)) in
    let whole : m + (l - m) ≡ l = omega arith in
    let start : sum_after (λ s. R s l k) 0 (m - 0) ≡ sum_after (λ s. R s l k) 0 m = ap (sum_after (λ s. R s l k) 0) (sub-zero m) in
    N_total l k ∙ ap (λ (x : ℕ). R 0 l k + x) ((rw whole at cut) ∙ sym start)

-- eq. 14 and 25, as printed: at a radius above 0 the sum runs over s from 1 to m, and is what starts the range for
-- s = 0
pub volume_start : (l k : ℕ) → N l (suc k) ≡ O 0 l (suc k)
unfolding range_size
volume_start l k =
    let none : D 0 l * S 0 (suc k) * B 0 ≡ 0 = rw (S_none k, mul-zero (D 0 l), zero-mul (B 0)) in
    omega (arith, volume l (suc k))

pub volume_from_1 : (l k : ℕ) → N l (suc k) ≡ sum_after (λ s. R s l (suc k)) 0 (most_nonzero l (suc k))
unfolding range_start
volume_from_1 l k = rw sub-zero at (volume_start l k)
