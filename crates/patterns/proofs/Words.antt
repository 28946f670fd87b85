-- How a pattern count is read from its word: shifted down by its place in the word, and cut to 16 bits.
use Prim.Native.Nat.{ℕ, zero, suc, ◌+◌, ◌*◌, ◌/◌, ◌%◌, ◌^◌, ◌≤◌, ◌<◌}
use mathlib.Core.Path.{◌≡◌, refl, sym, ap, ap₂, ◌∙◌}
use mathlib.Core.List.{List, [], ◌∷◌}
use native.Mathlib.Nat.{zero-div, zero-mod, div-one, div-eq_of_lt, mod-eq_of_lt, add-mul-mod_self_left, add-mul-div_left, div-div-eq-div-mul, zero-add, add-zero}
use native.Mathlib.Omega.{arith}
use lib.ListN.{get_or}
use lib.Arith.{digits_div, digits_mod}
use lib.Pow.{pow-add, pow_mono}
use Rattle.counts.specs.Counts.{D}
use Rattle.counts.proofs.Pascal.{binomial_bound, binomial_half}
use Rattle.patterns.specs.Words.{together, four, stored}

-- each number has 16 bits
abbrev Narrow : List ℕ → Type 0
Narrow [] = Unit {0}
Narrow (x ∷ xs) = (x < 65536) × Narrow xs

-- number j of those in a word
field_at : (xs : List ℕ) (j : ℕ) → Narrow xs → together xs / 2 ^ (j * 16) % 65536 ≡ get_or xs j 0
unfolding together
field_at [] j n = ap (λ x. x % 65536) (zero-div (2 ^ (j * 16))) ∙ zero-mod 65536
field_at (x ∷ xs) zero n =
    ap (λ a. a % 65536) (div-one (x + 65536 * together xs)) ∙ add-mul-mod_self_left x 65536 (together xs) ∙ mod-eq_of_lt n.0
field_at (x ∷ xs) (suc j) n =
    let one_more_lem : suc j * 16 ≡ 16 + j * 16 = omega arith in
    let dropped : (x + 65536 * together xs) / 65536 ≡ together xs
    = add-mul-div_left x (together xs) {y = 65536} (omega arith) ∙ ap (λ a. a + together xs) (div-eq_of_lt n.0) ∙ zero-add (together xs) in
    ap (λ a. (x + 65536 * together xs) / a % 65536) (ap (λ e. 2 ^ e) one_more_lem ∙ pow-add 2 16 (j * 16))
    ∙ ap (λ a. a % 65536) (sym (div-div-eq-div-mul (x + 65536 * together xs) 65536 (2 ^ (j * 16))) ∙ ap (λ a. a / 2 ^ (j * 16)) dropped)
    ∙ field_at xs j n.1

-- a pattern count of a length up to 16 has 16 bits
narrow : (l s : ℕ) → l ≤ 16 → D s l < 65536
unfolding D
narrow zero s h = omega (arith, binomial_bound 0 s)
narrow (suc l) s h =
    let top : 2 ^ l ≤ 2 ^ 15 = pow_mono {i = l} {j = 15} (omega arith) in
    omega (arith, binomial_half l s)

of_four : (s l j : ℕ) → j < 4 → get_or (four s l) j 0 ≡ D (s + j) l
of_four s l zero h = ap (λ x. D x l) (sym (add-zero s))
of_four s l (suc zero) h = refl
of_four s l (suc (suc zero)) h = refl
of_four s l (suc (suc (suc zero))) h = refl
of_four s l (suc (suc (suc (suc j)))) h = absurd (omega arith)

pub stored_at : (s l : ℕ) → s ≤ 16 → l ≤ 16 → stored (l * 5 + s / 4) / 2 ^ (s % 4 * 16) % 65536 ≡ D s l
unfolding stored
stored_at s l p q =
    let first = 4 * (s / 4) in
    let within : s / 4 < 5 = omega arith in
    let all : first + s % 4 ≡ s = omega arith in
    ap₂ (λ a b. together (four (4 * a) b) / 2 ^ (s % 4 * 16) % 65536) (digits_mod l within) (digits_div l within)
    ∙ field_at (four first l) (s % 4) (narrow l first q, (narrow l (first + 1) q, (narrow l (first + 2) q, (narrow l (first + 3) q, tt))))
    ∙ of_four first l (s % 4) (omega arith)
    ∙ ap (λ x. D x l) all
