-- The radius shared out among magnitudes that are not all 0: the shares sum to it, none is above it, and a
-- magnitude of 0 gets nothing.
use Prim.Native.Nat.{ℕ, zero, suc, ◌/◌, ◌%◌, ◌≤◌, ◌<◌}
use mathlib.Core.Path.{◌≡◌, refl, sym, ap, ◌∙◌, subst}
use mathlib.Core.List.{List, [], ◌∷◌, map}
use native.Mathlib.Omega.{arith}
use native.Mathlib.Nat.{le_trans, le_of_eq, mul-zero, zero-div, zero-mod}
use lib.ListN.{length, get_or, length-map, get_or-map}
use Rattle.enumeration.specs.Point.{sum_of}
use Rattle.shares.specs.Shares.{AllUpTo, whole_part, remainder, whole_parts, remainders, units_left, shared}
use Rattle.shares.proofs.Sums.{wholes_fit, units_enough}
use Rattle.shares.proofs.Giving.{give_length, give_sum, give_keeps}

-- an f of 0 that is 0
map_zero : (f : ℕ → ℕ) (ns : List ℕ) (i : ℕ) → f 0 ≡ 0 → get_or ns i 0 ≡ 0 → get_or (map f ns) i 0 ≡ 0
map_zero f ns i z h = subst (λ (d : ℕ). get_or (map f ns) i d ≡ 0) z (get_or-map f ns i 0 ∙ ap f h ∙ z)

zero_sum : (ns : List ℕ) → sum_of (map (λ (a : ℕ). 0) ns) ≡ 0
zero_sum [] = refl
zero_sum (n ∷ ns) = omega (arith, zero_sum ns)

pub none_above_sum : (ns : List ℕ) (i : ℕ) → get_or ns i 0 ≤ sum_of ns
none_above_sum [] i = omega arith
none_above_sum (n ∷ ns) zero = omega arith
none_above_sum (n ∷ ns) (suc i) = omega (arith, none_above_sum ns i)

pub shared_length : (k : ℕ) (ms : List ℕ) → length (shared k ms) ≡ length ms
unfolding shared
shared_length zero ms = length-map ms (λ (a : ℕ). 0)
shared_length (suc k) ms = give_length (units_left (suc k) ms) (remainders (suc k) ms) (whole_parts (suc k) ms) ∙ length-map ms (whole_part (suc k) (sum_of ms))

-- the magnitudes sum to k
pub shared_sum : (k : ℕ) (ms : List ℕ) → (0 < k → 0 < sum_of ms) → sum_of (shared k ms) ≡ k
unfolding shared
shared_sum zero ms some = zero_sum ms
shared_sum (suc k) ms some =
    let total : 0 < sum_of ms = some (omega arith) in
    let long : length (remainders (suc k) ms) ≡ length (whole_parts (suc k) ms) = length-map ms (remainder (suc k) (sum_of ms)) ∙ sym (length-map ms (whole_part (suc k) (sum_of ms))) in
    omega (arith, wholes_fit (suc k) ms total, give_sum (units_left (suc k) ms) (remainders (suc k) ms) (whole_parts (suc k) ms) (units_enough (suc k) ms total) long)

pub shared_up_to : (k : ℕ) (ms : List ℕ) → (0 < k → 0 < sum_of ms) → AllUpTo k (shared k ms)
shared_up_to k ms some i h = le_trans (none_above_sum (shared k ms) i) (le_of_eq (shared_sum k ms some))

-- a zero stays 0
nothing_of_zero : (k c : ℕ) → whole_part k c 0 ≡ 0
nothing_of_zero k c = ap (λ (x : ℕ). x / c) (mul-zero k) ∙ zero-div c

no_rest_of_zero : (k c : ℕ) → remainder k c 0 ≡ 0
no_rest_of_zero k c = ap (λ (x : ℕ). x % c) (mul-zero k) ∙ zero-mod c

pub shared_zero : (k : ℕ) (ms : List ℕ) (i : ℕ) → (0 < k → 0 < sum_of ms) → get_or ms i 0 ≡ 0 → get_or (shared k ms) i 0 ≡ 0
unfolding shared
shared_zero zero ms i some none = map_zero (λ (a : ℕ). 0) ms i refl none
shared_zero (suc k) ms i some none =
    let total = sum_of ms in
    give_keeps (units_left (suc k) ms) (remainders (suc k) ms) (whole_parts (suc k) ms) i (units_enough (suc k) ms (some (omega arith)))
    (map_zero (remainder (suc k) total) ms i (no_rest_of_zero (suc k) total) none)
    ∙ map_zero (whole_part (suc k) total) ms i (nothing_of_zero (suc k) total) none
