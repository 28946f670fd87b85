-- Units given to the largest remainders, no more of them than there are remainders: each goes to a coordinate that
-- has one, so that the sum grows by one a unit and a coordinate without a remainder stays as it is.
use Prim.Native.Nat.{ℕ, zero, suc, ◌+◌, ◌-◌, ◌≤◌, ◌<◌}
use mathlib.Core.Path.{◌≡◌, refl, sym, ap, ◌∙◌}
use mathlib.Core.List.{List, [], ◌∷◌}
use native.Mathlib.Omega.{arith}
use native.Mathlib.Nat.{lt_of_lt_of_le}
use native.Mathlib.Numerals.{add-one}
use borrow.Author.Tests.{ltb-false}
use lib.ListN.{length, get_or, set, length-set}
use lib.Seq.{get_or-set_other}
use Rattle.enumeration.specs.Point.{sum_of}
use Rattle.shares.specs.Best.{larger, IsFirstBest}
use Rattle.shares.specs.Shares.{with_remainder, largest, spent, one_more, give, left_of}
use Rattle.shares.proofs.Best.{first_best_lem, larger_order}

-- the largest remainder
pub largest_is : (rests : List ℕ) → IsFirstBest larger (λ (i : ℕ). get_or rests i 0) (length rests - 1) (largest rests)
unfolding largest
largest_is rests = first_best_lem larger larger_order (λ (i : ℕ). get_or rests i 0) (length rests - 1)

pub largest_below : (rests : List ℕ) → 0 < length rests → largest rests < length rests
largest_below rests h = omega (arith, (largest_is rests).among)

pub none_larger : (rests : List ℕ) (i : ℕ) → i < length rests → get_or rests i 0 ≤ get_or rests (largest rests) 0
none_larger rests i h = ltb-false (get_or rests (largest rests) 0) (get_or rests i 0) ((largest_is rests).unbeaten i (omega arith))

some_rest : (rests : List ℕ) → 0 < with_remainder rests → (i : ℕ) × (i < length rests) × (0 < get_or rests i 0)
some_rest [] h = absurd (omega arith)
some_rest (zero ∷ rests) h = let (i, below, some) = some_rest rests h in (suc i, omega arith, some)
some_rest (suc r ∷ rests) h = (0, omega arith, omega arith)

pub largest_some : (rests : List ℕ) → 0 < with_remainder rests → (largest rests < length rests) × (0 < get_or rests (largest rests) 0)
largest_some rests h =
    let (i, below, some) = some_rest rests h in
    (largest_below rests (omega arith), lt_of_lt_of_le some (none_larger rests i below))

-- it is spent, and one less is left
pub one_spent : (rests : List ℕ) (at : ℕ) → at < length rests → 0 < get_or rests at 0 → with_remainder rests ≡ suc (with_remainder (set rests at 0))
one_spent [] at h p = absurd (omega arith)
one_spent (zero ∷ rests) zero h p = absurd (omega arith)
one_spent (suc r ∷ rests) zero h p = refl
one_spent (zero ∷ rests) (suc at) h p = one_spent rests at (omega arith) p
one_spent (suc r ∷ rests) (suc at) h p = ap suc (one_spent rests at (omega arith) p)

-- and the sum is one more
pub one_added : (shares : List ℕ) (at : ℕ) → at < length shares → sum_of (set shares at (suc (get_or shares at 0))) ≡ suc (sum_of shares)
one_added [] at h = absurd (omega arith)
one_added (i ∷ shares) zero h = omega arith
one_added (i ∷ shares) (suc at) h = omega (arith, one_added shares at (omega arith))

pub give_length : (n : ℕ) (rests shares : List ℕ) → length (give n rests shares) ≡ length shares
unfolding give
give_length zero rests shares = refl
give_length (suc n) rests shares = give_length n (spent rests) (one_more rests shares) ∙ length-set shares (largest rests) (suc (get_or shares (largest rests) 0))

pub give_sum : (n : ℕ) (rests shares : List ℕ) → n ≤ with_remainder rests → length rests ≡ length shares → sum_of (give n rests shares) ≡ n + sum_of shares
unfolding give
give_sum zero rests shares h same = omega arith
give_sum (suc n) rests shares h same =
    let at = largest rests in
    let (below, some) = largest_some rests (omega arith) in
    let count : with_remainder rests ≡ suc (with_remainder (spent rests)) = one_spent rests at below some in
    let added : sum_of (one_more rests shares) ≡ suc (sum_of shares) = one_added shares at (omega arith) in
    let long : length (spent rests) ≡ length (one_more rests shares) = length-set rests at 0 ∙ same ∙ sym (length-set shares at (suc (get_or shares at 0))) in
    omega (arith, give_sum n (spent rests) (one_more rests shares) (omega arith) long)

pub give_keeps : (n : ℕ) (rests shares : List ℕ) (i : ℕ) → n ≤ with_remainder rests → get_or rests i 0 ≡ 0 → get_or (give n rests shares) i 0 ≡ get_or shares i 0
unfolding give
give_keeps zero rests shares i h none = refl
give_keeps (suc n) rests shares i h none =
    let at = largest rests in
    let (below, some) = largest_some rests (omega arith) in
    let count : with_remainder rests ≡ suc (with_remainder (spent rests)) = one_spent rests at below some in
    let other : i ≡ at → ⊥ = λ e. omega (arith, some, none, ap (λ (j : ℕ). get_or rests j 0) e) in
    give_keeps n (spent rests) (one_more rests shares) i (omega arith) (get_or-set_other rests at i 0 0 other ∙ none)
    ∙ get_or-set_other shares at i (suc (get_or shares at 0)) 0 other

-- a turn of the loop that gives
pub gives : (n : ℕ) (rests shares : List ℕ) (at : ℕ) → 0 < n → at ≡ largest rests
    → give (n - 1) (set rests at 0) (set shares at (get_or shares at 0 + 1)) ≡ give n rests shares
unfolding give
gives zero rests shares at h same = absurd (omega arith)
gives (suc n) rests shares at h same = let less : suc n - 1 ≡ n = omega arith in rw (less, add-one (get_or shares at 0), same) refl

pub spends : (n : ℕ) (rests : List ℕ) (at : ℕ) → 0 < n → at ≡ largest rests → left_of (n - 1) (set rests at 0) ≡ left_of n rests
unfolding left_of
spends zero rests at h same = absurd (omega arith)
spends (suc n) rests at h same = let less : suc n - 1 ≡ n = omega arith in rw (less, same) refl

pub grows : (shares : List ℕ) (at : ℕ) → at < length shares → sum_of (set shares at (get_or shares at 0 + 1)) ≡ suc (sum_of shares)
grows shares at h = rw (add-one (get_or shares at 0)) (one_added shares at h)
