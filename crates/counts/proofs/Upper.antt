-- Upper summation of shape counts (eq. 20 and 21), for all numbers. With n of the values of the first magnitude
-- passed, what is left is the shape count at a radius lower by n.
use Prim.Native.Nat.{ℕ, zero, suc, ◌+◌, ◌-◌, ◌≤◌, ◌<◌}
use mathlib.Core.Path.{◌≡◌, sym, ap, ◌∙◌}
use native.Mathlib.Omega.{arith}
use native.Mathlib.Decide.{dec_lt}
use native.Mathlib.Nat.{zero-add, sub-zero}
use Rattle.counts.specs.Counts.{S, sum_after}
use Rattle.counts.proofs.Pascal.{S_addition, S_small}

-- the shapes whose first magnitude is 1 to n, and those whose first is larger
pub upper_part : (s k n : ℕ) → n ≤ k → S (suc s) k ≡ sum_after (λ j. S s (k - j)) 0 n + S (suc s) (k - n)
unfolding sum_after
upper_part s k zero h = rw (sub-zero k) (sym (zero-add (S (suc s) k)))
upper_part s k (suc n) h =
    let rest : k - n ≡ suc (k - suc n) = omega arith in
    let term : S (suc s) (k - n) ≡ S (suc s) (k - suc n) + S s (k - suc n) = ap (S (suc s)) rest ∙ S_addition s (k - suc n) in
    rw (zero-add n) (omega (arith, upper_part s k n (omega arith)))

-- eq. 21: a magnitude i passes the shapes of the magnitudes 1 to i-1
pub upper_offset : (s k i : ℕ) → i ≤ k → sum_after (λ j. S s (k - j)) 0 i ≡ S (suc s) k - S (suc s) (k - i)
upper_offset s k i h = omega (arith, upper_part s k i h)

-- eq. 20: the first magnitude is 1 to k-(s-1), here with s+1 for s
pub upper_sum : (s k : ℕ) → S (suc s) k ≡ sum_after (λ j. S s (k - j)) 0 (k - s)
unfolding sum_after
upper_sum s k = go (dec_lt k s)
  where
    go : Dec (k < s) → S (suc s) k ≡ sum_after (λ j. S s (k - j)) 0 (k - s)
    go (yes h) = rw (sub_eq h) (S_small (suc s) k (omega arith))
      where
        sub_eq : k < s → k - s ≡ 0
        sub_eq q = omega arith
    go (no h) =
        let left : k - (k - s) ≡ s = omega arith in
        let none : S (suc s) (k - (k - s)) ≡ 0 = ap (S (suc s)) left ∙ S_small (suc s) s (omega arith) in
        omega (arith, upper_part s k (k - s) (omega arith))
