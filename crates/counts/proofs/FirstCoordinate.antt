-- N by the first coordinate (eq. 4), for all lengths and radii: N(l,k) points of length l+1 begin with a zero, and
-- N(l,k-j) with j, and as many with -j.
use Prim.Native.Nat.{ℕ, zero, suc, ◌+◌, ◌-◌, ◌*◌, ◌≤◌}
use mathlib.Core.Path.{◌≡◌, refl, sym, ap, ◌∙◌}
use native.Mathlib.Omega.{arith}
use native.Mathlib.Nat.{zero-add, sub-zero}
use Rattle.counts.specs.Counts.{N, sum_after}
use Rattle.counts.proofs.Growth.{one_point}

-- so many begin with one of the values 1 to i, and as many with one of -1 to -i
abbrev pub of_magnitudes : ℕ → ℕ → ℕ → ℕ
of_magnitudes l k i = sum_after (λ j. N l (k - j)) 0 i

next_radius : (l k : ℕ) → N (suc l) (suc k) ≡ N (suc l) k + N l (suc k) + N l k
unfolding N
next_radius l k = refl

-- the points that begin with a magnitude up to i, and those that begin with a larger one
first_part : (l k i : ℕ) → i ≤ k → N (suc l) k + N l (k - i) ≡ N l k + 2 * of_magnitudes l k i + N (suc l) (k - i)
unfolding sum_after
first_part l k zero h = rw (sub-zero k) (omega arith)
first_part l k (suc i) h =
    let rest : k - i ≡ suc (k - suc i) = omega arith in
    let wide : N (suc l) (k - i) ≡ N (suc l) (k - suc i) + N l (k - i) + N l (k - suc i) =
    ap (N (suc l)) rest ∙ next_radius l (k - suc i) ∙ ap (λ (j : ℕ). N (suc l) (k - suc i) + N l j + N l (k - suc i)) (sym rest) in
    rw (zero-add i) (omega (arith, first_part l k i (omega arith)))

-- those that begin with a smaller magnitude than i+1, with i+1, with -(i+1) and with a larger one
pub first_split : (l k i : ℕ) → suc i ≤ k
    → N (suc l) k ≡ N l k + 2 * of_magnitudes l k i + N l (k - suc i) + N (suc l) (k - suc i)
unfolding sum_after
first_split l k i h = let part = rw (zero-add i) at (first_part l k (suc i) h) in omega arith

-- all of them (eq. 4)
pub first_all : (l k : ℕ) → N (suc l) k ≡ N l k + 2 * of_magnitudes l k k
first_all l k =
    let none : k - k ≡ 0 = omega arith in
    let one : N l (k - k) ≡ 1 = ap (N l) none ∙ one_point l in
    let other : N (suc l) (k - k) ≡ 1 = ap (N (suc l)) none ∙ one_point (suc l) in
    omega (arith, first_part l k k (omega arith))
