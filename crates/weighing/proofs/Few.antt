-- The counts for one and for two nonzero coordinates, as the code has them without a look-up.
use Prim.Native.Nat.{ℕ, zero, suc, ◌-◌, ◌*◌, ◌/◌, ◌≤◌, ◌<◌}
use mathlib.Core.Path.{◌≡◌}
use native.Mathlib.Omega.{arith}
use native.Mathlib.Nat.{suc-mul, mul-suc}
use Rattle.counts.specs.Counts.{D, S}
use Rattle.counts.proofs.Pascal.{D_zero, D_addition, D_small}

pub D_one : (l : ℕ) → D 1 l ≡ l
D_one zero = D_small 1 0 (omega arith)
D_one (suc l) = omega (arith, D_one l, D_addition 0 l, D_zero l)

pub square_from : (l : ℕ) → l ≤ l * l
square_from zero = omega arith
square_from (suc l) = omega (arith, suc-mul l (suc l))

pub D_two : (l : ℕ) → D 2 l ≡ (l * l - l) / 2
D_two zero = D_small 2 0 (omega arith)
D_two (suc l) =
    omega (arith, D_two l, D_one l, D_addition 1 l, square_from l, suc-mul l (suc l), mul-suc l l)

pub S_two : (k : ℕ) → 0 < k → k - 1 ≡ S 2 k
unfolding S D
S_two zero p = omega arith
S_two (suc k) p = omega (arith, D_one k)
