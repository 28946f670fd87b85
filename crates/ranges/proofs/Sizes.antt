-- The counts of a range are small: within lengths to 16 and radii to 32 a pattern count and a sign count are at
-- most 2^16, and a shape count and its field are at most 2^31, so their product fits 64 bits.
use Prim.Native.Nat.{ℕ, zero, suc, ◌*◌, ◌^◌, ◌≤◌, ◌<◌}
use native.Mathlib.Omega.{arith}
use native.Mathlib.Nat.{le_trans, mul-le-mul, lt_of_le_of_lt}
use lib.Dec.{lit<}
use lib.Pow.{pow_mono}
use mir.Syntax.{w64}
use mir.Val.{Fits}
use Rattle.counts.specs.Counts.{D, S, B}
use Rattle.counts.specs.Fields.{size_of}
use Rattle.counts.specs.declared.Field.{Field}
use Rattle.counts.proofs.Fields.{size_room, room_within}
use Rattle.counts.proofs.Pascal.{D_bound, S_bound}

pub D_small_enough : (s l : ℕ) → l ≤ 16 → D s l ≤ 2 ^ 16
D_small_enough s l h = le_trans (D_bound s l) (pow_mono h)

pub S_small_enough : (s k : ℕ) → 0 < k → k ≤ 32 → S s k ≤ 2 ^ 31
S_small_enough s zero p h = omega arith
S_small_enough s (suc k) p h = le_trans (S_bound s k) (pow_mono {i = k} {j = 31} (omega arith))

pub F_small_enough : (f : Field) (s k : ℕ) → 0 < k → k ≤ 32 → size_of f s k ≤ 2 ^ 31
F_small_enough f s k p h = rw (← size_room f s k) (room_within f (S s k) 31 (S_small_enough s k p h))

pub B_small_enough : (s : ℕ) → s ≤ 16 → B s ≤ 2 ^ 16
unfolding B
B_small_enough s h = pow_mono h

pub three_fit : (d s b : ℕ) → d ≤ 2 ^ 16 → s ≤ 2 ^ 31 → b ≤ 2 ^ 16 → Fits w64 (d * s * b)
three_fit d s b p q r = record { fits = lt_of_le_of_lt (mul-le-mul (mul-le-mul p q) r) (lit< tt) }
