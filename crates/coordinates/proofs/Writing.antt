-- A point that is written into a buffer from its first coordinate on: those before `at` stand there, and `rest` is what
-- is left to write, by its length.
use Prim.Native.Nat.{ℕ, suc, ◌+◌, ◌-◌, ◌≤◌, ◌<◌}
use mathlib.Core.Path.{◌≡◌, sym, ap, ◌∙◌}
use mathlib.Core.List.{List, [], ◌∷◌, ◌++◌, append_assoc, append-nil}
use native.Mathlib.Omega.{arith}
use native.Mathlib.Numerals.{add-one}
use lib.IntN.{ℤ}
use lib.ListN.{length, take, set, length-set}
use lib.Seq.{take-suc-set, take_all}

-- what is left is one coordinate shorter behind each
pub one_less : (out : List ℤ) (at : ℕ) (z : ℤ) → length (set out at z) - (at + 1) ≡ length out - at - 1
one_less out at z = omega (arith, length-set out at z)

-- one more coordinate stands in the buffer
pub write_one : (whole out : List ℤ) (at : ℕ) (rest next : ℕ → List ℤ) (z z' : ℤ) → at < length out → z' ≡ z
    → rest (suc (length out - at - 1)) ≡ z ∷ next (length out - at - 1)
    → whole ≡ take at out ++ rest (length out - at)
    → whole ≡ take (at + 1) (set out at z') ++ next (length (set out at z') - (at + 1))
write_one whole out at rest next z z' h e first inv =
    let one : suc (length out - at - 1) ≡ length out - at = omega arith in
    rw (one_less out at z', e, add-one, take-suc-set out at z h, append_assoc)
    (inv ∙ ap (λ (y : List ℤ). take at out ++ y) (rw one at first))

-- all stand there
pub write_all : (whole out : List ℤ) (at : ℕ) (rest : ℕ → List ℤ) → rest 0 ≡ [] → length out ≤ at
    → whole ≡ take at out ++ rest (length out - at)
    → out ≡ whole
write_all whole out at rest e h inv =
    let none : length out - at ≡ 0 = omega arith in
    sym (inv ∙ rw (none, e, append-nil) (take_all at out h))
