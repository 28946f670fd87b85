-- A lent buffer that is not refused 4 has the length that is asked.
use Prim.Native.Nat.{ℕ}
use mathlib.Core.Bool.{false}
use mathlib.Core.Path.{◌≡◌}
use lib.Dec.{eqb}
use borrow.Author.Tests.{eqb-true, not-false}
use Rattle.answers.specs.Checks.{wrong_length}

pub right_length : (b n : ℕ) → wrong_length b n ≡ false → b ≡ n
right_length b n right = eqb-true b n (not-false (eqb b n) right)
