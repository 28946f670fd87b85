-- A point that is to be written by the magnitude enumeration: what its code asks for.
use Prim.Native.Nat.{ℕ, ◌<◌}
use mathlib.Core.Path.{◌≡◌}
use native.Mathlib.Omega.{arith}
use Rattle.counts.specs.Counts.{N}
use Rattle.magnitude.specs.Rows.{Countable}
use Rattle.magnitude.proofs.Rows.{usable_countable}
use Rattle.numbering.specs.Numbered.{ByMagnitude, Names}
use Rattle.numbering.specs.declared.inner.Numbering.{Numbering}
use Rattle.numbering.proofs.Selected.{total_by, usable_by}

-- a buffer of as many coordinates
pub by_magnitude : (m : Numbering) → ByMagnitude m → (n : ℕ) → Names m n → (room : ℕ) → room ≡ m.length.0
    → (0 < room) × Countable room m.radius.0 × (n < N room m.radius.0)
by_magnitude m e n names room long =
    let usable = usable_by m e in
    rw long (omega (arith, usable.length_from), usable_countable m.length.0 m.radius.0 usable, omega (arith, names.below, total_by m e))
