-- The enumerations that a selector selects: each is lawful; that of 0 and 1 has N indices, and each of them names a
-- point; and that of 0 and 2 has the signs lowest in the index, being the product enumeration of a shape field.
use Prim.Native.Nat.{ℕ, zero, suc, ◌≤◌}
use mathlib.Core.Bool.{true, false≢true}
use mathlib.Core.Path.{◌≡◌, refl}
use native.Mathlib.Omega.{arith}
use Rattle.counts.specs.Counts.{N}
use Rattle.counts.specs.Fields.{size_of}
use Rattle.counts.specs.declared.Field.{Field}
use Rattle.counts.specs.declared.Field.TheVariants as field
use Rattle.counts.proofs.Fields.{is_field, total_exact}
use Rattle.enumeration.specs.Enumeration.{Lawful, Full}
use Rattle.enumeration.specs.Enumerations.{by_field, selected_by}
use Rattle.enumeration.specs.Signs.{signs_lowest}
use Rattle.enumeration.proofs.Magnitude.{magnitude_lawful, magnitude_full}
use Rattle.enumeration.proofs.Product.{field_lawful, exact_names}

pub selected_lawful : (v : ℕ) → Lawful (selected_by v)
unfolding selected_by
selected_lawful zero = field_lawful (size_of field.Exact) (is_field field.Exact)
selected_lawful (suc zero) = magnitude_lawful
selected_lawful (suc (suc v)) = field_lawful (size_of field.Bits) (is_field field.Bits)

pub selected_full : (v : ℕ) → v ≤ 1 → Full (selected_by v)
unfolding selected_by
selected_full zero h = exact_names (is_field field.Exact)
selected_full (suc zero) h = magnitude_full
selected_full (suc (suc v)) h = absurd (omega arith)

pub selected_total : (v : ℕ) → v ≤ 1 → (l k : ℕ) → (selected_by v).total l k ≡ N l k
unfolding selected_by
selected_total zero h l k = total_exact l k
selected_total (suc zero) h l k = refl
selected_total (suc (suc v)) h l k = absurd (omega arith)

-- a selector whose enumeration has the signs lowest
pub signs_lowest_lem : (v : ℕ) → signs_lowest v ≡ true → (f : Field) × (selected_by v ≡ by_field (size_of f))
unfolding selected_by
signs_lowest_lem zero e = (field.Exact, refl)
signs_lowest_lem (suc zero) e = absurd (false≢true e)
signs_lowest_lem (suc (suc v)) e = (field.Bits, refl)
