-- The enumerations as the code names them (docs/RULES.md, "Enumerations").
use Rattle.std.specs.Prelude.{ℕ, zero, suc}
use Rattle.counts.specs.Fields.{size_of}
use Rattle.counts.specs.declared.Field.{Field}
use Rattle.counts.specs.declared.Field.TheVariants as field
use Rattle.enumeration.specs.Enumeration.{Enumeration}
use Rattle.enumeration.specs.Enumerations.{by_field, magnitude}
use Rattle.selectors.specs.declared.inner.Selected.{Selected}
use Rattle.selectors.specs.declared.inner.Selected.TheVariants as selected

-- which enumeration a selector selects, in code, and the enumeration that the code's name stands for
abbrev pub selected_of : ℕ → Selected
selected_of zero = selected.Product field.Exact
selected_of (suc zero) = selected.Magnitude
selected_of (suc (suc v)) = selected.Product field.Bits

abbrev pub enumeration_named : Selected → Enumeration
enumeration_named (selected.Product f) = by_field (size_of f)
enumeration_named selected.Magnitude = magnitude

-- the shape field by which its indices are counted
abbrev pub field_in : Selected → Field
field_in (selected.Product f) = f
field_in selected.Magnitude = field.Exact
