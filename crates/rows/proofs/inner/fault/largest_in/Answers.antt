-- The largest radius of the row's length by its shape field: above it each radius is unusable, by the total of the
-- row's own enumeration.
use Rattle.std.proofs.Common.{ℕ, List, ◌≡◌, ap, ◌∙◌}
use mathlib.Core.Path.{ap₂}
use lib.Dec.{ltb}
use Rattle.counts.specs.Fields.{size_of, field_total}
use Rattle.selectors.specs.Selected.{selected_of, field_in}
use Rattle.selectors.proofs.Named.{total_selected}
use Rattle.tables.specs.Largest.{largest_radius}
use Rattle.tables.specs.Row.{length_of, selector_of, enumeration_of, shell_total}
use Rattle.tables.proofs.Faults.{radius_above_largest}
use Rattle.rows.proofs.inner.fault.largest_in.Goals as goal

-- the shells of a row have as many indices as the shape field of its selector makes
row_total : (row : List ℕ) (k : ℕ) → shell_total row k ≡ field_total (size_of (field_in (selected_of (selector_of row)))) (length_of row) k
unfolding enumeration_of
row_total row k = total_selected (selector_of row) (length_of row) k

pub returns : goal.returns
returns c k =
    let row = c.args.row.now in
    let is_field : c.field-field.result ≡ field_in (selected_of (selector_of row)) =
    c.field-field.ensures ∙ ap field_in (c.from.ensures ∙ ap selected_of c.selector.ensures) in
    ap (λ (most : ℕ). ltb most k) (c.largest_radius.ensures ∙ ap₂ largest_radius is_field c.length.ensures)
    ∙ radius_above_largest (field_in (selected_of (selector_of row))) row k c.requires.0 c.requires.1 (row_total row k)
