-- The length and the selector are those that the row says.
use Rattle.numbering.proofs.OfRow.{row_usable}
use Rattle.numbering.proofs.inner.Numbering.in_row.Goals as goal

pub invariant_of-result : goal.invariant_of-result
invariant_of-result c =
    let said = c.of_radius-choice.ensures in
    record { usable = rw (said.0, said.1) (row_usable c.args.row.now c.args.radius.0 said.2 c.requires) }

pub returns : goal.returns
returns c =
    let said = c.of_radius-choice.ensures in
    record { is_length = said.0; is_radius = said.1; is_selected = said.2 }
