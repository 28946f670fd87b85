-- The shell is usable by the total that its field makes.
use Rattle.numbering.proofs.Selected.{usable_by_field}
use Rattle.numbering.proofs.inner.Numbering.shell.Goals as goal

pub invariant_of-result : goal.invariant_of-result
invariant_of-result c = record { usable = usable_by_field c.args.self c.field.ensures }
