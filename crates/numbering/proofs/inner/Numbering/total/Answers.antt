-- The total of the enumeration is what the ranges of its shape field sum up to.
use mathlib.Core.Path.{sym, ◌∙◌}
use Rattle.numbering.proofs.Selected.{total_of_shell}
use Rattle.numbering.proofs.inner.Numbering.total.Goals as goal

pub returns : goal.returns
returns c = c.index_count.ensures ∙ sym (total_of_shell c.args.self c.shell.result c.shell.ensures)
