-- The length and the selector are taken from the row.
use mathlib.Core.Path.{refl, ap, ◌∙◌}
use Rattle.selectors.specs.Selected.{selected_of}
use Rattle.numbering.proofs.inner.of_radius.Goals as goal

pub returns : goal.returns
returns c = (c.length.ensures, refl, c.from.ensures ∙ ap selected_of c.selector.ensures)
