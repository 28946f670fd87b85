-- Where the field has bits the range of the index is asked; in the exact field, and by magnitude, every index names a
-- point.
use mathlib.Core.Path.{refl, ap, ◌∙◌}
use Rattle.selectors.specs.declared.inner.Selected.TheVariants as selected
use Rattle.numbering.proofs.Selected.{names_by, names_exact, names_shell, found_shell, index_shell}
use Rattle.numbering.proofs.inner.Numbering.names.Goals as goal

pub names-requires : goal.names-requires
names-requires c =
    let m = c.args.self in
    let shell = c.shell-shell in
    let found = c.locate in
    let by = c.in-Product-Bits.is in
    index_shell m shell.result shell.ensures by c.args.n found.result c.requires
    (found_shell m shell.result shell.ensures by c.args.n found.result found.ensures.0 found.ensures.1)

pub returns-in-Product-Bits : goal.returns-in-Product-Bits
returns-in-Product-Bits c = names_shell c.args.self c.shell-shell.result c.shell-shell.ensures c.in-Product-Bits.is c.args.n c.names.ensures

pub returns-in-Product-Exact : goal.returns-in-Product-Exact
returns-in-Product-Exact c =
    let by = c.in-Product-Exact.is in
    let exact = rw by at c.in-Product-Exact.field-0-is in
    names_exact c.args.self (by ∙ ap selected.Product exact) c.args.n c.requires

pub returns-in-Magnitude : goal.returns-in-Magnitude
returns-in-Magnitude c = names_by c.args.self c.in-Magnitude.is c.args.n refl
