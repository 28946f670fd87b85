-- The index of the enumeration: by pattern, shape and signs, or by magnitude.
use Rattle.magnitude.proofs.Rows.{usable_countable}
use Rattle.numbering.proofs.Selected.{usable_by, index_by, by_shell, on_shell}
use Rattle.numbering.proofs.inner.Numbering.index.Goals as goal

pub index_of-requires : goal.index_of-requires
index_of-requires c = on_shell c.args.self c.shell.result c.shell.ensures c.requires

pub index_of-requires-in-Magnitude : goal.index_of-requires-in-Magnitude
index_of-requires-in-Magnitude c =
    let m = c.args.self in
    let on = c.requires in
    let usable = usable_by m c.in-Magnitude.is in
    record { of_radius = on.of_radius; countable = rw on.of_length (usable_countable m.length.0 m.radius.0 usable) }

pub returns-in-Product : goal.returns-in-Product
returns-in-Product c =
    let m = c.args.self in
    index_by m (by_shell m c.shell.result c.shell.ensures c.in-Product.is) c.args.x.now c.index_of.ensures

pub returns-in-Magnitude : goal.returns-in-Magnitude
returns-in-Magnitude c = index_by c.args.self c.in-Magnitude.is c.args.x.now c.index_of-in-Magnitude.ensures
