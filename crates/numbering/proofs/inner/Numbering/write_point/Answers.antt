-- The point of the enumeration: by pattern, shape and signs, or by magnitude.
use mathlib.Core.Path.{sym, ◌∙◌}
use lib.ListN.{length}
use Rattle.numbering.proofs.Selected.{point_by, point_shell, index_shell, names_there, same_length}
use Rattle.numbering.proofs.Writing.{by_magnitude}
use Rattle.numbering.proofs.inner.Numbering.write_point.Goals as goal

pub write_point-requires : goal.write_point-requires
write_point-requires c =
    let m = c.args.self in
    let n = c.args.n in
    let shell = c.shell in
    let by = c.in-Product.is in
    let names = c.requires.0 in (
      index_shell m shell.result shell.ensures by n c.args.found names.below c.requires.1,
      names_there m shell.result shell.ensures by n names,
      c.requires.2 ∙ sym (same_length m shell.result shell.ensures),
    )

pub write_point-requires-in-Magnitude : goal.write_point-requires-in-Magnitude
write_point-requires-in-Magnitude c =
    by_magnitude c.args.self c.in-Magnitude.is c.args.n c.requires.0 (length c.args.out.now) c.requires.2

pub returns-in-Product : goal.returns-in-Product
returns-in-Product c = point_shell c.args.self c.shell.result c.shell.ensures c.in-Product.is c.args.n c.write_point.ensures

pub returns-in-Magnitude : goal.returns-in-Magnitude
returns-in-Magnitude c =
    let written = rw c.requires.2 at c.write_point-in-Magnitude.ensures in
    point_by c.args.self c.in-Magnitude.is c.args.n written
