-- The point of an index that is sought.
use Rattle.std.proofs.Common.{sym, ◌∙◌}
use Rattle.numbering.proofs.OfRow.{point_of_lem}
use Rattle.places.proofs.Naming.{names_by}
use Rattle.places.proofs.inner.showing.write_sought.Goals as goal

pub in_row-numbering-requires : goal.in_row-numbering-requires
in_row-numbering-requires c = c.requires.1.usable

pub write_point-requires : goal.write_point-requires
write_point-requires c =
    let of_row = c.in_row-numbering.ensures in
    (names_by of_row c.requires.1, c.find.ensures, c.requires.2 ∙ sym of_row.is_length)

pub returns : goal.returns
returns c = c.write_point.ensures ∙ point_of_lem c.in_row-numbering.ensures c.args.n
