-- The point of an index that was found.
use Rattle.std.proofs.Common.{sym, ◌∙◌}
use Rattle.numbering.proofs.OfRow.{point_of_lem, found_at}
use Rattle.places.proofs.Naming.{names_by}
use Rattle.places.proofs.inner.showing.write_found.Goals as goal

pub in_row-requires : goal.in_row-requires
in_row-requires c = c.requires.1.usable

pub write_point-requires : goal.write_point-requires
write_point-requires c =
    let of_row = c.in_row.ensures in
    (names_by of_row c.requires.1, found_at of_row c.requires.2, c.requires.3 ∙ sym of_row.is_length)

pub returns : goal.returns
returns c = c.write_point.ensures ∙ point_of_lem c.in_row.ensures c.args.n
