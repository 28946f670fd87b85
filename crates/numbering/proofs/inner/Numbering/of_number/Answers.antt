-- The radius is taken from the row, by its number.
use Rattle.numbering.proofs.inner.Numbering.of_number.Goals as goal

pub in_row-requires : goal.in_row-requires
in_row-requires c = rw c.radius.ensures.0 c.requires.1

pub returns : goal.returns
returns c = rw c.radius.ensures.0 at c.in_row.ensures
