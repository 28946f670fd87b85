-- A row of the table that does not begin behind the place is another row if it ends before the place.
use Rattle.std.proofs.Common.{rules, add-one}
use Rattle.tables.proofs.Starting.{row_or_before}
use Rattle.pairing.proofs.inner.starts.is_foreign.Goals as goal

pub returns-else-place-starts : goal.returns-else-place-starts
returns-else-place-starts c =
    rw (add-one c.args.row) (row_or_before c.requires.0 c.args.row c.args.place c.requires.1 (search rules) (search rules))
