-- `cases::checks::surveyed` asks for the fields of a row of the table: the survey says which row is the place's.
use Rattle.std.proofs.Common.{arith}
use Rattle.pairing.proofs.Surveys.{survey_good}
use Rattle.tables.proofs.Places.{row_below}
use Rattle.tables.proofs.Seven.{table_numbered}
use Rattle.tables.specs.Table.{table_checks}
use Rattle.cases.proofs.checks.surveyed.Goals as goal

pub row_at-requires : goal.row_at-requires
row_at-requires g c =
    let t = c.args.table.now in
    let said = survey_good (table_checks t) t c.args.place c.survey.ensures (table_numbered t) c.in-Ok.is in
    omega (arith, row_below t c.args.place (omega (arith, said.is_places, c.if-place-surveyed.true)), said.is_row)
