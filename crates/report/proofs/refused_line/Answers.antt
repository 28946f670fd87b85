-- The line of a refusal, if there is room for a line.
use Rattle.answers.specs.Refusals.{meaning, printed}
use Rattle.wording.specs.Text.{refused_text}
use Rattle.report.proofs.LinesSays.{line_written}
use Rattle.report.proofs.refused_line.Goals as goal

pub returns : goal.returns
returns c = line_written (refused_text (printed (meaning c.args.refusal))) c.args.out.now c.if-out-lt256.false c.write_refusal.ensures
