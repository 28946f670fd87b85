-- The last line, if there is room for a line.
use Rattle.page.specs.Meanings.{counts_meaning}
use Rattle.reporting.specs.Listing.{last_line}
use Rattle.report.proofs.LinesSays.{line_written}
use Rattle.report.proofs.last_line.Goals as goal

pub returns : goal.returns
returns c = line_written (last_line (counts_meaning c.args.counts) c.args.refused) c.args.out.now c.if-out-lt256.false c.write_last_line.ensures
