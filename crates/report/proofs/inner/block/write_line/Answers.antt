-- What is seen of the place can be shown, and there is room for its point.
use Rattle.std.proofs.Common.{pos, replicate, length-take-le, ◌∙◌, arith}
use Rattle.judging.proofs.Shown.{seen_shows}
use Rattle.cells.specs.Spots.{cell_there}
use Rattle.report.proofs.inner.block.write_line.Goals as goal

pub write_seen-requires : goal.write_seen-requires
write_seen-requires c =
    let row = c.args.row.now in
    let is_row = c.requires.0 in
    let l = c.length-l in
    let seen = c.judge_at-seen.ensures in (
      is_row,
      seen_shows c.args.mode.0 row (cell_there c.args.page.now c.args.spot) is_row seen,
      seen.handed,
      length-take-le l.result.0 (replicate 16 (pos 0)) (omega (arith, l.ensures, is_row.row_good.length_to)) ∙ l.ensures,
      c.requires.2,
    )
