-- The lines of some places, row by row.
use Rattle.std.proofs.Common.{arith}
use Rattle.buffers.proofs.Writing.{wrote_length}
use Rattle.tables.proofs.Walking.{its_row, row_bytes, walks_here, walks_on}
use Rattle.report.specs.Bounds.{page_spanned}
use Rattle.report.proofs.Joined.{begins_lines, line_more}
use Rattle.report.proofs.Spanned.{inside, its_spot, its_cell, its_bytes}
use Rattle.report.proofs.inner.block.write_lines.Goals as goal

pub loop-place-init : goal.loop-place-init
loop-place-init c =
    let span = c.args.span in (
      omega arith,
      c.requires.spans.from_to,
      walks_here c.walk_from-walk.ensures,
      begins_lines c.args.mode.0 c.args.table.now (page_spanned c.args.table.now c.args.page.now span) span.book span.from c.args.out.now,
    )

pub locate-spot-requires : goal.locate-spot-requires
locate-spot-requires c = its_spot c.requires.spans c.loop-place-test.true c.walked-walk.ensures

pub write_line-end-requires : goal.write_line-end-requires
write_line-end-requires c =
    let so_far = c.loop-place.invariant.3 in
    let at_row = c.walked-walk.ensures in
    let h = c.loop-place-test.true in (
      rw c.row_at.ensures (row_bytes at_row),
      its_cell c.requires.spans h at_row c.locate-spot.ensures,
      omega (arith, so_far.to, wrote_length so_far, c.requires.room, h),
    )

pub loop-place-preserved : goal.loop-place-preserved
loop-place-preserved c =
    let i = c.loop-place in
    let span = c.args.span in
    let spans = c.requires.spans in
    let at_row = c.walked-walk.ensures in
    let h = c.loop-place-test.true in
    let located = c.locate-spot.ensures in
    let wrote = rw located.is_named at c.write_line-end.ensures in (
      omega (arith, i.invariant.0),
      omega (arith, h),
      walks_on at_row,
      line_more c.args.mode.0 c.args.table.now (page_spanned c.args.table.now c.args.page.now span) span.book i.invariant.0 (its_row at_row (inside spans h))
          c.row_at.ensures (its_bytes spans h at_row located) i.invariant.3 wrote,
    )
