-- As many lines as there is room for are written, unless refusal 12 is given for a place among them.
use Rattle.std.proofs.lemmas.Result.{err_from_is_err_and}
use Rattle.report.proofs.LinesSays.{from_places, has_room, lines_12, lines_written}
use Rattle.report.proofs.inner.block.lines_from.Goals as goal

pub overflow_sub-opened : goal.overflow_sub-opened
overflow_sub-opened c = from_places c.requires

pub check_cells-requires : goal.check_cells-requires
check_cells-requires c = (has_room c.requires c.args.out.now c.min.ensures).spans

pub write_lines-size-requires : goal.write_lines-size-requires
write_lines-size-requires c = has_room c.requires c.args.out.now c.min.ensures

pub returns-clause-says : goal.returns-clause-says
returns-clause-says c =
    (lines_written c.requires c.args.out.now c.min.ensures c.if-out-lt256.false c.in_ok-check_cells.ensures c.write_lines-size.ensures).0

pub returns-clause-leaves : goal.returns-clause-leaves
returns-clause-leaves c =
    (lines_written c.requires c.args.out.now c.min.ensures c.if-out-lt256.false c.in_ok-check_cells.ensures c.write_lines-size.ensures).1.0

pub returns-in_err-check_cells-clause-says : goal.returns-in_err-check_cells-clause-says
returns-in_err-check_cells-clause-says c =
    let e = err_from_is_err_and c.from_residual.result c.from_residual.ensures.1 in
    rw (e.1, e.2)
    (lines_12 c.requires c.args.out.now c.min.ensures c.if-out-lt256.false c.in_err-check_cells.field-0.0 c.in_err-check_cells.ensures).0

pub returns-in_err-check_cells-clause-leaves : goal.returns-in_err-check_cells-clause-leaves
returns-in_err-check_cells-clause-leaves c =
    (lines_12 c.requires c.args.out.now c.min.ensures c.if-out-lt256.false c.in_err-check_cells.field-0.0 c.in_err-check_cells.ensures).1.0
