-- A refusal counts as 1.
use Rattle.std.proofs.Common.{arith}
use Rattle.rules.specs.Layouts.{as_cells}
use Rattle.page.proofs.Collecting.{leaves_all, counts_0, counts_1}
use Rattle.page.proofs.inner.opened.Opened.refusals_of.Goals as goal

pub returns-in-Ok : goal.returns-in-Ok
returns-in-Ok c =
    let t = c.args.self.now.table.now in
    let books = c.args.self.now.books.0 in
    let pg = as_cells c.args.self.now.layout t books c.args.page.now in
    let x = c.args.bytes.now in
    let did = c.in-Ok.ensures in
    (counts_0 t books pg c.requires.ready.passes x did.0, leaves_all t books pg c.requires.ready.passes x did.1, omega arith)

pub returns-in-Err : goal.returns-in-Err
returns-in-Err c =
    let t = c.args.self.now.table.now in
    let books = c.args.self.now.books.0 in
    let pg = as_cells c.args.self.now.layout t books c.args.page.now in
    let x = c.args.bytes.now in
    let did = c.in-Err.ensures in
    (counts_1 t books pg c.requires.ready.passes x c.in-Err.field-0 did.0, leaves_all t books pg c.requires.ready.passes x did.1, omega arith)
