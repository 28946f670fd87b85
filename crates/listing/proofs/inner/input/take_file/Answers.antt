-- `listing::inner::input::take_file` takes block after block; in each no more takes are refused than it has parts.
use Rattle.std.proofs.Common.{◌≡◌, ◌*◌, refl, ◌∙◌, length, take, arith}
use Rattle.listing.proofs.Blocks.{took_none, took_block, took_more, cell_by_cell_lem, refused_few}
use Rattle.listing.proofs.inner.input.take_file.Goals as goal

pub loop-turn-init : goal.loop-turn-init
loop-turn-init g c = (refl, refl, omega arith, took_none c.args.table.now c.args.page.now)

pub overflow_add-refused : goal.overflow_add-refused
overflow_add-refused g c =
    let l = c.loop-turn in
    let t = c.args.table.now in
    let filled = c.fill-n in
    let block = take filled.result filled.new.block in
    let few = refused_few t l.page block (cell_by_cell_lem t l.page block c.collect.ensures).0 (omega (arith, filled.ensures.part, filled.ensures.fits, filled.auto.block, l.invariant.0)) in
    record { fits = omega (arith, l.invariant.2, l.auto._turn-end, few) }

pub returns-then-n-lt65536 : goal.returns-then-n-lt65536
returns-then-n-lt65536 g c =
    let l = c.loop-turn in
    let block = take c.fill-n.result c.fill-n.new.block in
    let did = cell_by_cell_lem c.args.table.now l.page block c.collect.ensures in
    took_more l.invariant.3 block did.1 did.0

pub loop-turn-preserved : goal.loop-turn-preserved
loop-turn-preserved g c =
    let l = c.loop-turn in
    let t = c.args.table.now in
    let filled = c.fill-n in
    let size = filled.auto.block ∙ l.invariant.0 in
    let block = take filled.result filled.new.block in
    let whole : length block ≡ 8 * 8192 = omega (arith, filled.ensures.part, filled.ensures.fits, size, c.if-n-lt65536.false) in
    let did = cell_by_cell_lem t l.page block c.collect.ensures in
    let few = refused_few t l.page block did.0 (omega (arith, whole)) in (
      size,
      c.collect.auto.page ∙ l.invariant.1,
      omega (arith, l.invariant.2, few),
      took_block l.invariant.3 block did.1 did.0 8192 whole,
    )
