-- The parts are taken in turn; what is left of the run decides.
use Rattle.std.proofs.Common.{ap, ◌∙◌, arith, length, min, refl}
use Rattle.laws.proofs.Arrivals.{ready_after}
use Rattle.rules.specs.Layouts.{as_cells}
use Rattle.rules.specs.Taking.{Received}
use Rattle.page.proofs.Collecting.{shorter, collects, all_collected}
use Rattle.page.proofs.inner.opened.Opened.collect_parts.Goals as goal

pub loop-part-init : goal.loop-part-init
loop-part-init c = rw (c.into_iter-part-iterator.ensures.into_iter_gives, c.chunks-part-items.ensures.rest, c.chunks-part-items.ensures.size) (refl, omega arith, c.requires.ready, refl)

pub refusals_of-refused-requires : goal.refusals_of-refused-requires
refusals_of-refused-requires c = record { ready = c.loop-part.invariant.2; begins = c.requires.begins }

pub loop-part-preserved : goal.loop-part-preserved
loop-part-preserved c =
    let i = c.loop-part in
    let t = c.args.self.now.table.now in
    let books = c.args.self.now.books.0 in
    let pg = as_cells c.args.self.now.layout t books i.page in
    let step = c.in-Some.ensures.steps in
    let long = step.1.1 ∙ ap (λ n. min n (length i.part-iterator.rest.now)) i.invariant.0 in
    let left = i.part-iterator.rest.now in
    let part = c.in-Some.part.now in
    let rest = c.next.new.self.rest.now in
    let call = c.refusals_of-refused in
    let did = call.ensures in (
      step.0 ∙ i.invariant.0,
      shorter left part rest step.1.0 long step.1.2 i.refused call.result (length c.args.bytes.now) i.invariant.1 did.2,
      record { passes = rw did.1 (ready_after t books pg i.invariant.2.passes part); is_places = i.invariant.2.is_places },
      collects left part rest step.1.0 long step.1.2 t books pg (as_cells c.args.self.now.layout t books call.new.page) i.refused call.result did.1 did.0 i.invariant.3,
    )

pub returns : goal.returns
returns c =
    let i = c.loop-part in
    let t = c.args.self.now.table.now in
    let books = c.args.self.now.books.0 in
    let all = all_collected t books (as_cells c.args.self.now.layout t books i.page) i.part-iterator.rest.now i.refused c.in-None.ensures.steps.1.0 i.invariant.3 in
    (ap (λ (s : Received). s.refused) all, ap (λ (s : Received). s.page) all)
