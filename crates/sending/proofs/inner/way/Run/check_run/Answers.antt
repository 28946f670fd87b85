-- `sending::inner::way::Run::check_run` refuses the lowest place at fault and its first coordinate at fault: while the
-- places before it pass, what is left of the checks decides.
use Rattle.std.proofs.Common.{rules, length, sym, ap, ◌∙◌}
use native.Mathlib.Omega.{arith}
use Rattle.runs.proofs.Judging.{none_left, usable_says, place_11, place_passes}
use Rattle.runs.proofs.Positions.{vector_length}
use Rattle.runs.proofs.Way.{goes_on}
use Rattle.sending.proofs.Measured.{measured, inside}
use Rattle.sending.proofs.inner.way.Run.check_run.Goals as goal

pub returns-then-not-some_unusable : goal.returns-then-not-some_unusable
returns-then-not-some_unusable c =
    let run = c.args.self.now in
    usable_says run.table.now run.coefficients.now (measured run).run_long (sym c.some_unusable.ensures ∙ c.if-not-some_unusable.true)

pub returns-in-Some : goal.returns-in-Some
returns-in-Some c =
    let run = c.args.self.now in
    let long = (measured run).run_long in
    let i = c.loop-place in
    let h = inside run i.place (search rules) in
    let vector = c.next.ensures.its_vector in
    place_11 run.table.now run.coefficients.now long h vector c.in-Some.ensures.1 i.invariant.1
    (omega (arith, c.in-Some.ensures.0, ap length vector, vector_length run.table.now run.coefficients.now long i.place h))

pub loop-place-preserved : goal.loop-place-preserved
loop-place-preserved c =
    let run = c.args.self.now in
    let long = (measured run).run_long in
    let i = c.loop-place in
    let h = inside run i.place (search rules) in
    let vector = c.next.ensures.its_vector in (
      goes_on c.next.ensures.goes_on,
      place_passes run.table.now run.coefficients.now long h vector c.in_default.ensures i.invariant.1
          (omega (arith, ap length vector, vector_length run.table.now run.coefficients.now long i.place h)),
    )

pub returns : goal.returns
returns c =
    let run = c.args.self.now in
    none_left run.table.now run.coefficients.now (omega (arith, (measured run).opened.is_places)) c.loop-place.invariant.1
