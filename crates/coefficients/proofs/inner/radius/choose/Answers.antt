-- `coefficients::inner::radius::choose` gives the chosen radius number: at each number the loop has the first best
-- of those before it, and by how much that one misses.
use Rattle.std.proofs.Common.{◌≡◌, ◌-◌, ℕ, ap, ◌∙◌}
use native.Mathlib.Omega.{arith}
use borrow.Author.Tests.{lt-ltb, le-ltb}
use Rattle.tables.specs.Row.{radii_of}
use Rattle.shares.specs.Best.{first_best, smaller}
use Rattle.shares.proofs.Best.{scan_begins, scan_takes, scan_passes}
use Rattle.coefficients.specs.Radius.{miss_by, chosen_radius_number}
use Rattle.coefficients.proofs.inner.radius.choose.Goals as goal
use Rattle.coefficients.proofs.inner.radius.choose.Goals.{then-miss-least, else-miss-least}

pub loop-number-init : goal.loop-number-init
loop-number-init c = scan_begins smaller (miss_by c.args.row.now c.args.total) 1 c.miss_by-least.result (omega arith) c.miss_by-least.ensures

pub loop-number-preserved : goal.loop-number-preserved
loop-number-preserved c =
    let f = miss_by c.args.row.now c.args.total in
    let i = c.loop-number in
    let miss = c.miss_by-miss in
    elim c.if-miss-least.branch [
      | then-miss-least w ↦ rw (w.best-is, w.least-is) (scan_takes smaller f i.number i.invariant miss.ensures (lt-ltb miss.result i.least w.if-miss-least.true))
      | else-miss-least w ↦ rw (w.best-is, w.least-is) (scan_passes smaller f i.number i.invariant miss.ensures (le-ltb miss.result i.least w.if-miss-least.false))
    ]

pub returns : goal.returns
unfolding chosen_radius_number
returns c =
    let i = c.loop-number in
    let scan = i.invariant in
    let last : i.number ≡ radii_of c.args.row.now = omega (arith, c.loop-number-test.false, c.radii-number-end.ensures) in
    (scan.best ∙ ap (λ (n : ℕ). first_best smaller (miss_by c.args.row.now c.args.total) (n - 1)) last, omega (arith, scan.reached, last, c.requires.1))
