-- `shares::inner::largest` gives the first largest remainder: at each coordinate the loop has the first best of
-- those before it, and its remainder.
use Rattle.std.proofs.Common.{◌≡◌, ◌-◌, ℕ, length, get_or, refl, ap, ◌∙◌}
use native.Mathlib.Omega.{arith}
use borrow.Author.Tests.{lt-ltb, le-ltb}
use Rattle.shares.specs.Best.{first_best, larger}
use Rattle.shares.specs.Shares.{largest}
use Rattle.shares.proofs.Best.{scan_begins, scan_takes, scan_passes}
use Rattle.shares.proofs.inner.largest.Goals as goal
use Rattle.shares.proofs.inner.largest.Goals.{then-most-rest, else-most-rest}

pub loop-at-init : goal.loop-at-init
loop-at-init c = scan_begins larger (λ (i : ℕ). get_or c.args.rests.now i 0) 0 (get_or c.args.rests.now 0 0) (omega arith) refl

pub loop-at-preserved : goal.loop-at-preserved
loop-at-preserved c =
    let rests = c.args.rests.now in
    let f = λ (i : ℕ). get_or rests i 0 in
    let i = c.loop-at in
    elim c.if-most-rest.branch [
      | then-most-rest w ↦ rw (w.best-is, w.most-is) (scan_takes larger f i.at i.invariant refl (lt-ltb i.most (f i.at) w.if-most-rest.true))
      | else-most-rest w ↦ rw (w.best-is, w.most-is) (scan_passes larger f i.at i.invariant refl (le-ltb i.most (f i.at) w.if-most-rest.false))
    ]

pub returns : goal.returns
unfolding largest
returns c =
    let rests = c.args.rests.now in
    let scan = c.loop-at.invariant in
    let last : c.loop-at.at ≡ length rests = omega arith in
    (scan.best ∙ ap (λ (n : ℕ). first_best larger (λ (j : ℕ). get_or rests j 0) (n - 1)) last, omega (arith, scan.reached, last, c.requires))
