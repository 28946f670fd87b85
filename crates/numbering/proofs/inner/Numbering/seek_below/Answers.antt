-- Below the total every index names a point.
use mathlib.Core.Path.{refl, sym}
use native.Mathlib.Omega.{arith}
use Rattle.numbering.proofs.Selected.{found_by_lem, names_by}
use Rattle.numbering.proofs.inner.Numbering.seek_below.Goals as goal

pub returns : goal.returns
returns c =
    let m = c.args.self in
    let n = c.args.n in
    (omega (arith, c.total-total.ensures, c.if-total-n.false), sym (names_by m c.requires n refl), found_by_lem m c.requires n refl)
