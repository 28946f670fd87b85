-- In a usable shell: refusals 4, 6 and 15, and the buffer as it was; or the point of the index.
use Prim.Native.Nat.{ℕ, ◌-◌}
use mathlib.Core.List.{[], ◌∷◌}
use mathlib.Core.Path.{ap, ◌∙◌}
use native.Mathlib.Omega.{arith}
use Rattle.counts.specs.Distance.{distance}
use Rattle.numbering.specs.Numbered.{enumeration_in}
use Rattle.points.proofs.Says.{point_4, point_6, point_15, point_0}
use Rattle.points.proofs.point_usable.Goals as goal

pub returns-then-out-numbering : goal.returns-then-out-numbering
returns-then-out-numbering c =
    let a = c.args in
    let m = a.numbering in
    point_4 (enumeration_in m) m.length.0 m.radius.0 a.n a.out.now c.if-out-numbering.true

pub write_point-requires : goal.write_point-requires
write_point-requires c =
    let there = c.in-Ok.ensures in
    (record { below = there.0; named = there.1 }, there.2, c.if-out-numbering.false)

-- a search that ends past the end tells the total, which the index has reached
pub overflow_sub-result : goal.overflow_sub-result
overflow_sub-result c =
    let past = rw c.in-Err-Past.field-0-is at c.in-Err-Past.ensures in
    omega (arith, past.0, past.1)

pub returns-in-Ok : goal.returns-in-Ok
returns-in-Ok c =
    let a = c.args in
    let m = a.numbering in
    let there = c.in-Ok.ensures in
    let does = point_0 (enumeration_in m) m.length.0 m.radius.0 a.n a.out.now c.if-out-numbering.false there.0 there.1 in
    (does.0, c.write_point.ensures ∙ does.1)

pub returns-in-Err-Empty : goal.returns-in-Err-Empty
returns-in-Err-Empty c =
    let a = c.args in
    let m = a.numbering in
    let empty = rw c.in-Err-Empty.field-0-is at c.in-Err-Empty.ensures in
    point_15 (enumeration_in m) m.length.0 m.radius.0 a.n a.out.now c.if-out-numbering.false empty.0 empty.1

pub returns-in-Err-Past : goal.returns-in-Err-Past
unfolding distance
returns-in-Err-Past c =
    let a = c.args in
    let m = a.numbering in
    let past = rw c.in-Err-Past.field-0-is at c.in-Err-Past.ensures in
    let does = point_6 (enumeration_in m) m.length.0 m.radius.0 a.n a.out.now c.if-out-numbering.false past.0 in
    rw c.in-Err-Past.field-0-is (ap (λ (total : ℕ). 6 ∷ (a.n - total) ∷ []) past.1 ∙ does.0, does.1)
