-- In a usable shell: refusals 4 and 5, or the index.
use Prim.Native.Nat.{ℕ}
use mathlib.Core.Path.{sym, ap, ◌∙◌}
use mathlib.Core.List.{[], ◌∷◌}
use Rattle.numbering.specs.Numbered.{index_in}
use Rattle.points.proofs.Says.{index_4, index_5, index_0}
use Rattle.points.proofs.index_usable.Goals as goal

pub returns-then-x-numbering : goal.returns-then-x-numbering
returns-then-x-numbering c =
    let a = c.args in
    let m = a.numbering in
    index_4 m.length.0 m.radius.0 (index_in m a.x.now) a.x.now c.if-x-numbering.true

pub returns-then-magnitude_sum-numbering : goal.returns-then-magnitude_sum-numbering
returns-then-magnitude_sum-numbering c =
    let a = c.args in
    let m = a.numbering in
    index_5 m.length.0 m.radius.0 (index_in m a.x.now) a.x.now c.if-x-numbering.false
    (λ r. c.if-magnitude_sum-numbering.true (c.magnitude_sum.ensures ∙ r))

pub returns : goal.returns
returns c =
    let a = c.args in
    let m = a.numbering in
    ap (λ (n : ℕ). 0 ∷ n ∷ []) c.index.ensures
    ∙ index_0 m.length.0 m.radius.0 (index_in m a.x.now) a.x.now
    (record { of_length = c.if-x-numbering.false; of_radius = sym c.magnitude_sum.ensures ∙ c.if-magnitude_sum-numbering.false })
