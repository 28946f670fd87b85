-- The total: 1 at radius 0, and above it the start of the range for s = 0, which all ranges come before.
use Prim.Native.Nat.{ℕ, zero, suc}
use mathlib.Core.Path.{◌≡◌, refl, sym, ap, ◌∙◌}
use Rattle.counts.specs.Counts.{range_start}
use Rattle.counts.specs.Fields.{size_of, field_total}
use Rattle.counts.proofs.Fields.{total_at_0}
use Rattle.ranges.proofs.inner.total.Goals as goal

above_0 : (F : ℕ → ℕ → ℕ) (l k : ℕ) → (k ≡ 0 → ⊥) → range_start F 0 l k ≡ field_total F l k
unfolding field_total
above_0 F l zero h = absurd (h refl)
above_0 F l (suc k) h = refl

pub returns-then-radius-eq0 : goal.returns-then-radius-eq0
returns-then-radius-eq0 c =
    let a = c.args in
    let F = size_of a.field in
    sym (ap (field_total F a.length.0) c.if-radius-eq0.true ∙ total_at_0 F a.length.0)

pub returns-else-radius-eq0 : goal.returns-else-radius-eq0
returns-else-radius-eq0 c =
    let a = c.args in
    c.requires ∙ above_0 (size_of a.field) a.length.0 a.radius.0 c.if-radius-eq0.false
