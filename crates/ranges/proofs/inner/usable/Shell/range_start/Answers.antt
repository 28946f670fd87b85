-- Each range ends within the total, so no sum is above 2^32.
use Prim.Native.Nat.{ℕ, ◌+◌, ◌-◌, ◌≤◌, ◌<◌, min}
use mathlib.Core.Path.{◌≡◌, sym, ap, ap₂, ◌∙◌}
use native.Mathlib.Omega.{arith}
use native.Mathlib.Decide.{dec_le}
use Rattle.counts.specs.Counts.{most_nonzero, range_size, range_start}
use Rattle.counts.specs.Fields.{size_of}
use Rattle.counts.proofs.Ranges.{range_down, range_last, end_bound}
use Rattle.ranges.proofs.inner.usable.Shell.range_start.Goals as goal

-- where the loop stops the start is that of s: at s itself, or at m where s is past it
stopped : (F : ℕ → ℕ → ℕ) (l k s i : ℕ) → i ≤ s → i ≤ most_nonzero l k → min s (most_nonzero l k) ≤ i → range_start F i l k ≡ range_start F s l k
stopped F l k s i h p q = go (dec_le s (most_nonzero l k))
  where
    go : Dec (s ≤ most_nonzero l k) → range_start F i l k ≡ range_start F s l k
    go (yes r) = let same : i ≡ s = omega arith in ap (λ (x : ℕ). range_start F x l k) same
    go (no r) = range_last F l k i (omega arith) ∙ sym (range_last F l k s (omega arith))

pub loop-i-init : goal.loop-i-init
loop-i-init c =
    let a = c.args in
    let m = c.most_nonzero-i.ensures in
    (omega arith, sym (range_last (size_of a.self.field) a.self.length.0 a.self.radius.0 c.most_nonzero-i.result (omega arith)))

-- the range below i
below : (F : ℕ → ℕ → ℕ) (l k i : ℕ) {size : ℕ} → 0 < i → size ≡ range_size F (i - 1 + 1) l k → size ≡ range_size F i l k
below F l k i p e = let same : i - 1 + 1 ≡ i = omega arith in e ∙ ap (λ (j : ℕ). range_size F j l k) same

pub overflow_add-start : goal.overflow_add-start
overflow_add-start c =
    let a = c.args in
    let i = c.loop-i.i in
    let size = below (size_of a.self.field) a.self.length.0 a.self.radius.0 i (omega arith) c.range_size-start.ensures in
    record { fits = omega (arith, end_bound (size_of a.self.field) a.self.length.0 a.self.radius.0 i (omega arith) (omega arith)) }

pub loop-i-preserved : goal.loop-i-preserved
loop-i-preserved c =
    let a = c.args in
    let i = c.loop-i.i in
    let size = below (size_of a.self.field) a.self.length.0 a.self.radius.0 i (omega arith) c.range_size-start.ensures in
    (omega arith, ap₂ ◌+◌ c.loop-i.invariant.1 size ∙ sym (range_down (size_of a.self.field) a.self.length.0 a.self.radius.0 i (omega arith) (omega arith)))

pub returns : goal.returns
returns c =
    let a = c.args in
    let at = c.loop-i in
    at.invariant.1 ∙ stopped (size_of a.self.field) a.self.length.0 a.self.radius.0 a.s at.i (omega arith) (omega arith) at.invariant.0
