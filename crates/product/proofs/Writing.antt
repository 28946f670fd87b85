-- One coordinate of a point that is written from its components: zero, or the next of the shape; and what is left
-- can be written from again.
use Prim.Native.Nat.{ℕ, suc, ◌-◌, ◌≤◌, ◌<◌}
use mathlib.Core.Path.{◌≡◌}
use mathlib.Core.List.{◌∷◌}
use native.Mathlib.Omega.{arith}
use lib.IntN.{pos}
use Rattle.counts.specs.Counts.{D}
use Rattle.enumeration.proofs.Patterns.{pattern_at_least, pattern_left}
use Rattle.enumeration.proofs.Shapes.{first_read}
use Rattle.enumeration.proofs.Steps.{write_zero, write_nonzero}
use Rattle.product.specs.declared.inner.components.Components.{Components}
use Rattle.product.specs.Components.{MakesPoint, written_from}
use Rattle.product.specs.Steps.{Nonzero, taken}

module _ (q : Components) (behind : ℕ) (w : MakesPoint q (suc behind)) where
  pub s_to : q.s ≤ suc behind
  s_to = pattern_at_least q.s (suc behind) q.pattern w.pattern_below

  pub zero_next : q.pattern < D q.s behind → MakesPoint q behind × (written_from q (suc behind) ≡ pos 0 ∷ written_from q behind)
  zero_next h = (
    record { length_to = omega (arith, w.length_to); radius_to = w.radius_to; pattern_below = h; shape_below = w.shape_below },
    write_zero q.s behind q.k q.pattern q.shape q.sign h,
  )

  -- the pattern begins with a nonzero coordinate: the d that begin with a zero come before
  module _ (d : ℕ) (e : d ≡ D q.s behind) (h : d ≤ q.pattern) where
    left : (0 < q.s) × (q.pattern - D q.s behind < D (q.s - 1) behind)
    left = pattern_left q.s behind q.pattern w.pattern_below (rw e at h)

    pub nonzero_there : Nonzero q d
    nonzero_there =
        let same : suc (q.s - 1) ≡ q.s = omega (arith, left.0) in
        record {
          s_from = left.0;
          s_to = omega (arith, s_to, w.length_to);
          radius_to = w.radius_to;
          passed = h;
          shape_below = rw same w.shape_below;
        }

    pub nonzero_next : MakesPoint (taken q d).left behind × (written_from q (suc behind) ≡ (taken q d).c ∷ written_from (taken q d).left behind)
    nonzero_next =
        let same : suc (q.s - 1) ≡ q.s = omega (arith, left.0) in
        let first = first_read (q.s - 1) q.k q.shape nonzero_there.shape_below in (
          record {
            length_to = omega (arith, w.length_to);
            radius_to = omega (arith, w.radius_to);
            pattern_below = rw e left.1;
            shape_below = first.left_below;
          },
          rw e (rw same at (write_nonzero (q.s - 1) behind q.k q.pattern q.shape q.sign (rw (same, ← e) h))),
        )
