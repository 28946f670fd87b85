-- The components of the point of an index, from the index's position in its range: below their counts, so that the
-- point can be written from them. Whether there is a point is told by the shape field of the position.
use Prim.Native.Nat.{ℕ, zero, suc, ◌-◌, ◌/◌, ◌%◌, ◌^◌, ◌≤◌, ◌<◌}
use mathlib.Core.Path.{◌≡◌, refl, sym, ap, ◌∙◌}
use mathlib.Core.Bool.{true}
use native.Mathlib.Omega.{arith}
use native.Mathlib.Nat.{mod-lt}
use lib.Dec.{ltb}
use borrow.Author.Tests.{lt-ltb}
use Rattle.counts.specs.Counts.{D, S, B, range_size}
use Rattle.counts.specs.Fields.{size_of, IsField}
use Rattle.counts.proofs.Fields.{is_field}
use Rattle.counts.proofs.Pascal.{D_zero}
use Rattle.enumeration.specs.Reading.{point_within, product_point, names_within, product_names}
use Rattle.enumeration.proofs.RangeOf.{Holds, range_holds}
use Rattle.enumeration.proofs.Product.{field_positive, pattern_in_lem, shape_in_lem}
use Rattle.enumeration.proofs.Shapes.{S_start}
use Rattle.ranges.specs.declared.inner.usable.Shell.{Shell}
use Rattle.product.specs.Components.{IsIndexOf, MakesPoint, written_from}
use Rattle.product.specs.declared.inner.range.Found.{Found}

module _ (shell : Shell) (n : ℕ) (found : Found) (p : IsIndexOf shell n found) where
  abbrev F : ℕ → ℕ → ℕ
  F = size_of shell.field

  field : IsField F
  field = is_field shell.field

  abbrev l : ℕ
  l = shell.length.0

  abbrev k : ℕ
  k = shell.radius.0

  abbrev s : ℕ
  s = found.s

  abbrev start : ℕ
  start = found.start

  in_range_lem : Holds F l k n s
  in_range_lem = rw (← p.range_s) at (range_holds F field l k n p.index_below)

  pub start_to : start ≤ n
  start_to = omega (arith, p.range_start_lem, in_range_lem.from_start)

  within_below : n - start < range_size F s l k
  within_below = omega (arith, start_to, p.range_start_lem, in_range_lem.to_end)

  pub s_to : s ≤ 16
  s_to = omega (arith, in_range_lem.to_most, shell.usable.length_to)

  -- what is asked for the shape count
  pub countable : (s ≡ 0 → ⊥) → (0 < s) × (s ≤ 16) × (0 < k) × (k ≤ 32)
  countable h = omega (arith, in_range_lem.to_most, s_to, shell.usable.radius_to)

  pub field_from : 0 < F s k
  field_from = field_positive F field s l k (n - start) within_below

  names_here : product_names F l k n ≡ names_within F s k (n - start)
  unfolding product_names
  names_here = rw (← p.range_s, ← p.range_start_lem)

  -- whether there is a point, with the field d and the shape count m that the code has found
  pub shape_tells : (d m : ℕ) → d ≡ F s k → m ≡ S s k → ltb ((n - start) / 2 ^ s % d) m ≡ product_names F l k n
  unfolding names_within B
  shape_tells d m e g = rw (e, g, names_here)

  -- without nonzero coordinates the radius is 0, and there is one shape, of no magnitudes
  one_shape : s ≡ 0 → (S s k ≡ 1) × (F s k ≡ 1)
  one_shape e = rw (e, none k refl) (S_start, field.one)
    where
      none : (j : ℕ) → k ≡ j → k ≡ 0
      none zero z = z
      none (suc j) z = absurd (omega (arith, in_range_lem.some (omega arith)))

  pub one_named : s ≡ 0 → true ≡ product_names F l k n
  one_named e =
      let shape = (n - start) / 2 ^ s % F s k in
      let below : shape < S s k = omega (arith, mod-lt ((n - start) / 2 ^ s) field_from, one_shape e) in
      sym (lt-ltb shape (S s k) below) ∙ shape_tells (F s k) (S s k) refl refl

  module _ (named : product_names F l k n ≡ true) where
    -- the components, with the field d that the code has found
    pub components_there : (d : ℕ) → d ≡ F s k
        → MakesPoint (record { s = s; k = k; pattern = (n - start) / 2 ^ s / d; shape = (n - start) / 2 ^ s % d; sign = n - start }) l
        × (product_point F l k n
        ≡ written_from (record { s = s; k = k; pattern = (n - start) / 2 ^ s / d; shape = (n - start) / 2 ^ s % d; sign = n - start }) l)
    unfolding product_point point_within B
    components_there d e =
        rw (e, ← p.range_s, ← p.range_start_lem) (
          record {
            length_to = shell.usable.length_to;
            radius_to = shell.usable.radius_to;
            pattern_below = pattern_in_lem F field s l k (n - start) within_below;
            shape_below = shape_in_lem F field s l k (n - start) within_below (sym names_here ∙ named);
          },
          refl,
        )

    -- at radius 0 there is one pattern
    pub no_components : s ≡ 0
        → MakesPoint (record { s = s; k = k; pattern = 0; shape = 0; sign = n - start }) l
        × (product_point F l k n ≡ written_from (record { s = s; k = k; pattern = 0; shape = 0; sign = n - start }) l)
    no_components e =
        let w = (n - start) / 2 ^ s in
        let there = components_there (F s k) refl in
        let one_pattern : D s l ≡ 1 = ap (λ (t : ℕ). D t l) e ∙ D_zero l in
        let pattern : w / F s k ≡ 0 = omega (arith, there.0.pattern_below) in
        let shape : w % F s k ≡ 0 = omega (arith, there.0.shape_below, one_shape e) in
        rw (pattern, shape) at there
