-- The index of a point by its weight, as the code sums it up: no sum on the way is larger than the index, which is
-- below the total and so below 2^32.
use Prim.Native.Nat.{ℕ, zero, suc, ◌+◌, ◌-◌, ◌*◌, ◌^◌, ◌≤◌, ◌<◌}
use mathlib.Core.Path.{◌≡◌, refl, sym, ◌∙◌}
use mathlib.Core.List.{List}
use native.Mathlib.Omega.{arith}
use native.Mathlib.Nat.{mul-le-mul_left, mul-one}
use lib.IntN.{ℤ}
use Rattle.counts.specs.Counts.{S, B}
use Rattle.counts.specs.Fields.{field_total, IsField}
use Rattle.counts.proofs.Pascal.{S_none}
use Rattle.enumeration.specs.Point.{OnShell, radius_of, nonzeros_in, shape_in}
use Rattle.enumeration.specs.Product.{shape_index, index_from, product_index}
use Rattle.enumeration.proofs.Parts.{shape_part, nonzeros_part}
use Rattle.enumeration.proofs.Laws.{zero_index}
use Rattle.enumeration.proofs.Product.{field_lawful, B_positive, index_below}
use Rattle.tables.specs.Usable.{IsUsable}
use Rattle.weighing.specs.declared.inner.Weight.{Weight}
use Rattle.weighing.specs.Weights.{shapes_after, weight_of, weighed, Weighable}
use Rattle.weighing.proofs.After.{shape_and_after}

shape_back : (x : List ℤ) → S (nonzeros_in x) (radius_of x) - 1 - shapes_after (shape_in x) ≡ shape_index (shape_in x)
shape_back x = omega (arith, shape_and_after x)

after_below : (l k : ℕ) (x : List ℤ) → OnShell l k x → shapes_after (shape_in x) < S (nonzeros_in x) k
after_below l k x on = rw (← on.of_radius) (omega (arith, shape_and_after x))

-- a block of 2^s counts no less than 1
no_less : (n b : ℕ) → 0 < b → n ≤ n * b
no_less n b h = rw mul-one at (mul-le-mul_left n h)

module _ (F : ℕ → ℕ → ℕ) (field : IsField F) (l k : ℕ) where
  block_within : (w : Weight) → w.pattern * F w.s k + (S w.s k - 1 - w.after) ≤ weighed F l k w
  unfolding index_from
  block_within w = omega (arith, no_less (w.pattern * F w.s k + (S w.s k - 1 - w.after)) (B w.s) (B_positive w.s))

  module _ (x : List ℤ) (on : OnShell l k x) where
    index_weighed : weighed F l k (weight_of x) ≡ product_index F x
    unfolding product_index
    index_weighed = rw (← on.of_length, ← on.of_radius, shape_back x)

    -- a point with no nonzero coordinate is that of radius 0, with index 0
    no_weight : nonzeros_in x ≡ 0 → 0 ≡ product_index F x
    no_weight e = go (radius_of x) refl
      where
        go : (r : ℕ) → radius_of x ≡ r → 0 ≡ product_index F x
        go zero z =
            let none : k ≡ 0 = sym on.of_radius ∙ z in
            sym (zero_index (field_lawful F field) l x (rw none at on))
        go (suc r) z =
            let part : shape_index (shape_in x) < S 0 (suc r) = rw (e, z) at (shape_part x) in
            absurd (omega (arith, S_none r))

    pub weighable : IsUsable l k (field_total F l k) → Weighable F l k (weight_of x) × (weighed F l k (weight_of x) ≡ product_index F x)
    unfolding index_from
    weighable u =
        let most_s = nonzeros_part x in
        let to_limit : weighed F l k (weight_of x) ≤ 2 ^ 32 = omega (arith, index_weighed, index_below F field l k x on, u.points_to) in (
          record {
            s_to_length = omega (arith, on.of_length);
            s_to_radius = omega (arith, on.of_radius);
            none = λ e. no_weight e ∙ sym index_weighed;
            sums =
                record {
                  after_below = after_below l k x on;
                  block_to = omega (arith, block_within (weight_of x));
                  index_to = to_limit;
                };
          },
          index_weighed,
        )
