-- The shapes that come after that of a point: with those before it and itself they are all shapes of its number of
-- magnitudes and its sum.
use Prim.Native.Nat.{ℕ, suc, ◌+◌, ◌-◌}
use mathlib.Core.Path.{◌≡◌}
use mathlib.Core.List.{List, [], ◌∷◌}
use mathlib.Core.Bool.{true}
use native.Mathlib.Omega.{arith}
use lib.IntN.{ℤ, nat_abs}
use lib.ListN.{length}
use Rattle.counts.specs.Counts.{S}
use Rattle.counts.proofs.Pascal.{S_addition}
use Rattle.enumeration.specs.Point.{sum_of, radius_of, is_nonzero, nonzeros_in, shape_in}
use Rattle.enumeration.specs.Product.{shape_offset, shape_index}
use Rattle.enumeration.proofs.Shapes.{S_start, S_grows, Positive}
use Rattle.enumeration.proofs.Spread.{shape_positive, shape_sum, support_many}
use Rattle.weighing.specs.Weights.{shapes_after}

all_shapes : (is : List ℕ) → Positive is → shape_index is + suc (shapes_after is) ≡ S (length is) (sum_of is)
unfolding shape_index shape_offset shapes_after
all_shapes [] p = omega (arith, S_start)
all_shapes (i ∷ is) p =
    let s = length is in
    let j = sum_of is in
    let rest : i + j - i + 1 ≡ suc j = omega arith in
    rw rest
    (omega (arith, all_shapes is p.1, S_addition s j, S_grows s (suc j) (i + j) (omega (arith, p.0))))

pub shape_and_after : (x : List ℤ) → shape_index (shape_in x) + suc (shapes_after (shape_in x)) ≡ S (nonzeros_in x) (radius_of x)
shape_and_after x = rw (support_many nat_abs x, shape_sum x) at (all_shapes (shape_in x) (shape_positive x))

-- a nonzero coordinate c in front of x
pub after_grows : (c : ℤ) (x : List ℤ) → is_nonzero c ≡ true
    → shapes_after (shape_in (c ∷ x)) ≡ S (suc (nonzeros_in x)) (radius_of x) + shapes_after (shape_in x)
unfolding shapes_after
after_grows c x h = rw (h, support_many nat_abs x, shape_sum x)
