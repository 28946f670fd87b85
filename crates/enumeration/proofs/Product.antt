-- The product enumeration is lawful whatever the shape field: it numbers the points of every shell, for all lengths and
-- radii. Its laws hang on one number, the position in a range, which signs, shapes and patterns make up as digits.
use Prim.Native.Nat.{ℕ, zero, suc, ◌+◌, ◌-◌, ◌*◌, ◌/◌, ◌%◌, ◌^◌, ◌≤◌, ◌<◌}
use mathlib.Core.Path.{◌≡◌, refl, ap, ◌∙◌}
use mathlib.Core.List.{List}
use mathlib.Core.Bool.{true}
use native.Mathlib.Omega.{arith}
use native.Mathlib.Nat.{lt_of_lt_of_le, mul-zero, mod-lt, div-add-mod', div-lt_iff_lt-mul}
use lib.Arith.{digits_lt, digits_div, digits_mod}
use lib.Dec.{ltb}
use lib.IntN.{ℤ}
use lib.ListN.{length}
use lib.Pow.{pow_pos}
use borrow.Author.Tests.{ltb-true, lt-ltb}
use Rattle.counts.specs.Counts.{binomial, D, S, B, most_nonzero, sum_after, range_size, range_start}
use Rattle.counts.specs.Fields.{field_total, IsField}
use Rattle.counts.proofs.Fields.{total_at_0}
use Rattle.counts.proofs.Pascal.{S_none}
use Rattle.enumeration.specs.Point.{OnShell, radius_of, pattern_in, nonzeros_in, shape_in, signs_in}
use Rattle.enumeration.specs.Enumeration.{Lawful}
use Rattle.enumeration.specs.Enumerations.{by_field}
use Rattle.enumeration.specs.Product.{pattern_index, shape_index, sign_index, index_from, product_index}
use Rattle.enumeration.specs.Reading.{range_of, point_from, point_within, position_of, product_point, names_within, product_names}
use Rattle.enumeration.proofs.RangeOf.{Holds, range_holds, range_found, holds_below}
use Rattle.enumeration.proofs.Parts.{pattern_part, shape_part, sign_part, nonzeros_part, parts_back, IsOf, from_parts}

-- the worked case (1,0,-1) has pattern 1, shape 0 and signs 1, and index 5
weighs_5 : index_from S 2 3 2 1 0 1 ≡ 5
unfolding index_from binomial D S B sum_after range_size range_start
weighs_5 = refl

pub B_positive : (s : ℕ) → 0 < B s
unfolding B
B_positive s = pow_pos s

-- where something is below S(s,k) there are coordinates that sum to k
shape_some : (s k shape : ℕ) → shape < S s k → 0 < k → 0 < s
shape_some zero zero shape h p = p
shape_some zero (suc k) shape h p = absurd (omega (arith, S_none k))
shape_some (suc s) k shape h p = omega arith

module _ (F : ℕ → ℕ → ℕ) (field : IsField F) where
  -- a pattern, a number in the shape field and signs make up a position in the range for s, and an index in it
  module _ (s l k pattern shape sign : ℕ) (some : 0 < k → 0 < s) (m : s ≤ most_nonzero l k) (p : pattern < D s l) (h : shape < F s k) (g : sign < B s) where
    position_below : (pattern * F s k + shape) * B s + sign < range_size F s l k
    unfolding range_size
    position_below = digits_lt (digits_lt p h) g

    weigh_holds : Holds F l k (index_from F s l k pattern shape sign) s
    unfolding index_from
    weigh_holds = record { some = some; to_most = m; from_start = omega arith; to_end = omega (arith, position_below) }

    weigh_range : range_of F l k (index_from F s l k pattern shape sign) ≡ s
    weigh_range = range_found F l k (index_from F s l k pattern shape sign) s weigh_holds

    weigh_position : index_from F s l k pattern shape sign - range_start F s l k ≡ (pattern * F s k + shape) * B s + sign
    unfolding index_from
    weigh_position = omega arith

    weigh_point : product_point F l k (index_from F s l k pattern shape sign) ≡ point_from s l k pattern shape ((pattern * F s k + shape) * B s + sign)
    unfolding product_point point_within
    weigh_point = rw (weigh_range, weigh_position, digits_div (pattern * F s k + shape) g, digits_div pattern h, digits_mod pattern h)

    -- the index is below the total, and names a point exactly where the field is below S
    pub weigh_below : index_from F s l k pattern shape sign < field_total F l k
    weigh_below = holds_below F field l k (index_from F s l k pattern shape sign) s weigh_holds

    pub weigh_names : product_names F l k (index_from F s l k pattern shape sign) ≡ ltb shape (S s k)
    unfolding product_names names_within
    weigh_names = rw (weigh_range, weigh_position, digits_div (pattern * F s k + shape) g, digits_mod pattern h)

  -- the parts of a point are below their counts
  module _ (x : List ℤ) where
    shape_in_field : shape_index (shape_in x) < F (nonzeros_in x) (radius_of x)
    shape_in_field = lt_of_lt_of_le (shape_part x) (field.room (nonzeros_in x) (radius_of x))

    some_nonzero : 0 < radius_of x → 0 < nonzeros_in x
    some_nonzero = shape_some (nonzeros_in x) (radius_of x) (shape_index (shape_in x)) (shape_part x)

    own_below : product_index F x < field_total F (length x) (radius_of x)
    unfolding product_index
    own_below =
        weigh_below (nonzeros_in x) (length x) (radius_of x) (pattern_index (pattern_in x)) (shape_index (shape_in x)) (sign_index (signs_in x))
        some_nonzero
        (nonzeros_part x)
        (pattern_part x)
        shape_in_field
        (sign_part x)

    own_named : product_names F (length x) (radius_of x) (product_index F x) ≡ true
    unfolding product_index
    own_named =
        weigh_names (nonzeros_in x) (length x) (radius_of x) (pattern_index (pattern_in x)) (shape_index (shape_in x)) (sign_index (signs_in x))
        some_nonzero
        (nonzeros_part x)
        (pattern_part x)
        shape_in_field
        (sign_part x)
        ∙ lt-ltb (shape_index (shape_in x)) (S (nonzeros_in x) (radius_of x)) (shape_part x)

    back : product_point F (length x) (radius_of x) (product_index F x) ≡ x
    unfolding product_index
    back =
        let s = nonzeros_in x in
        let p = pattern_index (pattern_in x) in
        let h = shape_index (shape_in x) in
        weigh_point s (length x) (radius_of x) p h (sign_index (signs_in x)) some_nonzero (nonzeros_part x) (pattern_part x) shape_in_field (sign_part x)
        ∙ parts_back x (p * F s (radius_of x) + h)

  pub index_below : (l k : ℕ) (x : List ℤ) → OnShell l k x → product_index F x < field_total F l k
  index_below l k x on = rw (on.of_length, on.of_radius) at (own_below x)

  pub index_names_lem : (l k : ℕ) (x : List ℤ) → OnShell l k x → product_names F l k (product_index F x) ≡ true
  index_names_lem l k x on = rw (← on.of_length, ← on.of_radius) (own_named x)

  pub point_of_index : (l k : ℕ) (x : List ℤ) → OnShell l k x → product_point F l k (product_index F x) ≡ x
  point_of_index l k x on = rw (← on.of_length, ← on.of_radius) (back x)

  -- a position in the range for s has a pattern below D
  module _ (s l k within : ℕ) (h : within < range_size F s l k) where
    quotient_below : within / B s < D s l * F s k
    unfolding range_size
    quotient_below = (div-lt_iff_lt-mul (B_positive s)).1 h

    pub field_positive : 0 < F s k
    field_positive = go (F s k) refl
      where
        go : (c : ℕ) → F s k ≡ c → 0 < c
        go zero e = absurd (omega (arith, quotient_below, ap (λ (c : ℕ). D s l * c) e, mul-zero (D s l)))
        go (suc c) e = omega arith

    pub pattern_in_lem : within / B s / F s k < D s l
    pattern_in_lem = (div-lt_iff_lt-mul field_positive).1 quotient_below

    pub field_in_lem : within / B s % F s k < F s k
    field_in_lem = mod-lt (within / B s) field_positive

    position_back : (within / B s / F s k * F s k + within / B s % F s k) * B s + within % 2 ^ s ≡ within
    unfolding B
    position_back = rw (div-add-mod' (within / B s) (F s k)) (div-add-mod' within (2 ^ s))

    -- and where it names a point, a shape below S
    module _ (named : names_within F s k within ≡ true) where
      pub shape_in_lem : within / B s % F s k < S s k
      unfolding names_within
      shape_in_lem = ltb-true (within / B s % F s k) (S s k) named

      pub in_parts : IsOf s l k (within / B s / F s k) (within / B s % F s k) (within % 2 ^ s) (point_within F s l k within)
      unfolding point_within
      in_parts = from_parts s l k (within / B s / F s k) (within / B s % F s k) within pattern_in_lem shape_in_lem

  -- the point of an index below the total that names one, by the position in the index's range
  module _ (l k n : ℕ) (below : n < field_total F l k) where
    pub position_in : position_of F l k n < range_size F (range_of F l k n) l k
    position_in = let r = range_holds F field l k n below in omega (arith, r.from_start, r.to_end)

    pub position_whole : range_start F (range_of F l k n) l k + position_of F l k n ≡ n
    position_whole = omega (arith, (range_holds F field l k n below).from_start)

    module _ (names : product_names F l k n ≡ true) where
      pub position_names : names_within F (range_of F l k n) k (position_of F l k n) ≡ true
      unfolding product_names
      position_names = names

      pub point_parts : IsOf (range_of F l k n) l k (position_of F l k n / B (range_of F l k n) / F (range_of F l k n) k)
          (position_of F l k n / B (range_of F l k n) % F (range_of F l k n) k) (position_of F l k n % 2 ^ range_of F l k n) (product_point F l k n)
      unfolding product_point
      point_parts = in_parts (range_of F l k n) l k (position_of F l k n) position_in position_names

      pub point_on_shell : OnShell l k (product_point F l k n)
      point_on_shell = record { of_length = point_parts.of_length; of_radius = point_parts.of_radius }

      pub index_of_point : product_index F (product_point F l k n) ≡ n
      unfolding product_index index_from
      index_of_point =
          let y = point_parts in
          let same = position_back (range_of F l k n) l k (position_of F l k n) position_in in
          rw (y.of_nonzeros, y.of_length, y.of_radius, y.of_pattern_lem, y.of_shape, y.of_sign) (omega (arith, position_whole))

  -- so it is lawful
  pub field_lawful : Lawful (by_field F)
  field_lawful =
      record {
        index_below = index_below;
        index_names_lem = index_names_lem;
        point_of_index = point_of_index;
        point_on_shell = point_on_shell;
        index_of_point = index_of_point;
        one_at_0 = total_at_0 F;
      }

-- with the field S every index below the total names a point
pub exact_names : (field : IsField S) (l k n : ℕ) → n < field_total S l k → product_names S l k n ≡ true
unfolding product_names names_within
exact_names field l k n below =
    let s = range_of S l k n in
    lt-ltb (position_of S l k n / B s % S s k) (S s k) (field_in_lem S field s l k (position_of S l k n) (position_in S field l k n below))
