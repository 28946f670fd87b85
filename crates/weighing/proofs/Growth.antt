-- How the weight of what stands from a coordinate on comes from that of what stands after it, for a nonzero
-- coordinate; and that none of its numbers is large, within lengths to 16 and radii to 32.
use Prim.Native.Nat.{ℕ, zero, suc, ◌+◌, ◌*◌, ◌^◌, ◌≤◌}
use mathlib.Core.Path.{◌≡◌, refl, sym, ap, ◌∙◌}
use mathlib.Core.List.{List, [], ◌∷◌, ◌++◌, append_assoc, append-nil}
use mathlib.Core.Bool.{true}
use native.Mathlib.Omega.{arith}
use native.Mathlib.Nat.{zero-add, le_trans, le_of_lt}
use native.Mathlib.Numerals.{add-one}
use lib.IntN.{ℤ, pos, negsuc, nat_abs}
use lib.ListN.{length, length-append}
use Rattle.counts.specs.Counts.{D, S, B}
use Rattle.counts.proofs.Pascal.{D_zero, S_none, B_zero}
use Rattle.enumeration.specs.Point.{radius_of, is_nonzero, is_negative, pattern_in, nonzeros_in, shape_in, signs_in}
use Rattle.enumeration.specs.Product.{pattern_index, sign_bit, sign_index}
use Rattle.enumeration.proofs.Parts.{pattern_part, sign_part, nonzeros_part}
use Rattle.enumeration.proofs.Shapes.{S_start}
use Rattle.enumeration.proofs.Steps.{nonzeros_grow, pattern_grows, sign_grows}
use Rattle.ranges.proofs.Sizes.{D_small_enough, S_small_enough, B_small_enough}
use Rattle.weighing.specs.declared.inner.Weight.{Weight}
use Rattle.weighing.specs.Weights.{shapes_after, nothing, weight_of, extended, in_front, Room}
use Rattle.weighing.proofs.After.{shape_and_after, after_grows}

-- no nonzero coordinates sum to nothing
none_sums : (y : List ℤ) (k : ℕ) → radius_of y ≡ k → nonzeros_in y ≡ 0 → k ≡ 0
none_sums y zero e n = refl
none_sums y (suc k) e n = absurd (omega (arith, S_none k, rw (n, e) at (shape_and_after y)))

-- the numbers of a list of at most 16 coordinates that sum to at most 32
pub record Small (y : List ℤ) : Type 0 where
  pub s_to : nonzeros_in y ≤ 16
  pub k_to : radius_of y ≤ 32
  pub pattern_to : pattern_index (pattern_in y) ≤ 2 ^ 16
  pub after_to : shapes_after (shape_in y) ≤ 2 ^ 31
  pub sign_to : sign_index (signs_in y) ≤ 2 ^ 16

-- the shapes after one, where there may be no magnitude at all
after_small : (y : List ℤ) (k : ℕ) → radius_of y ≡ k → k ≤ 32 → shapes_after (shape_in y) ≤ 2 ^ 31
after_small y zero e h =
    let none : nonzeros_in y ≡ 0 = omega (arith, nonzeros_part y) in
    omega (arith, S_start, rw (none, e) at (shape_and_after y))
after_small y (suc k) e h = omega (arith, S_small_enough (nonzeros_in y) (suc k) (omega arith) h, rw e at (shape_and_after y))

pub small : (y : List ℤ) → length y ≤ 16 → radius_of y ≤ 32 → Small y
small y h q =
    let s : nonzeros_in y ≤ 16 = omega (arith, nonzeros_part y) in
    record {
      s_to = s;
      k_to = q;
      pattern_to = le_trans (le_of_lt (pattern_part y)) (D_small_enough (nonzeros_in y) (length y) h);
      after_to = after_small y (radius_of y) refl q;
      sign_to = le_trans (le_of_lt (sign_part y)) (B_small_enough (nonzeros_in y) s);
    }

-- weights are the same if each number is
pub same_weight : {s s' k k' pattern pattern' after after' sign sign' : ℕ} → s ≡ s' → k ≡ k' → pattern ≡ pattern' → after ≡ after' → sign ≡ sign'
    → ◌≡◌ {A = Weight} (record { s = s; k = k; pattern = pattern; after = after; sign = sign })
    (record { s = s'; k = k'; pattern = pattern'; after = after'; sign = sign' })
same_weight a b c d e = rw (a, b, c, d, e)

-- where no coordinate is nonzero there is no weight
none_weighs : (y : List ℤ) → nonzeros_in y ≡ 0 → weight_of y ≡ nothing
none_weighs y n =
    let k = none_sums y (radius_of y) refl n in
    let pattern : pattern_index (pattern_in y) ≡ 0 = omega (arith, D_zero (length y), rw n at (pattern_part y)) in
    let after : shapes_after (shape_in y) ≡ 0 = omega (arith, S_start, rw (n, k) at (shape_and_after y)) in
    let sign : sign_index (signs_in y) ≡ 0 = omega (arith, B_zero, rw n at (sign_part y)) in
    same_weight n k pattern after sign

-- a zero in front adds nothing
pub zero_weight : (y : List ℤ) → weight_of (pos 0 ∷ y) ≡ weight_of y
unfolding pattern_index
zero_weight y = same_weight refl (zero-add (radius_of y)) refl refl refl

-- a nonzero coordinate in front of y
pub grows : (z : ℤ) (y : List ℤ) → is_nonzero z ≡ true → length (z ∷ y) ≤ 16 → radius_of (z ∷ y) ≤ 32
    → Room (weight_of y) (nat_abs z) (is_negative z) (length y) × (extended (weight_of y) (nat_abs z) (is_negative z) (length y) ≡ weight_of (z ∷ y))
grows z y n l k =
    let all = small (z ∷ y) l k in
    let one = add-one (nonzeros_in y) in
    let s : nonzeros_in y + 1 ≡ nonzeros_in (z ∷ y) = one ∙ sym (nonzeros_grow z y n) in
    let pattern : D (nonzeros_in y + 1) (length y) + pattern_index (pattern_in y) ≡ pattern_index (pattern_in (z ∷ y)) =
    rw one (sym (pattern_grows z y n)) in
    let after : S (nonzeros_in y + 1) (radius_of y) + shapes_after (shape_in y) ≡ shapes_after (shape_in (z ∷ y)) = rw one (sym (after_grows z y n)) in
    let sign : sign_bit (is_negative z) * B (nonzeros_in y) + sign_index (signs_in y) ≡ sign_index (signs_in (z ∷ y)) = sym (sign_grows z y n) in (
      record {
        none_behind = none_weighs y;
        some_behind = λ s. omega (arith, nonzeros_part y, s);
        left_to = omega arith;
        s_to = omega arith;
        k_to = k;
        pattern_to = omega arith;
        after_to = omega arith;
        sign_to = omega arith;
      },
      same_weight s refl pattern after sign,
    )

-- any coordinate in front of y
pub grown : (c : ℤ) (y : List ℤ) → length (c ∷ y) ≤ 16 → radius_of (c ∷ y) ≤ 32 → in_front (weight_of y) c (length y) ≡ weight_of (c ∷ y)
grown (pos zero) y l k = sym (zero_weight y)
grown (pos (suc i)) y l k = (grows (pos (suc i)) y refl l k).1
grown (negsuc i) y l k = (grows (negsuc i) y refl l k).1

radius_behind : (front back : List ℤ) → radius_of back ≤ radius_of (front ++ back)
radius_behind [] back = omega arith
radius_behind (c ∷ front) back = omega (arith, radius_behind front back)

-- the last n coordinates of x have been gone through, and this is their weight; `front` is still to come
abbrev pub GoneThrough : List ℤ → List ℤ → ℕ → Weight → Type 0
GoneThrough x front n weight = (back : List ℤ) × (x ≡ front ++ back) × (length back ≡ n) × (weight ≡ weight_of back)

-- at first none have
pub none_gone : (x : List ℤ) {front : List ℤ} {n : ℕ} {weight : Weight} → front ≡ x → n ≡ 0 → weight ≡ nothing → GoneThrough x front n weight
none_gone x {front} e z w = ([], sym e ∙ sym (append-nil front), sym z, w ∙ sym (none_weighs [] refl))

-- at the end all have
pub all_gone : (x front : List ℤ) (n : ℕ) (weight : Weight) → length front ≡ 0 → GoneThrough x front n weight → weight ≡ weight_of x
all_gone x [] n weight e p = p.3 ∙ ap weight_of (sym p.1)
all_gone x (c ∷ front) n weight e p = absurd (omega arith)

-- c is the last that is still to come
module _ (x front rest : List ℤ) (c : ℤ) (n left : ℕ) (weight : Weight) (p : GoneThrough x front n weight) (e : front ≡ rest ++ c ∷ []) (same : left ≡ n)
    (short : length x ≤ 16) (near : radius_of x ≤ 32) where
  whole : x ≡ rest ++ (c ∷ p.0)
  whole = p.1 ∙ ap (λ (y : List ℤ). y ++ p.0) e ∙ append_assoc rest (c ∷ []) p.0

  length_to : length (c ∷ p.0) ≤ 16
  length_to = omega (arith, short, ap length whole, length-append rest (c ∷ p.0))

  radius_to : radius_of (c ∷ p.0) ≤ 32
  radius_to = omega (arith, near, ap radius_of whole, radius_behind rest (c ∷ p.0))

  left_is : left ≡ length p.0
  left_is = same ∙ sym p.2

  pub room : is_nonzero c ≡ true → Room weight (nat_abs c) (is_negative c) left
  room some = rw (p.3, left_is) (grows c p.0 some length_to radius_to).0

  pub one_more : {next : ℕ} {more : Weight} → next ≡ n + 1 → more ≡ in_front weight c left → GoneThrough x rest next more
  one_more f g = (c ∷ p.0, whole, omega (arith, f, p.2), g ∙ rw (p.3, left_is) (grown c p.0 length_to radius_to))
