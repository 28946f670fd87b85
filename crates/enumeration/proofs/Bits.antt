-- Which bit of an index is the sign of which coordinate (docs/RULES.md, "The product index", "Sign index"), for every
-- shape field: bit j is that of the nonzero coordinate which has exactly j nonzero coordinates after it, and it is 1
-- where that one is negative.
use Prim.Native.Nat.{ℕ, suc, ◌+◌, ◌*◌, ◌/◌, ◌^◌}
use mathlib.Core.Path.{◌≡◌, sym, ap, ◌∙◌}
use mathlib.Core.List.{List, [], ◌∷◌, ◌++◌, map}
use mathlib.Core.Bool.{Bool, true, false, cond}
use native.Mathlib.Nat.{add-mul}
use lib.Dec.{eqb}
use lib.IntN.{ℤ}
use lib.ListN.{length}
use Rattle.counts.specs.Counts.{B, range_start}
use Rattle.counts.specs.Fields.{IsField}
use Rattle.enumeration.specs.Point.{is_nonzero, is_negative, nonzeros, nonzeros_in, pattern_in, shape_in, support, signs_in, radius_of}
use Rattle.enumeration.specs.Product.{pattern_index, shape_index, sign_index, index_from, product_index}
use Rattle.enumeration.specs.Reading.{bit, signs_of}
use Rattle.enumeration.proofs.SignBits.{signs_back}
use Rattle.enumeration.proofs.Spread.{support_many}
use Rattle.enumeration.proofs.Flips.{start_whole}

-- the low s bits of an index, read as signs, are those of its point
pub signs_low : (F : ℕ → ℕ → ℕ) → IsField F → (x : List ℤ) → signs_of (nonzeros_in x) (product_index F x) ≡ signs_in x
unfolding product_index index_from B
signs_low F field x =
    let s = nonzeros_in x in
    let c = range_start F s (length x) (radius_of x) / 2 ^ s in
    let w = pattern_index (pattern_in x) * F s (radius_of x) + shape_index (shape_in x) in
    let blocks : product_index F x ≡ (c + w) * 2 ^ s + sign_index (signs_in x) =
    ap (λ (o : ℕ). o + w * 2 ^ s + sign_index (signs_in x)) (sym (start_whole F field (length x) (radius_of x) s))
    ∙ ap (λ (o : ℕ). o + sign_index (signs_in x)) (sym (add-mul c w (2 ^ s))) in
    let many : length (signs_in x) ≡ s = support_many is_negative x in
    rw blocks (rw many at (signs_back (signs_in x) (c + w)))

sign_at : (n : ℕ) (before : List ℤ) (c : ℤ) (after : List ℤ) → is_nonzero c ≡ true → signs_of (nonzeros_in (before ++ c ∷ after)) n ≡ signs_in (before ++ c ∷ after)
    → eqb (bit (nonzeros_in after) n) 1 ≡ is_negative c
unfolding signs_of
sign_at n [] c after h e = let first : signs_of (suc (nonzeros_in after)) n ≡ is_negative c ∷ signs_in after = rw h at e in cc
sign_at n (b ∷ before) c after h e = go (is_nonzero b) e (sign_at n before c after h)
  where
    x : List ℤ
    x = before ++ c ∷ after

    go : (nonzero : Bool) → signs_of (nonzeros (nonzero ∷ pattern_in x)) n ≡ map is_negative (cond nonzero (b ∷ support x) (support x))
        → (signs_of (nonzeros_in x) n ≡ signs_in x → eqb (bit (nonzeros_in after) n) 1 ≡ is_negative c) → eqb (bit (nonzeros_in after) n) 1 ≡ is_negative c
    go true f rest = rest cc
    go false f rest = rest f

pub bit_of_coordinate : (F : ℕ → ℕ → ℕ) → IsField F → (before : List ℤ) (c : ℤ) (after : List ℤ) → is_nonzero c ≡ true
    → eqb (bit (nonzeros_in after) (product_index F (before ++ c ∷ after))) 1 ≡ is_negative c
bit_of_coordinate F field before c after h =
    sign_at (product_index F (before ++ c ∷ after)) before c after h (signs_low F field (before ++ c ∷ after))
