-- The sign theorem, for every shape field, length and radius: an index that names a point, with some of its low s bits
-- changed, s being the number of nonzero coordinates of its point, is below the total and names a point too: the first
-- with exactly the coordinates of those bits negated. It holds since a range starts at a multiple of 2^s: the low s
-- bits of an index are those of its position in the range.
use Prim.Native.Nat.{ℕ, zero, suc, ◌+◌, ◌-◌, ◌*◌, ◌/◌, ◌%◌, ◌^◌, ◌≤◌, ◌<◌}
use mathlib.Core.Path.{◌≡◌, refl, sym, ap, ap₂, ◌∙◌}
use mathlib.Core.List.{List, [], ◌∷◌}
use mathlib.Core.Bool.{Bool, true, false, cond}
use native.Mathlib.Omega.{arith}
use native.Mathlib.Nat.{pow-succ', add-mul, mod-lt, mul-add-div_right, div-mul_cancel, div-lt_iff_lt-mul, le-div_iff_mul-le, dvd_trans, dvd-mul_left}
use lib.Dec.{eqb, lit<}
use lib.IntN.{pos, neg_ℤ, neg_ℤ-neg_ℤ}
use lib.ListN.{length}
use lib.Pow.{pow_pos}
use Rattle.counts.specs.Counts.{D, B, range_size, range_start}
use Rattle.counts.specs.Fields.{field_total, IsField}
use Rattle.counts.proofs.Ranges.{range_multiple}
use Rattle.enumeration.specs.Point.{signed, nonzeros, nonzeros_in}
use Rattle.enumeration.specs.Reading.{bit, sign_all, spread, pattern_of, shape_of, signs_of, range_of, point_from, point_within, product_point, names_within, product_names}
use Rattle.enumeration.specs.Signs.{flipped}
use Rattle.enumeration.proofs.Patterns.{pattern_read}
use Rattle.enumeration.proofs.Shapes.{Positive, shape_read}
use Rattle.enumeration.proofs.SignBits.{signs_length, bit_below}
use Rattle.enumeration.proofs.Spread.{made}
use Rattle.enumeration.proofs.RangeOf.{Holds, range_holds, range_found, holds_below}
use Rattle.enumeration.proofs.Product.{pattern_in_lem, shape_in_lem, position_in, point_parts}

-- the worked case (1,0,-1) with bit 1 of its index changed
turned : flipped 5 7 (pos 1 ∷ pos 0 ∷ neg_ℤ (pos 1) ∷ []) ≡ neg_ℤ (pos 1) ∷ pos 0 ∷ neg_ℤ (pos 1) ∷ []
turned = refl

-- a zero stays what it is
zero_stays : (b : Bool) → cond b (pos 0) (neg_ℤ (pos 0)) ≡ pos 0
zero_stays true = refl
zero_stays false = refl

-- one coordinate: by its bit in the two numbers
one_flipped : (b b' i : ℕ) → b < 2 → b' < 2 → cond (eqb b b') (signed (eqb b 1) i) (neg_ℤ (signed (eqb b 1) i)) ≡ signed (eqb b' 1) i
one_flipped zero zero i h h' = refl
one_flipped zero (suc zero) i h h' = cc (neg_ℤ-neg_ℤ (pos i))
one_flipped (suc zero) zero i h h' = cc (neg_ℤ-neg_ℤ (pos i))
one_flipped (suc zero) (suc zero) i h h' = refl
one_flipped (suc (suc b)) b' i h h' = absurd (omega arith)
one_flipped zero (suc (suc b')) i h h' = absurd (omega arith)
one_flipped (suc zero) (suc (suc b')) i h h' = absurd (omega arith)

-- n and n' have below s the bits of m and m'
abbrev SameBits : (s n m : ℕ) → Type 0
SameBits s n m = (j : ℕ) → j < s → bit j n ≡ bit j m

module _ (n n' m m' : ℕ) where
  flip_spread : (p : List Bool) (s : ℕ) (is : List ℕ) → nonzeros p ≡ s → length is ≡ s → Positive is → SameBits s n m → SameBits s n' m'
      → flipped n n' (spread p (sign_all (signs_of s m) is)) ≡ spread p (sign_all (signs_of s m') is)
  unfolding signs_of
  flip_spread [] s is e f q same same' = refl
  flip_spread (false ∷ p) s is e f q same same' =
      let j = nonzeros_in (spread p (sign_all (signs_of s m) is)) in
      ap₂ ◌∷◌ (zero_stays (eqb (bit j n) (bit j n'))) (flip_spread p s is e f q same same')
  flip_spread (true ∷ p) zero is e f q same same' = absurd (omega arith)
  flip_spread (true ∷ p) (suc s) [] e f q same same' = absurd (omega arith)
  flip_spread (true ∷ p) (suc s) (i ∷ is) e f q same same' =
      let many : nonzeros p ≡ s = omega arith in
      let long : length is ≡ s = omega arith in
      let rest = spread p (sign_all (signs_of s m) is) in
      let behind : nonzeros_in rest ≡ s =
      ap nonzeros (made p (signs_of s m) is (signs_length s m ∙ sym many) (long ∙ sym many) q.1).same_pattern ∙ many in
      let two : (x : ℕ) → x % 2 < 2 = λ x. mod-lt x (lit< tt) in
      ap₂ ◌∷◌
      (rw (behind, same s (omega arith), same' s (omega arith)) (one_flipped (bit s m) (bit s m') i (two (m / 2 ^ s)) (two (m' / 2 ^ s))))
      (flip_spread p s is many long q.1 (λ j h. same j (omega arith)) (λ j h. same' j (omega arith)))

module _ (F : ℕ → ℕ → ℕ) (field : IsField F) where
  -- the start and the size of a range count blocks of 2^s
  module _ (l k s : ℕ) where
    pub start_whole : range_start F s l k / 2 ^ s * 2 ^ s ≡ range_start F s l k
    start_whole =
        div-mul_cancel (2 ^ s) (dvd_trans (2 ^ s) (rw (pow-succ' 2 s) (dvd-mul_left (2 ^ s) 2)) (range_multiple F l k s))

    -- so the position in the range has the low bits of the index, and counts blocks from the range's start
    position_bits : (n : ℕ) → range_start F s l k ≤ n → SameBits s n (n - range_start F s l k)
    position_bits n h j q =
        let c = range_start F s l k / 2 ^ s in
        let whole : n ≡ c * 2 ^ s + (n - range_start F s l k) = omega (arith, start_whole) in
        ap (bit j) whole ∙ bit_below j s c (n - range_start F s l k) q

    position_block : (n : ℕ) → range_start F s l k ≤ n → n / 2 ^ s ≡ range_start F s l k / 2 ^ s + (n - range_start F s l k) / 2 ^ s
    position_block n h =
        let c = range_start F s l k / 2 ^ s in
        let whole : n ≡ c * 2 ^ s + (n - range_start F s l k) = omega (arith, start_whole) in
        ap (λ (x : ℕ). x / 2 ^ s) whole ∙ mul-add-div_right (pow_pos s) c (n - range_start F s l k)

    -- a number in the same block of 2^s is in the same range
    same_range : (n n' : ℕ) → Holds F l k n s → n / 2 ^ s ≡ n' / 2 ^ s → Holds F l k n' s
    unfolding range_size B
    same_range n n' h e =
        let c = range_start F s l k / 2 ^ s in
        let d = D s l * F s k in
        let low : c ≤ n' / 2 ^ s = rw (← e) ((le-div_iff_mul-le (pow_pos s)).1 (rw start_whole h.from_start)) in
        let ends : (c + d) * 2 ^ s ≡ range_start F s l k + d * 2 ^ s = rw (add-mul c d (2 ^ s), start_whole) in
        let high : n' / 2 ^ s < c + d = rw (← e) ((div-lt_iff_lt-mul (pow_pos s)).1 (rw ends h.to_end)) in
        record {
          some = h.some;
          to_most = h.to_most;
          from_start = rw start_whole at ((le-div_iff_mul-le (pow_pos s)).0 low);
          to_end = rw ends at ((div-lt_iff_lt-mul (pow_pos s)).0 high);
        }

  -- in one range, at positions in the same block: the other names a point too, and the point is flipped
  module _ (s l k w w' : ℕ) (same_block : w / 2 ^ s ≡ w' / 2 ^ s) (named : names_within F s k w ≡ true) where
    names_in_lem : names_within F s k w' ≡ true
    unfolding names_within B
    names_in_lem = rw (← same_block) named

    flip_in : (n n' : ℕ) → w < range_size F s l k → SameBits s n w → SameBits s n' w'
        → point_within F s l k w' ≡ flipped n n' (point_within F s l k w)
    unfolding point_within point_from B
    flip_in n n' h same same' =
        let shape = w / 2 ^ s % F s k in
        let pattern = w / 2 ^ s / F s k in
        let p = pattern_read s l pattern (pattern_in_lem F field s l k w h) in
        let i = shape_read s k shape (shape_in_lem F field s l k w h named) in
        rw (← same_block)
        (sym (flip_spread n n' w w' (pattern_of s l pattern) s (shape_of s k shape) p.of_nonzeros i.of_length i.positive same same'))

  pub sign_theorem : (l k n n' : ℕ) → n < field_total F l k → product_names F l k n ≡ true
      → n / 2 ^ nonzeros_in (product_point F l k n) ≡ n' / 2 ^ nonzeros_in (product_point F l k n)
      → (n' < field_total F l k) × (product_names F l k n' ≡ true) × (product_point F l k n' ≡ flipped n n' (product_point F l k n))
  unfolding product_point product_names
  sign_theorem l k n n' h names e =
      let s = range_of F l k n in
      let here = range_holds F field l k n h in
      let block : n / 2 ^ s ≡ n' / 2 ^ s = rw (point_parts F field l k n h names).of_nonzeros at e in
      let there = same_range l k s n n' here block in
      let found : range_of F l k n' ≡ s = range_found F l k n' s there in
      let w = n - range_start F s l k in
      let w' = n' - range_start F s l k in
      let same : w / 2 ^ s ≡ w' / 2 ^ s =
      omega (arith, position_block l k s n here.from_start, position_block l k s n' there.from_start, block) in (
        holds_below F field l k n' s there,
        rw found (names_in_lem s l k w w' same names),
        rw found
            (flip_in s l k w w' same names n n' (position_in F field l k n h)
            (position_bits l k s n here.from_start)
            (position_bits l k s n' there.from_start)),
      )
