-- The point of an index: docs/RULES.md, "Point of an index": "take the first s whose range holds the index"; then
-- the pattern, the shape and the signs are read from the position in that range. Written by itself, and not as the
-- reverse of specs/Product.antt; that each undoes the other is proved. F is the shape field, as it is there.
use Rattle.std.specs.Prelude.{ℕ, zero, suc, ◌+◌, ◌-◌, ◌/◌, ◌%◌, ◌^◌, List, [], ◌∷◌, Bool, true, false, ◌&&◌, leb, ltb, eqb, ℤ, pos}
use Rattle.counts.specs.Counts.{D, S, B, most_nonzero, range_size, range_start}
use Rattle.enumeration.specs.Among.{first_among, left_among}
use Rattle.enumeration.specs.Point.{signed}

-- the range for s holds n: as many numbers as its size, from its start on
abbrev pub in_range : (ℕ → ℕ → ℕ) → ℕ → ℕ → ℕ → ℕ → Bool
in_range F l k n s = leb (range_start F s l k) n && ltb n (range_start F s l k + range_size F s l k)

-- the first of s, s-1, .. 1 whose range holds n; where none does it is 0, the range of radius 0
unfoldable pub range_from : (ℕ → ℕ → ℕ) → ℕ → ℕ → ℕ → ℕ → ℕ
range_from F l k n zero = 0
range_from F l k n (suc s) = elim (in_range F l k n (suc s)) [ true ↦ suc s | false ↦ range_from F l k n s ]

-- the first s, counted down from m, whose range holds it
unfoldable pub range_of : (ℕ → ℕ → ℕ) → ℕ → ℕ → ℕ → ℕ
range_of F l k n = range_from F l k n (most_nonzero l k)

-- The n-th pattern of s nonzero coordinates among l. The D(s,l-1) patterns that begin with a zero come first.
unfoldable pub pattern_of : ℕ → ℕ → ℕ → List Bool
pattern_of s zero n = []
pattern_of s (suc l) n = elim (ltb n (D s l)) [ true ↦ false ∷ pattern_of s l n | false ↦ true ∷ pattern_of (s - 1) l (n - D s l) ]

-- Of the n-th shape of s+1 magnitudes that sum to k: its first magnitude, and the number of the shape that is left.
-- S(s,k-i) shapes begin with i.
abbrev pub first_magnitude : ℕ → ℕ → ℕ → ℕ
first_magnitude s k n = first_among (S s) k n

abbrev pub shape_left : ℕ → ℕ → ℕ → ℕ
shape_left s k n = left_among (S s) k n

-- the n-th shape of s magnitudes that sum to k
unfoldable pub shape_of : ℕ → ℕ → ℕ → List ℕ
shape_of zero k n = []
shape_of (suc s) k n = first_magnitude s k n ∷ shape_of s (k - first_magnitude s k n) (shape_left s k n)

-- bit j of n
abbrev pub bit : ℕ → ℕ → ℕ
bit j n = n / 2 ^ j % 2

-- the signs of s nonzero coordinates in the low s bits of n, the first one highest
unfoldable pub signs_of : ℕ → ℕ → List Bool
signs_of zero n = []
signs_of (suc s) n = eqb (bit s n) 1 ∷ signs_of s n

abbrev pub sign_all : List Bool → List ℕ → List ℤ
sign_all [] is = []
sign_all (b ∷ bs) [] = []
sign_all (b ∷ bs) (i ∷ is) = signed b i ∷ sign_all bs is

-- the nonzero coordinates, spread over their places in the pattern
abbrev pub spread : List Bool → List ℤ → List ℤ
spread [] cs = []
spread (false ∷ p) cs = pos 0 ∷ spread p cs
spread (true ∷ p) [] = pos 0 ∷ spread p []
spread (true ∷ p) (c ∷ cs) = c ∷ spread p cs

-- a point by its parts
unfoldable pub point_from : (s l k pattern shape signs : ℕ) → List ℤ
point_from s l k pattern shape signs = spread (pattern_of s l pattern) (sign_all (signs_of s signs) (shape_of s k shape))

-- the parts of a position in the range for s, which counts signs first, then the shape field, then patterns
unfoldable pub point_within : (F : ℕ → ℕ → ℕ) (s l k within : ℕ) → List ℤ
point_within F s l k within = point_from s l k (within / B s / F s k) (within / B s % F s k) within

-- the position of n in its range
abbrev pub position_of : (ℕ → ℕ → ℕ) → ℕ → ℕ → ℕ → ℕ
position_of F l k n = n - range_start F (range_of F l k n) l k

unfoldable pub product_point : (ℕ → ℕ → ℕ) → ℕ → ℕ → ℕ → List ℤ
product_point F l k n = point_within F (range_of F l k n) l k (position_of F l k n)

-- "If the remainder, the shape field, is S(s,k) or more, the shape is empty, and the index names no point": whether a
-- position names one
unfoldable pub names_within : (F : ℕ → ℕ → ℕ) (s k within : ℕ) → Bool
names_within F s k within = ltb (within / B s % F s k) (S s k)

unfoldable pub product_names : (ℕ → ℕ → ℕ) → ℕ → ℕ → ℕ → Bool
product_names F l k n = names_within F (range_of F l k n) k (position_of F l k n)
