-- The product index of a point: docs/RULES.md, "The product index", paragraph by paragraph; the paper, equations 14
-- to 27. The length, the radius and the number s of nonzero coordinates are those of the lists themselves, so that
-- "the rest is numbered with s-1 and l-1" is said of the rest of the list. F is the shape field: S for the product
-- index, and bits for the product-product index (docs/RULES.md, "The product-product index"; equations 28 to 30).
use Rattle.std.specs.Prelude.{ℕ, suc, ◌+◌, ◌-◌, ◌*◌, ◌^◌, List, [], ◌∷◌, Bool, true, false, ℤ, length}
use Rattle.counts.specs.Counts.{D, S, B, range_start}
use Rattle.enumeration.specs.Point.{sum_of, radius_of, nonzeros, nonzeros_in, pattern_in, shape_in, signs_in}

-- "Pattern index": "A nonzero coordinate adds D(s,l-1)" and "A zero adds nothing" (eq. 18). Here l-1 is the length
-- of the rest.
unfoldable pub pattern_index : List Bool → ℕ
pattern_index [] = 0
pattern_index (true ∷ p) = D (suc (nonzeros p)) (length p) + pattern_index p
pattern_index (false ∷ p) = pattern_index p

-- "A magnitude i adds S(s,k) - S(s,k-i+1)" (eq. 21).
unfoldable pub shape_offset : ℕ → ℕ → ℕ → ℕ
shape_offset s k i = S s k - S s (k - i + 1)

-- "Shape index": of the magnitudes each adds its offset, "and the rest is numbered with s-1 and k-i" (eq. 22).
unfoldable pub shape_index : List ℕ → ℕ
shape_index [] = 0
shape_index (i ∷ is) = shape_offset (suc (length is)) (i + sum_of is) i + shape_index is

abbrev pub sign_bit : Bool → ℕ
sign_bit true = 1
sign_bit false = 0

-- "Sign index": one bit for each nonzero coordinate, and "The first nonzero coordinate has the highest bit" (eq. 24).
unfoldable pub sign_index : List Bool → ℕ
sign_index [] = 0
sign_index (b ∷ bs) = sign_bit b * 2 ^ length bs + sign_index bs

-- Index = O(s) + (pattern x S + shape) x 2^s + sign (eq. 27), and the same with a field of bits for S (eq. 30).
unfoldable pub index_from : (F : ℕ → ℕ → ℕ) (s l k pattern shape sign : ℕ) → ℕ
index_from F s l k pattern shape sign = range_start F s l k + (pattern * F s k + shape) * B s + sign

unfoldable pub product_index : (ℕ → ℕ → ℕ) → List ℤ → ℕ
product_index F x =
    index_from F (nonzeros_in x) (length x) (radius_of x) (pattern_index (pattern_in x)) (shape_index (shape_in x)) (sign_index (signs_in x))
