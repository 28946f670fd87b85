-- The counts of points: docs/RULES.md, "Points and counts" and "The product index"; the paper, equations 10 and 14
-- to 26. l is the length, k the radius, s the number of nonzero coordinates and m the smaller of l and k. Every
-- count is defined for all whole numbers, beyond lengths 1 to 16 and radii 0 to 32 too.
use Rattle.std.specs.Prelude.{ℕ, zero, suc, ◌+◌, ◌-◌, ◌*◌, ◌^◌, min}

-- N(l,k), the points of length l and radius k (eq. 10)
unfoldable pub N : ℕ → ℕ → ℕ
N l zero = 1
N zero (suc k) = 0
N (suc l) (suc k) = N (suc l) k + N l (suc k) + N l k

-- binomial(n,r), by binomial addition (eq. 17)
unfoldable pub binomial : ℕ → ℕ → ℕ
binomial n zero = 1
binomial zero (suc r) = 0
binomial (suc n) (suc r) = binomial n (suc r) + binomial n r

-- the pattern count D(s,l) = binomial(l,s) (eq. 16)
unfoldable pub D : ℕ → ℕ → ℕ
D s l = binomial l s

-- the shape count S(s,k) = binomial(k-1,s-1) (eq. 19): in how many ways s positive whole numbers sum to k. The
-- print has no S at 0; no numbers at all sum to 0, in one way, and to nothing else.
unfoldable pub S : ℕ → ℕ → ℕ
S zero zero = 1
S zero (suc k) = 0
S (suc s) zero = 0
S (suc s) (suc k) = binomial k s

-- the sign count (eq. 23)
unfoldable pub B : ℕ → ℕ
B s = 2 ^ s

-- the largest number m of nonzero coordinates
abbrev pub most_nonzero : ℕ → ℕ → ℕ
most_nonzero l k = min l k

-- f(s+1) + f(s+2) + .. + f(s+n), the last term first
unfoldable pub sum_after : (ℕ → ℕ) → ℕ → ℕ → ℕ
sum_after f s zero = 0
sum_after f s (suc n) = f (suc (s + n)) + sum_after f s n

-- A range holds the points with s nonzero coordinates. Where each of its shapes has one of F(s,k) numbers it has D
-- x F x 2^s, and it starts at the sum of the sizes for s+1 to m (eq. 26, and eq. 29, where every term is by the summed
-- number i). Which F there are is in specs/Fields.antt.
unfoldable pub range_size : (ℕ → ℕ → ℕ) → ℕ → ℕ → ℕ → ℕ
range_size F s l k = D s l * F s k * B s

unfoldable pub range_start : (ℕ → ℕ → ℕ) → ℕ → ℕ → ℕ → ℕ
range_start F s l k = sum_after (λ i. range_size F i l k) s (most_nonzero l k - s)

-- R = D x S x 2^s (eq. 15)
abbrev pub R : ℕ → ℕ → ℕ → ℕ
R s l k = range_size S s l k

-- O(s) (eq. 26)
abbrev pub O : ℕ → ℕ → ℕ → ℕ
O s l k = range_start S s l k
