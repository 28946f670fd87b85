-- The magnitude enumeration: docs/RULES.md, "The magnitude index"; the paper, equations 5 to 7. The points of a shell
-- are numbered by their first coordinate, whose values run 0, 1, -1, 2, -2 and so on; N(l-1,k-|i|) points begin with
-- the value i.
use Rattle.std.specs.Prelude.{ℕ, zero, suc, ◌+◌, ◌-◌, ◌*◌, ◌≤◌, ◌≡◌, List, [], ◌∷◌, true, false, leb, ltb, ℤ, pos, negsuc, nat_abs, length}
use Rattle.counts.specs.Counts.{N, sum_after}
use Rattle.enumeration.specs.Among.{first_among, left_among}
use Rattle.enumeration.specs.Point.{radius_of, signed}

-- O_M(i,l,k), where the points of length l and radius k begin whose first coordinate is i (eq. 6): "N(l,k) - N(l,k-i) -
-- N(l-1,k-i)" for i above 0, and "N(l,k) - N(l,k-|i|)" for all others
unfoldable pub offset : ℤ → ℕ → ℕ → ℕ
offset (pos zero) l k = N l k - N l (k - 0)
offset (pos (suc i)) l k = N l k - N l (k - suc i) - N (l - 1) (k - suc i)
offset (negsuc i) l k = N l k - N l (k - suc i)

-- the same by the sums of equation 5: N(l-1,k), and twice the sum of N(l-1,k-j) for j = 1 to i-1; a negative value
-- comes behind its magnitude
unfoldable pub offset_sum : ℤ → ℕ → ℕ → ℕ
offset_sum (pos zero) l k = 0
offset_sum (pos (suc i)) l k = N (l - 1) k + 2 * sum_after (λ j. N (l - 1) (k - j)) 0 i
offset_sum (negsuc i) l k = N (l - 1) k + 2 * sum_after (λ j. N (l - 1) (k - j)) 0 i + N (l - 1) (k - suc i)

-- where there is a coordinate, and its magnitude is not above the radius, they are one number
abbrev pub OffsetsAgree : Type 0
OffsetsAgree = (i : ℤ) (l k : ℕ) → nat_abs i ≤ k → offset i (suc l) k ≡ offset_sum i (suc l) k

-- The index: the offset of the first coordinate, and the index of the rest, which has length l-1 and radius k-|i| (eq.
-- 7). The length and the radius are those of the list itself.
unfoldable pub magnitude_index : List ℤ → ℕ
magnitude_index [] = 0
magnitude_index (i ∷ x) = offset i (length (i ∷ x)) (radius_of (i ∷ x)) + magnitude_index x

-- so many points of length l+1 begin with a magnitude above 0 that leaves j to the rest: N(l,j) with either sign
abbrev pub of_both_signs : ℕ → ℕ → ℕ
of_both_signs l j = 2 * N l j

-- the first coordinate of the n-th point of length l+1 and radius k among those that begin with no zero: of the points
-- that begin with the same magnitude those with the positive value come first
unfoldable pub first_nonzero : ℕ → ℕ → ℕ → ℤ
first_nonzero l k n =
    signed (leb (N l (k - first_among (of_both_signs l) k n)) (left_among (of_both_signs l) k n)) (first_among (of_both_signs l) k n)

-- the first coordinate of the n-th point of length l+1 and radius k: the N(l,k) points that begin with a zero come
-- first
unfoldable pub first_value : ℕ → ℕ → ℕ → ℤ
first_value l k n = elim (ltb n (N l k)) [ true ↦ pos 0 | false ↦ first_nonzero l k (n - N l k) ]

-- the n-th point of length l and radius k: behind its first coordinate i stands the point of length l-1 and radius
-- k-|i| whose index is n - O_M(i,l,k)
unfoldable pub magnitude_point : ℕ → ℕ → ℕ → List ℤ
magnitude_point zero k n = []
magnitude_point (suc l) k n =
    first_value l k n ∷ magnitude_point l (k - nat_abs (first_value l k n)) (n - offset (first_value l k n) (suc l) k)
