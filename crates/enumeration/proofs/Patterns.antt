-- Patterns and their indices, for all lengths and numbers of nonzero coordinates:
--     third_pattern                     a pattern of a worked case
--     pattern_zero, pattern_nonzero     how the n-th pattern begins
--     pattern_left, pattern_at_least    what is left where it begins with a nonzero; no more nonzero coordinates
--                                       than the length
--     pattern_read                      the n-th pattern has length l, s nonzero coordinates and index n
--     pattern_below, pattern_back       a pattern's index is below D(s,l), and that pattern is read back from it
use Prim.Native.Nat.{ℕ, zero, suc, ◌+◌, ◌-◌, ◌≤◌, ◌<◌}
use mathlib.Core.Path.{◌≡◌, refl, ap, ◌∙◌}
use mathlib.Core.List.{List, [], ◌∷◌}
use mathlib.Core.Bool.{Bool, true, false}
use native.Mathlib.Omega.{arith}
use native.Mathlib.Decide.{dec_lt}
use lib.ListN.{length}
use borrow.Author.Tests.{lt-ltb, le-ltb}
use Rattle.counts.specs.Counts.{binomial, D}
use Rattle.counts.proofs.Pascal.{D_zero, D_addition, D_small}
use Rattle.enumeration.specs.Point.{nonzeros}
use Rattle.enumeration.specs.Product.{pattern_index}
use Rattle.enumeration.specs.Reading.{pattern_of}

-- the last of the three patterns of length 3 with two nonzero coordinates
third_pattern : pattern_index (true ∷ true ∷ false ∷ []) ≡ 2
unfolding pattern_index D binomial
third_pattern = refl

pub pattern_zero : (s l n : ℕ) → n < D s l → pattern_of s (suc l) n ≡ false ∷ pattern_of s l n
unfolding pattern_of
pattern_zero s l n h = rw (lt-ltb n (D s l) h, pattern_of)

pub pattern_nonzero : (s l n : ℕ) → D s l ≤ n → pattern_of s (suc l) n ≡ true ∷ pattern_of (s - 1) l (n - D s l)
unfolding pattern_of
pattern_nonzero s l n h = rw (le-ltb n (D s l) h, pattern_of)

-- D(s,l-1) of the patterns begin with a zero: where the n-th does not, s is above 0 and what is left is one of
-- D(s-1,l-1)
pub pattern_left : (s l n : ℕ) → n < D s (suc l) → D s l ≤ n → (0 < s) × (n - D s l < D (s - 1) l)
pattern_left zero l n h p = absurd (omega (arith, D_zero l, D_zero (suc l)))
pattern_left (suc s) l n h p =
    let less : suc s - 1 ≡ s = omega arith in
    (omega arith, rw less (omega (arith, D_addition s l)))

-- there is no pattern of more nonzero coordinates than its length
pub pattern_at_least : (s l n : ℕ) → n < D s l → s ≤ l
pattern_at_least s l n h = go (dec_lt l s)
  where
    go : Dec (l < s) → s ≤ l
    go (yes t) = absurd (omega (arith, D_small s l t))
    go (no t) = omega arith

-- the n-th of the patterns with s nonzero coordinates among l
pub record IsPattern (s l n : ℕ) (p : List Bool) : Type 0 where
  pub of_length : length p ≡ l
  pub of_nonzeros : nonzeros p ≡ s
  pub of_index : pattern_index p ≡ n

no_more : (s n : ℕ) → n < D s 0 → IsPattern s 0 n []
unfolding pattern_index
no_more zero n h = record { of_length = refl; of_nonzeros = refl; of_index = omega (arith, D_zero 0) }
no_more (suc s) n h = absurd (omega (arith, D_small (suc s) 0 (omega arith)))

with_zero : (s l n : ℕ) (p : List Bool) → IsPattern s l n p → IsPattern s (suc l) n (false ∷ p)
unfolding pattern_index
with_zero s l n p r = record { of_length = ap suc r.of_length; of_nonzeros = r.of_nonzeros; of_index = r.of_index }

with_nonzero : (s l n : ℕ) (p : List Bool) → 0 < s → D s l ≤ n → IsPattern (s - 1) l (n - D s l) p → IsPattern s (suc l) n (true ∷ p)
unfolding pattern_index
with_nonzero s l n p q h r =
    let many : suc (nonzeros p) ≡ s = omega (arith, r.of_nonzeros) in
    record {
      of_length = ap suc r.of_length;
      of_nonzeros = many;
      of_index = rw (many, r.of_length, r.of_index) (omega arith);
    }

pub pattern_read : (s l n : ℕ) → n < D s l → IsPattern s l n (pattern_of s l n)
unfolding pattern_of
pattern_read s zero n h = no_more s n h
pattern_read s (suc l) n h = go (dec_lt n (D s l)) (pattern_read s l n) (pattern_read (s - 1) l (n - D s l))
  where
    go : Dec (n < D s l) → (n < D s l → IsPattern s l n (pattern_of s l n))
        → (n - D s l < D (s - 1) l → IsPattern (s - 1) l (n - D s l) (pattern_of (s - 1) l (n - D s l)))
        → IsPattern s (suc l) n (pattern_of s (suc l) n)
    go (yes t) a b = rw (pattern_zero s l n t) (with_zero s l n (pattern_of s l n) (a t))
    go (no t) a b =
        let past : D s l ≤ n = omega arith in
        let left = pattern_left s l n h past in
        rw (pattern_nonzero s l n past) (with_nonzero s l n (pattern_of (s - 1) l (n - D s l)) left.0 past (b left.1))

-- there are no fewer patterns of a greater length
D_grows : (s l : ℕ) → D s l ≤ D s (suc l)
D_grows zero l = omega (arith, D_zero l, D_zero (suc l))
D_grows (suc s) l = omega (arith, D_addition s l)

pub pattern_below : (p : List Bool) → pattern_index p < D (nonzeros p) (length p)
unfolding pattern_index
pattern_below [] = omega (arith, D_zero 0)
pattern_below (true ∷ p) = omega (arith, pattern_below p, D_addition (nonzeros p) (length p))
pattern_below (false ∷ p) = omega (arith, pattern_below p, D_grows (nonzeros p) (length p))

pub pattern_back : (p : List Bool) → pattern_of (nonzeros p) (length p) (pattern_index p) ≡ p
unfolding pattern_index pattern_of
pattern_back [] = refl
pattern_back (false ∷ p) =
    pattern_zero (nonzeros p) (length p) (pattern_index p) (pattern_below p) ∙ ap (λ (q : List Bool). false ∷ q) (pattern_back p)
pattern_back (true ∷ p) =
    let s = nonzeros p in
    let d = D (suc s) (length p) in
    let n = pattern_index p in
    let less : suc s - 1 ≡ s = omega arith in
    let left : d + n - d ≡ n = omega arith in
    pattern_nonzero (suc s) (length p) (d + n) (omega arith)
    ∙ rw (less, left) (ap (λ (q : List Bool). true ∷ q) (pattern_back p))
