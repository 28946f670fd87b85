-- The range of an index, for every shape field, length and radius:
--     range_first, range_here, range_on, range_end     the search starts at m, stops at a range that holds n, passes
--                                                      one that ends before, and ends at 0
--     range_holds                the range of an index below the total holds it
--     range_found                an index has no other range than the one that holds it
--     holds_below                an index that a range holds is below the total
--     found_below, none_found    a range from 1 on is found for no index past the end, and for each other, but at
--                                radius 0
use Prim.Native.Nat.{ℕ, zero, suc, ◌+◌, ◌-◌, ◌≤◌, ◌<◌}
use mathlib.Core.Path.{◌≡◌, refl, ◌∙◌}
use native.Mathlib.Omega.{arith}
use native.Mathlib.Decide.{dec_lt}
use native.Mathlib.Nat.{le_refl}
use mathlib.Core.Bool.{Bool, true, false, and-eq-true_iff}
use lib.Dec.{leb, ltb}
use borrow.Author.Tests.{ltb-true, lt-ltb, le-ltb, le-leb}
use Rattle.counts.specs.Counts.{binomial, D, B, most_nonzero, range_size, range_start}
use Rattle.counts.specs.Fields.{field_total, IsField}
use Rattle.counts.proofs.Ranges.{range_next, range_last, starts_down, end_bound}
use Rattle.enumeration.specs.Reading.{in_range, range_from, range_of}

-- n is in the range for s; a radius above 0 has no range for 0
pub record Holds (F : ℕ → ℕ → ℕ) (l k n s : ℕ) : Type 0 where
  pub some : 0 < k → 0 < s
  pub to_most : s ≤ most_nonzero l k
  pub from_start : range_start F s l k ≤ n
  pub to_end : n < range_start F s l k + range_size F s l k

module _ (F : ℕ → ℕ → ℕ) (l k n : ℕ) where
  -- a range that starts at n or before and ends past it holds it; one that ends before does not
  holds : (s : ℕ) → range_start F s l k ≤ n → n < range_start F s l k + range_size F s l k → in_range F l k n s ≡ true
  holds s p h = rw (le-leb (range_start F s l k) n p) (lt-ltb n (range_start F s l k + range_size F s l k) h)

  passed : (s : ℕ) → range_start F s l k + range_size F s l k ≤ n → in_range F l k n s ≡ false
  passed s h = rw (le-leb (range_start F s l k) n (omega arith)) (le-ltb n (range_start F s l k + range_size F s l k) h)

  stop : (s : ℕ) → range_start F (suc s) l k ≤ n → n < range_start F (suc s) l k + range_size F (suc s) l k → range_from F l k n (suc s) ≡ suc s
  unfolding range_from
  stop s p h = rw (holds (suc s) p h, range_from)

  pass : (s : ℕ) → range_start F (suc s) l k + range_size F (suc s) l k ≤ n → range_from F l k n (suc s) ≡ range_from F l k n s
  unfolding range_from
  pass s h = rw (passed (suc s) h, range_from)

  pub range_first : range_of F l k n ≡ range_from F l k n (most_nonzero l k)
  unfolding range_of
  range_first = refl

  pub range_here : (s : ℕ) → 0 < s → range_start F s l k ≤ n → n < range_start F s l k + range_size F s l k → range_from F l k n s ≡ s
  range_here zero p b h = absurd (omega arith)
  range_here (suc s) p b h = stop s b h

  pub range_on : (s : ℕ) → 0 < s → range_start F s l k + range_size F s l k ≤ n → range_from F l k n s ≡ range_from F l k n (s - 1)
  range_on zero p h = absurd (omega arith)
  range_on (suc s) p h = let less : suc s - 1 ≡ s = omega arith in rw less (pass s h)

  pub range_end : range_from F l k n 0 ≡ 0
  unfolding range_from
  range_end = refl

-- the range for 0 ends at 1 where the radius is 0
none_size : (F : ℕ → ℕ → ℕ) → IsField F → (l : ℕ) → range_size F 0 l 0 ≡ 1
unfolding range_size D B binomial
none_size F field l = rw field.one

-- below the total, the range for 0 is reached at radius 0 alone
holds_none : (F : ℕ → ℕ → ℕ) → IsField F → (l k n : ℕ) → n < field_total F l k → range_start F 0 l k ≤ n → Holds F l k n 0
unfolding field_total
holds_none F field l zero n h p = record { some = λ q. q; to_most = omega arith; from_start = p; to_end = omega (arith, none_size F field l) }
holds_none F field l (suc k) n h p = absurd (omega arith)

holds_from : (F : ℕ → ℕ → ℕ) → IsField F → (l k n t : ℕ) → n < field_total F l k → t ≤ most_nonzero l k → range_start F t l k ≤ n
    → Holds F l k n (range_from F l k n t)
holds_from F field l k n zero h q p = rw (range_end F l k n) (holds_none F field l k n h p)
holds_from F field l k n (suc t) h q p =
    go (dec_lt n (range_start F (suc t) l k + range_size F (suc t) l k))
    (λ r. holds_from F field l k n t h (omega arith) (omega (arith, range_next F l k t q)))
  where
    go : Dec (n < range_start F (suc t) l k + range_size F (suc t) l k)
        → (range_start F (suc t) l k + range_size F (suc t) l k ≤ n → Holds F l k n (range_from F l k n t)) → Holds F l k n (range_from F l k n (suc t))
    go (yes r) rest = rw (stop F l k n t p r) (record { some = λ u. omega arith; to_most = q; from_start = p; to_end = r })
    go (no r) rest =
        let past : range_start F (suc t) l k + range_size F (suc t) l k ≤ n = omega arith in
        rw (pass F l k n t past) (rest past)

pub range_holds : (F : ℕ → ℕ → ℕ) → IsField F → (l k n : ℕ) → n < field_total F l k → Holds F l k n (range_of F l k n)
range_holds F field l k n h =
    let m = most_nonzero l k in
    rw (range_first F l k n) (holds_from F field l k n m h (le_refl m) (omega (arith, range_last F l k m (le_refl m))))

pub holds_below : (F : ℕ → ℕ → ℕ) → IsField F → (l k n s : ℕ) → Holds F l k n s → n < field_total F l k
unfolding field_total
holds_below F field l zero n s h =
    let none : s ≡ 0 = omega (arith, h.to_most) in
    omega (arith, rw none at h.to_end, none_size F field l, range_last F l 0 0 (omega arith))
holds_below F field l (suc k) n s h =
    let within : range_start F s l (suc k) + range_size F s l (suc k) ≤ range_start F 0 l (suc k) =
    end_bound F l (suc k) s (h.some (omega arith)) h.to_most in
    omega (arith, h.to_end)

found_from : (F : ℕ → ℕ → ℕ) (l k n s t : ℕ) → Holds F l k n s → s ≤ t → t ≤ most_nonzero l k → range_from F l k n t ≡ s
found_from F l k n s zero h p q = let none : s ≡ 0 = omega arith in rw none (range_end F l k n)
found_from F l k n s (suc t) h p q = go (dec_lt t s) (λ r. found_from F l k n s t h r (omega arith))
  where
    go : Dec (t < s) → (s ≤ t → range_from F l k n t ≡ s) → range_from F l k n (suc t) ≡ s
    go (yes r) rest =
        let same : s ≡ suc t = omega arith in
        rw same (stop F l k n t (rw same at h.from_start) (rw same at h.to_end))
    go (no r) rest =
        pass F l k n t (omega (arith, h.from_start, starts_down F l k s t (omega arith) (omega arith), range_next F l k t q)) ∙ rest (omega arith)

pub range_found : (F : ℕ → ℕ → ℕ) (l k n s : ℕ) → Holds F l k n s → range_of F l k n ≡ s
range_found F l k n s h = range_first F l k n ∙ found_from F l k n s (most_nonzero l k) h h.to_most (le_refl (most_nonzero l k))

-- where a range from 1 on is found it holds n
from_holds : (F : ℕ → ℕ → ℕ) (l k n t : ℕ) → t ≤ most_nonzero l k → 0 < range_from F l k n t → n < field_total F l k
unfolding range_from
from_holds F l k n zero q h = absurd (omega arith)
from_holds F l k n (suc t) q h = go (in_range F l k n (suc t)) refl h (from_holds F l k n t (omega arith))
  where
    go : (b : Bool) → in_range F l k n (suc t) ≡ b → 0 < elim b [ true ↦ suc t | false ↦ range_from F l k n t ]
        → (0 < range_from F l k n t → n < field_total F l k) → n < field_total F l k
    go true e p rest =
        let start = leb (range_start F (suc t) l k) n in
        let end = range_start F (suc t) l k + range_size F (suc t) l k in
        omega (arith, ltb-true n end ((and-eq-true_iff start (ltb n end)).0 e).1, end_bound F l k (suc t) (omega arith) q)
    go false e p rest = rest p

pub found_below : (F : ℕ → ℕ → ℕ) (l k n : ℕ) → 0 < range_of F l k n → n < field_total F l k
found_below F l k n h = from_holds F l k n (most_nonzero l k) (le_refl (most_nonzero l k)) (rw (range_first F l k n) at h)

pub none_above : (F : ℕ → ℕ → ℕ) (l k n : ℕ) → field_total F l k ≤ n → range_of F l k n ≡ 0
none_above F l k n h = go (dec_lt 0 (range_of F l k n))
  where
    go : Dec (0 < range_of F l k n) → range_of F l k n ≡ 0
    go (yes p) = absurd (omega (arith, found_below F l k n p))
    go (no p) = omega arith

pub none_found : (F : ℕ → ℕ → ℕ) → IsField F → (l k n : ℕ) → range_of F l k n ≡ 0 → 0 < k → field_total F l k ≤ n
none_found F field l k n e p = go (dec_lt n (field_total F l k))
  where
    go : Dec (n < field_total F l k) → field_total F l k ≤ n
    go (yes h) = absurd (omega (arith, (range_holds F field l k n h).some p))
    go (no h) = omega arith
