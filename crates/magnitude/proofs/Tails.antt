-- Laws of what is gathered of a point from its last coordinate on. At first there is nothing (gathered_none). Then a
-- coordinate comes in front: the sum behind it has room in a row (sum_inside), and the row can be raised (can_raise).
-- A zero adds nothing (with_zero). Another coordinate adds its offset, which the code makes of counts of two rows
-- (inside, differs, index_limited, with_nonzero).
use Prim.Native.Nat.{ℕ, zero, suc, ◌+◌, ◌-◌, ◌≤◌, ◌<◌}
use mathlib.Core.Path.{◌≡◌, refl, sym, ap, ◌∙◌}
use mathlib.Core.List.{List, ◌∷◌}
use mathlib.Core.Bool.{Bool, true, false, false≢true}
use mathlib.Core.Logic.{◌⊎◌, ⊎_elim}
use native.Mathlib.Nat.{add_comm, le_refl}
use native.Mathlib.Omega.{arith}
use lib.IntN.{ℤ, pos, negsuc, nat_abs}
use lib.ListN.{length, get_or, drop, length-drop}
use lib.Seq.{drop-cons, drop-length}
use Rattle.counts.specs.Counts.{N}
use Rattle.counts.proofs.Growth.{N_grows}
use Rattle.enumeration.specs.Magnitude.{offset, magnitude_index}
use Rattle.enumeration.specs.Point.{radius_of, is_nonzero, is_negative}
use Rattle.enumeration.proofs.Magnitude.{index_below}
use Rattle.enumeration.proofs.Values.{offset_zero}
use Rattle.enumeration.proofs.Tails.{radius_drop}
use Rattle.tables.specs.Usable.{most_points}
use Rattle.magnitude.specs.declared.inner.weigh.Tail.{Tail}
use Rattle.magnitude.specs.Rows.{counts_room, CountsTo, IsStart, Raised, Raisable, Countable}
use Rattle.magnitude.specs.Tails.{tail_of, Weighable, Gathered}
use Rattle.magnitude.proofs.Rows.{countable_less, raisable, raised_counts}

same_tail : {sum sum' index index' : ℕ} → sum ≡ sum' → index ≡ index'
    → ◌≡◌ {A = Tail} (record { sum = sum; index = index }) (record { sum = sum'; index = index' })
same_tail s i = rw (s, i)

-- no coordinates are gathered yet
pub gathered_none : (k : ℕ) (x : List ℤ) (row : List ℕ) → length row ≡ counts_room → IsStart row
    → Gathered k x (length x) row (record { sum = 0; index = 0 })
unfolding magnitude_index
gathered_none k x row room start =
    let none : length x - length x ≡ 0 = omega arith in
    record { room = room; of_length = rw none (start k); is_tail = rw (drop-length x) refl }

-- where the points begin whose first coordinate is z, with a rest of length l and radius r: of all points of their
-- shell N(l,r) begin with |z|, and N(l+1,r) with -|z| or with a larger magnitude
module _ (l r : ℕ) where
  offset_differs : (z : ℤ) → is_nonzero z ≡ true → N (suc l) r + N l r ≤ N (suc l) (r + nat_abs z)
  unfolding N
  offset_differs (pos zero) n = absurd (false≢true n)
  offset_differs (pos (suc i)) n = omega (arith, N_grows l (suc r) (r + suc i) (omega arith))
  offset_differs (negsuc i) n = omega (arith, N_grows l (suc r) (r + suc i) (omega arith))

  negative_offset : (z : ℤ) → is_negative z ≡ true → N (suc l) (r + nat_abs z) - N (suc l) r ≡ offset z (suc l) (nat_abs z + r)
  unfolding offset
  negative_offset (pos i) s = absurd (false≢true s)
  negative_offset (negsuc i) s =
      let rest : suc i + r - suc i ≡ r = omega arith in
      rw (rest, add_comm r (suc i)) refl

  positive_offset : (z : ℤ) → is_nonzero z ≡ true → is_negative z ≡ false
      → N (suc l) (r + nat_abs z) - N (suc l) r - N l r ≡ offset z (suc l) (nat_abs z + r)
  unfolding offset
  positive_offset (pos zero) n s = absurd (false≢true n)
  positive_offset (pos (suc i)) n s =
      let rest : suc i + r - suc i ≡ r = omega arith in
      let less : suc l - 1 ≡ l = omega arith in
      rw (rest, less, add_comm r (suc i)) refl
  positive_offset (negsuc i) n s = absurd (false≢true (sym s))

-- which number the code takes, by the sign: `from`, or `rest` less
abbrev Taken : Bool → ℕ → ℕ → ℕ → Type 0
Taken negative from rest taken = ((negative ≡ true) × (taken ≡ from)) ⊎ ((negative ≡ false) × (taken ≡ from - rest))

-- the coordinate at `at`, and those behind it
abbrev pub here : List ℤ → ℕ → ℤ
here x at = get_or x at (pos 0)

abbrev after : List ℤ → ℕ → List ℤ
after x at = drop (suc at) x

-- what a call is lent that puts the coordinate at `at` in front of what is gathered
abbrev Added : ℕ → List ℤ → ℕ → List ℕ → Tail → Type 0
Added k x at row behind = (at < length x) × Weighable k x × Gathered k x (suc at) row behind

module _ {k : ℕ} {x : List ℤ} {at : ℕ} {row : List ℕ} {behind : Tail} (p : Added k x at row behind) where
  front : drop at x ≡ here x at ∷ after x at
  front = drop-cons x at (pos 0) p.0

  one_more_lem : length x - at ≡ suc (length (after x at))
  one_more_lem = omega (arith, length-drop (suc at) x, p.0)

  sum_is : behind.sum ≡ radius_of (after x at)
  sum_is = ap (λ (t : Tail). t.sum) p.2.is_tail

  counts : CountsTo (length (after x at)) k row
  counts = rw (length-drop (suc at) x) p.2.of_length

  countable : Countable (suc (length (after x at))) k
  countable = countable_less (omega (arith, one_more_lem)) (le_refl k) p.1.countable

  within : behind.sum + nat_abs (here x at) ≤ k
  within = omega (arith, sum_is, rw front at (radius_drop x at), p.1.of_radius)

  pub sum_inside : behind.sum < counts_room
  sum_inside = omega (arith, within, countable.room)

  pub can_raise : Raisable k row
  can_raise = raisable (length (after x at)) k row (omega (arith, p.2.room, countable.room)) counts countable

  -- the row is raised
  module _ (made : List ℕ) (room : length made ≡ counts_room) (raised : Raised k row made) where
    made_counts : CountsTo (suc (length (after x at))) k made
    made_counts = raised_counts (length (after x at)) k row made counts raised

    gathered : (tail : Tail) → tail ≡ tail_of (here x at ∷ after x at) → Gathered k x at made tail
    gathered tail is = record { room = room; of_length = rw one_more_lem made_counts; is_tail = is ∙ ap tail_of (sym front) }

    pub with_zero : here x at ≡ pos 0 → Gathered k x at made behind
    unfolding magnitude_index
    with_zero z =
        let none = offset_zero (length (after x at)) (0 + radius_of (after x at)) in
        gathered behind (p.2.is_tail ∙ rw z (same_tail (omega arith) (omega (arith, none))))

-- what the code has found of a nonzero coordinate, once the row is raised: its magnitude m and its sign
pub record Found (k : ℕ) (x : List ℤ) (at : ℕ) (row : List ℕ) (behind : Tail) (made : List ℕ) (m : ℕ) (negative : Bool) : Type 0 where
  pub added : Added k x at row behind
  pub room : length made ≡ counts_room
  pub raised : Raised k row made
  pub magnitude_is : m ≡ nat_abs (here x at)
  pub sign_is : negative ≡ is_negative (here x at)
  pub nonzero : is_nonzero (here x at) ≡ true

module _ {k : ℕ} {x : List ℤ} {at : ℕ} {row : List ℕ} {behind : Tail} {made : List ℕ} {m : ℕ} {negative : Bool}
    (f : Found k x at row behind made m negative) where
  pub inside : behind.sum + m < counts_room
  inside = omega (arith, within f.added, f.magnitude_is, (countable f.added).room)

  count_all : get_or made (behind.sum + m) 0 ≡ N (suc (length (after x at))) (behind.sum + nat_abs (here x at))
  count_all = rw f.magnitude_is (made_counts f.added made f.room f.raised _ (within f.added))

  count_negative_on : get_or made behind.sum 0 ≡ N (suc (length (after x at))) behind.sum
  count_negative_on = made_counts f.added made f.room f.raised behind.sum (omega (arith, within f.added))

  count_positive : get_or row behind.sum 0 ≡ N (length (after x at)) behind.sum
  count_positive = counts f.added behind.sum (omega (arith, within f.added))

  pub differs : get_or made behind.sum 0 + get_or row behind.sum 0 ≤ get_or made (behind.sum + m) 0
  differs = omega (arith, count_all, count_negative_on, count_positive, offset_differs (length (after x at)) behind.sum (here x at) f.nonzero)

  -- the number that it has taken by the sign
  module _ (taken : ℕ)
      (took : Taken negative (get_or made (behind.sum + m) 0 - get_or made behind.sum 0) (get_or row behind.sum 0) taken) where
    is_offset : taken ≡ offset (here x at) (suc (length (after x at))) (nat_abs (here x at) + behind.sum)
    is_offset =
        let l = length (after x at) in
        let sign = sym f.sign_is in
        ⊎_elim (λ w. w.1 ∙ rw (count_all, count_negative_on) (negative_offset l behind.sum (here x at) (sign ∙ w.0)))
        (λ w. w.1 ∙ rw (count_all, count_negative_on, count_positive) (positive_offset l behind.sum (here x at) f.nonzero (sign ∙ w.0)))
        took

    index_is : taken + behind.index ≡ magnitude_index (here x at ∷ after x at)
    unfolding magnitude_index
    index_is = rw (is_offset, f.added.2.is_tail) refl

    pub index_limited : taken + behind.index ≤ most_points
    index_limited =
        let l = suc (length (after x at)) in
        let r = radius_of (here x at ∷ after x at) in
        let most = (countable f.added).limited l r (le_refl l) (omega (arith, sum_is f.added, within f.added)) in
        omega (arith, index_is, index_below (here x at ∷ after x at), most)

    pub with_nonzero : Gathered k x at made (record { sum = behind.sum + m; index = taken + behind.index })
    with_nonzero =
        gathered f.added made f.room f.raised _ (same_tail (omega (arith, f.magnitude_is, sum_is f.added)) index_is)
