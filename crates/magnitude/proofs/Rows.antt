-- Laws of rows of counts:
--     usable_countable, countable_less     the counts up to those of a usable shell are within the limit, and so are
--                                          those of smaller lengths and radii
--     start_counts                         where rows begin
--     above_counts, below_counts           the row above and the row below are rows of counts
--     raised_counts, lowered_counts        and so is what is made of a row
--     raisable, lowerable                  which can be made
--     Turned, turned_long, turned_first, turned_next, turned_all
--                                          a row that is turned into another in its own place, number by number
--     above_next, below_next               the next number of the row above, and of the row below
--     next_limited                         which can be made
use Prim.Native.Nat.{ℕ, zero, suc, ◌+◌, ◌-◌, ◌≤◌, ◌<◌}
use mathlib.Core.Path.{◌≡◌, refl, ◌∙◌}
use mathlib.Core.List.{List, [], ◌∷◌}
use native.Mathlib.Decide.{dec_lt, le_ind}
use native.Mathlib.Nat.{le_refl, le_trans, le_of_eq}
use native.Mathlib.Numerals.{add-one}
use native.Mathlib.Omega.{arith}
use lib.ListN.{length, get_or, set, take, drop, replicate, length-set, get_or-append}
use lib.Seq.{get_or-set_same, get_or-set_other}
use borrow.Rule.Slice.PartMut.{put_mid, post_of}
use Rattle.std.proofs.lemmas.List.{get_or-take, length-take}
use Rattle.std.proofs.lemmas.Grind.{get_or_after_one}
use Rattle.counts.specs.Counts.{N}
use Rattle.counts.proofs.Growth.{N_grows, N_wider}
use Rattle.tables.specs.Usable.{most_points, IsUsable}
use Rattle.magnitude.specs.Rows.{counts_room, CountsTo, IsStart, above, below, Raised, Lowered, Raisable, Lowerable, Countable}

pub countable_less : {l m k j : ℕ} → m ≤ l → j ≤ k → Countable l k → Countable m j
countable_less h q c =
    record { room = omega (arith, c.room); limited = λ a b p r. c.limited a b (omega arith) (omega arith) }

-- N grows with the length and with the radius
pub usable_countable : (l k : ℕ) → IsUsable l k (N l k) → Countable l k
usable_countable l k usable = record { room = omega (arith, usable.radius_to); limited = λ m j h q. within l m j usable.length_from h q usable.points_to }
  where
    within : (l m j : ℕ) → 1 ≤ l → m ≤ l → j ≤ k → N l k ≤ most_points → N m j ≤ most_points
    within zero m j p h q most = absurd (omega arith)
    within (suc l) m j p h q most =
        let longer : N m j ≤ N (suc l) j = le_ind (λ (n : ℕ). N m j ≤ N n j) (le_refl (N m j)) (λ n g e. le_trans e (N_wider n j)) (suc l) h in
        le_trans longer (le_trans (N_grows l j k q) most)

zeros : (n i : ℕ) → ◌≡◌ {A = ℕ} (get_or (replicate n 0) i 0) 0
zeros zero i = refl
zeros (suc n) zero = refl
zeros (suc n) (suc i) = zeros n i

pub start_counts : IsStart (set (replicate counts_room 0) 0 1)
unfolding N
start_counts k zero h = refl
start_counts k (suc j) h = zeros 32 j

pub above_counts : (l k : ℕ) (row : List ℕ) → CountsTo l k row → (j : ℕ) → j ≤ k → above row j ≡ N (suc l) j
unfolding above N
above_counts l k row counts zero h = counts 0 h
above_counts l k row counts (suc j) h =
    let before : j ≤ k = omega arith in
    omega (arith, above_counts l k row counts j before, counts j before, counts (suc j) h)

pub below_counts : (l k : ℕ) (row : List ℕ) → CountsTo (suc l) k row → (j : ℕ) → j ≤ k → below row j ≡ N l j
unfolding below N
below_counts l k row counts zero h = counts 0 h
below_counts l k row counts (suc j) h =
    let before : j ≤ k = omega arith in
    omega (arith, below_counts l k row counts j before, counts j before, counts (suc j) h)

pub raised_counts : (l k : ℕ) (row made : List ℕ) → CountsTo l k row → Raised k row made → CountsTo (suc l) k made
raised_counts l k row made counts raised j h = raised j h ∙ above_counts l k row counts j h

pub lowered_counts : (l k : ℕ) (row made : List ℕ) → CountsTo (suc l) k row → Lowered k row made → CountsTo l k made
lowered_counts l k row made counts lowered j h = lowered j h ∙ below_counts l k row counts j h

pub raisable : (l k : ℕ) (row : List ℕ) → k < length row → CountsTo l k row → Countable (suc l) k → Raisable k row
raisable l k row room counts countable =
    record { room = room; limited = λ j h. le_trans (le_of_eq (above_counts l k row counts j h)) (countable.limited (suc l) j (le_refl (suc l)) h) }

pub lowerable : (l k : ℕ) (row : List ℕ) → k < length row → CountsTo (suc l) k row → Lowerable k row
unfolding N
lowerable l k row room counts = record { room = room; differs = differs }
  where
    differs : (j : ℕ) → j < k → get_or row j 0 + below row j ≤ get_or row (suc j) 0
    differs j h =
        let before : j ≤ k = omega arith in
        omega (arith, counts j before, counts (suc j) h, below_counts l k row counts j before)

-- what stands in a row behind the number at 0, the first `at` of it those of a new row and the others still the row's
-- own; the new and the old number at `at`
pub record Turned (new : ℕ → ℕ) (row : List ℕ) (at last before : ℕ) (turned : List ℕ) : Type 0 where
  pub reached : (j : ℕ) → j < at → get_or turned j 0 ≡ new (suc j)
  pub not_reached : (j : ℕ) → at ≤ j → j < length turned → get_or turned j 0 ≡ get_or row (suc j) 0
  pub is_last : last ≡ new at
  pub is_before : before ≡ get_or row at 0

-- it is as long as the radius says
pub turned_long : (row : List ℕ) (k : ℕ) → k < length row → length (take (k + 1 - 1) (drop 1 row)) ≡ k
turned_long [] k room = absurd (omega arith)
turned_long (r ∷ row) k room = length-take (k + 1 - 1) row ∙ omega arith

-- both rows have the same number at 0
pub turned_first : (new : ℕ → ℕ) (row : List ℕ) (k : ℕ) → get_or row 0 0 ≡ new 0
    → Turned new row 0 (get_or row 0 0) (get_or row 0 0) (take k (drop 1 row))
turned_first new row k same =
    record { reached = λ j h. absurd (omega arith); not_reached = λ j h l. not_reached j l; is_last = same; is_before = refl }
  where
    not_reached : (j : ℕ) → j < length (take k (drop 1 row)) → get_or (take k (drop 1 row)) j 0 ≡ get_or row (suc j) 0
    not_reached j l =
        let inside : j < k = omega (arith, length-take k (drop 1 row)) in
        let next : 1 + j ≡ suc j = omega arith in
        get_or-take k (drop 1 row) j 0 inside ∙ get_or_after_one row j 0 ∙ rw next refl

-- the next number is put in its place
pub turned_next : {new : ℕ → ℕ} {row turned : List ℕ} {at last before : ℕ} (v : ℕ) → Turned new row at last before turned → at < length turned
    → v ≡ new (at + 1) → Turned new row (at + 1) v (get_or turned at 0) (set turned at v)
turned_next {new} {row} {turned} {at} v is room same = record {
  reached = λ j h. reached j h (dec_lt j at);
  not_reached = λ j h l. get_or-set_other turned at j v 0 (λ e. omega arith) ∙ is.not_reached j (omega arith) (omega (arith, length-set turned at v));
  is_last = same;
  is_before = is.not_reached at (le_refl at) room ∙ rw (add-one at) refl;
}
  where
    reached : (j : ℕ) → j < at + 1 → Dec (j < at) → get_or (set turned at v) j 0 ≡ new (suc j)
    reached j h (yes below) = get_or-set_other turned at j v 0 (λ e. omega arith) ∙ is.reached j below
    reached j h (no above) =
        let here : j ≡ at = omega arith in
        rw here (get_or-set_same turned at v 0 room ∙ same ∙ rw (add-one at) refl)

-- all is turned, and stands behind the number at 0 again
pub turned_all : {new : ℕ → ℕ} (row : List ℕ) {turned : List ℕ} {at last before : ℕ} (m : ℕ) → Turned new row at last before turned
    → length turned ≡ at → 0 < length row → get_or row 0 0 ≡ new 0 → (j : ℕ) → j ≤ at → get_or (put_mid 1 m row turned) j 0 ≡ new j
turned_all [] m is long some same j h = absurd (omega arith)
turned_all (r ∷ row) m is long some same zero h = same
turned_all (r ∷ row) {turned} m is long some same (suc i) h =
    get_or-append turned (post_of 1 m (r ∷ row)) 0 i (omega arith) ∙ is.reached i (omega arith)

-- the next number, as the code makes it of what stands there
pub above_next : {row turned : List ℕ} {at last before : ℕ} → Turned (above row) row at last before turned
    → at < length turned → last + get_or turned at 0 + before ≡ above row (at + 1)
unfolding above
above_next {at = at} is room = rw (is.not_reached at (le_refl at) room, is.is_last, is.is_before, add-one at) refl

pub below_next : {row turned : List ℕ} {at last before : ℕ} → Turned (below row) row at last before turned
    → at < length turned → get_or turned at 0 - before - last ≡ below row (at + 1)
unfolding below
below_next {at = at} is room = rw (is.not_reached at (le_refl at) room, is.is_last, is.is_before, add-one at) refl

-- it can be made
pub next_limited : {k : ℕ} {row turned : List ℕ} {at last before : ℕ} → Raisable k row → Turned (above row) row at last before turned
    → length turned ≡ k → at < k → last + get_or turned at 0 + before ≤ most_points
next_limited {at = at} can is long h = le_trans (le_of_eq (above_next is (omega arith))) (can.limited (at + 1) (omega arith))
