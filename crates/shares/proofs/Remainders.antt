-- The shares are those of the largest remainders, and no other numbers are (specs/Remainders.antt).
use Prim.Native.Nat.{ℕ, zero, suc, ◌/◌, ◌≤◌, ◌<◌}
use mathlib.Core.Path.{◌≡◌, refl, sym, ap, ◌∙◌}
use mathlib.Core.List.{List, [], ◌∷◌, map}
use mathlib.Core.Logic.{◌⊎◌, inl, inr, ⊎_elim}
use native.Mathlib.Omega.{arith}
use native.Mathlib.Decide.{ℕ_discrete, dec_lt}
use native.Mathlib.Nat.{zero-mul, zero-div}
use borrow.Author.Tests.{ltb-true}
use lib.ListN.{length, get_or, length-set, length-map}
use lib.Seq.{get_or-set_same, get_or-set_other, ext_get_or}
use Rattle.enumeration.specs.Point.{sum_of}
use Rattle.shares.specs.Shares.{whole_part, remainder, whole_parts, remainders, with_remainder, largest, spent, one_more, give, left_of, units_left, shared}
use Rattle.shares.specs.Remainders.{whole_at, rest_at, Before, IsShared}
use Rattle.shares.proofs.Mapped.{read_map}
use Rattle.shares.proofs.Giving.{largest_is, largest_some, none_larger, one_spent}
use Rattle.shares.proofs.Sums.{units_enough}
use Rattle.shares.proofs.Sharing.{shared_length, shared_sum}

-- ---- units given one by one
-- Of remainders rs and whole parts ws, `rests` and `shares` are left: each coordinate has both as they were, or one
-- more and nothing of its remainder; and those that have one more come before those that have not.
record Given (rs ws rests shares : List ℕ) : Type 0 where
  rests_long : length rests ≡ length rs
  shares_long : length shares ≡ length rs
  each : (i : ℕ) → i < length rs
      → ((get_or shares i 0 ≡ get_or ws i 0) × (get_or rests i 0 ≡ get_or rs i 0)) ⊎ ((get_or shares i 0 ≡ suc (get_or ws i 0)) × (get_or rests i 0 ≡ 0))
  in_order : (i j : ℕ) → i < length rs → j < length rs → get_or shares i 0 ≡ suc (get_or ws i 0) → get_or shares j 0 ≡ get_or ws j 0
      → Before (λ (x : ℕ). get_or rs x 0) i j

module _ (rs ws : List ℕ) where
  -- at first nothing is given
  none_given : length ws ≡ length rs → Given rs ws rs ws
  none_given same = record {
    rests_long = refl;
    shares_long = same;
    each = λ i h. inl (refl, refl);
    in_order = λ i j h g more whole. absurd (omega arith);
  }

  -- one unit more, to the largest remainder that is left
  module _ (rests shares : List ℕ) (given : Given rs ws rests shares) (some : 0 < with_remainder rests) where
    at : ℕ
    at = largest rests

    below : at < length rs
    unfolding at
    below = omega (arith, (largest_some rests some).0, given.rests_long)

    above_0 : 0 < get_or rests at 0
    unfolding at
    above_0 = (largest_some rests some).1

    -- nothing of it was given yet
    untouched : (get_or shares at 0 ≡ get_or ws at 0) × (get_or rests at 0 ≡ get_or rs at 0)
    untouched = ⊎_elim (λ kept. kept) (λ got. absurd (omega (arith, above_0, got.1))) (given.each at below)

    -- afterwards it is spent, and has one more
    share_at : get_or (one_more rests shares) at 0 ≡ suc (get_or ws at 0)
    unfolding at
    share_at = get_or-set_same shares (largest rests) (suc (get_or shares (largest rests) 0)) 0 (omega (arith, below, given.shares_long)) ∙ ap suc untouched.0

    rest_at_lem : get_or (spent rests) at 0 ≡ 0
    unfolding at
    rest_at_lem = get_or-set_same rests (largest rests) 0 0 (omega (arith, below, given.rests_long))

    module _ (i : ℕ) (other : i ≡ at → ⊥) where
      share_of : get_or (one_more rests shares) i 0 ≡ get_or shares i 0
      unfolding at
      share_of = get_or-set_other shares (largest rests) i (suc (get_or shares (largest rests) 0)) 0 other

      rest_of : get_or (spent rests) i 0 ≡ get_or rests i 0
      unfolding at
      rest_of = get_or-set_other rests (largest rests) i 0 0 other

      -- another that has not got one comes after it
      comes_after : i < length rs → get_or shares i 0 ≡ get_or ws i 0 → Before (λ (x : ℕ). get_or rs x 0) at i
      unfolding at
      comes_after h whole = go (dec_lt (get_or rs i 0) (get_or rs at 0)) (dec_lt i at)
        where
          kept : get_or rests i 0 ≡ get_or rs i 0
          kept = ⊎_elim (λ same. same.1) (λ got. absurd (omega (arith, got.0))) (given.each i h)

          go : Dec (get_or rs i 0 < get_or rs at 0) → Dec (i < at) → Before (λ (x : ℕ). get_or rs x 0) at i
          go (yes less) d = inl less
          go (no not-less) (yes lower) =
              absurd (not-less (omega (arith, kept, untouched.1, ltb-true (get_or rests i 0) (get_or rests at 0) ((largest_is rests).first i lower))))
          go (no not-less) (no not_lower) =
              inr (omega (arith, kept, untouched.1, none_larger rests i (omega (arith, given.rests_long))), omega (arith, other))

    one_given : Given rs ws (spent rests) (one_more rests shares)
    one_given = record {
      rests_long = length-set rests (largest rests) 0 ∙ given.rests_long;
      shares_long = length-set shares (largest rests) (suc (get_or shares (largest rests) 0)) ∙ given.shares_long;
      each = λ i h. each_then i h (ℕ_discrete i at);
      in_order = λ i j h g more whole. order_then i j h g more whole (ℕ_discrete i at) (ℕ_discrete j at);
    }
      where
        each_then : (i : ℕ) → i < length rs → Dec (i ≡ at)
            → ((get_or (one_more rests shares) i 0 ≡ get_or ws i 0) × (get_or (spent rests) i 0 ≡ get_or rs i 0))
            ⊎ ((get_or (one_more rests shares) i 0 ≡ suc (get_or ws i 0)) × (get_or (spent rests) i 0 ≡ 0))
        each_then i h (yes same) = rw same (inr (share_at, rest_at_lem))
        each_then i h (no other) = rw (share_of i other, rest_of i other) (given.each i h)

        order_then : (i j : ℕ) → i < length rs → j < length rs → get_or (one_more rests shares) i 0 ≡ suc (get_or ws i 0) → get_or (one_more rests shares) j 0 ≡ get_or ws j 0
            → Dec (i ≡ at) → Dec (j ≡ at) → Before (λ (x : ℕ). get_or rs x 0) i j
        order_then i j h g more whole d (yes same) = absurd (omega (arith, rw same at whole, share_at))
        order_then i j h g more whole (yes same) (no other) = rw same (comes_after j other g (sym (share_of j other) ∙ whole))
        order_then i j h g more whole (no apart) (no other) = given.in_order i j h g (sym (share_of i apart) ∙ more) (sym (share_of j other) ∙ whole)

  all_given : (n : ℕ) (rests shares : List ℕ) → Given rs ws rests shares → n ≤ with_remainder rests → Given rs ws (left_of n rests) (give n rests shares)
  unfolding give left_of
  all_given zero rests shares given h = given
  all_given (suc n) rests shares given h =
      let (below, some) = largest_some rests (omega arith) in
      let count : with_remainder rests ≡ suc (with_remainder (spent rests)) = one_spent rests (largest rests) below some in
      all_given n (spent rests) (one_more rests shares) (one_given rests shares given (omega arith)) (omega arith)

-- ---- the shares are those of the largest remainders
module _ (k : ℕ) (ms : List ℕ) where
  whole_at_lem : (i : ℕ) → i < length ms → get_or (whole_parts k ms) i 0 ≡ whole_at k ms i
  whole_at_lem i h = read_map (whole_part k (sum_of ms)) ms i 0 0 h

  rest_is : (i : ℕ) → i < length ms → get_or (remainders k ms) i 0 ≡ rest_at k ms i
  rest_is i h = read_map (remainder k (sum_of ms)) ms i 0 0 h

zero_part : (ms : List ℕ) (i : ℕ) → whole_at 0 ms i ≡ 0
zero_part ms i = ap (λ (x : ℕ). x / sum_of ms) (zero-mul (get_or ms i 0)) ∙ zero-div (sum_of ms)

zero_share : (ms : List ℕ) (i : ℕ) → i < length ms → get_or {A = ℕ} (map (λ (a : ℕ). 0) ms) i 0 ≡ 0
zero_share ms i h = read_map {B = ℕ} (λ (a : ℕ). 0) ms i 0 0 h

pub shared_is : (k : ℕ) (ms : List ℕ) → (0 < k → 0 < sum_of ms) → IsShared k ms (shared k ms)
unfolding shared
shared_is zero ms some = record {
  as_long = shared_length zero ms;
  whole_or_more = λ i h. inl (zero_share ms i h ∙ sym (zero_part ms i));
  largest_first = λ i j h g more whole. absurd (omega (arith, zero_share ms i h));
  sums_to = shared_sum zero ms some;
}
shared_is (suc k) ms some = record {
  as_long = shared_length (suc k) ms;
  whole_or_more = λ i h.
      ⊎_elim (λ kept. inl (kept.0 ∙ whole_at_lem (suc k) ms i h)) (λ got. inr (got.0 ∙ ap suc (whole_at_lem (suc k) ms i h)))
      (given.each i (in_rests i h));
  largest_first = λ i j h g more whole.
      rw (← rest_is (suc k) ms i h, ← rest_is (suc k) ms j g)
      (given.in_order i j (in_rests i h) (in_rests j g) (more ∙ ap suc (sym (whole_at_lem (suc k) ms i h))) (whole ∙ sym (whole_at_lem (suc k) ms j g)));
  sums_to = shared_sum (suc k) ms some;
}
  where
    rs : List ℕ
    rs = remainders (suc k) ms

    ws : List ℕ
    ws = whole_parts (suc k) ms

    rests_long : length rs ≡ length ms
    rests_long = length-map ms (remainder (suc k) (sum_of ms))

    in_rests : (i : ℕ) → i < length ms → i < length rs
    in_rests i h = omega (arith, rests_long)

    given : Given rs ws (left_of (units_left (suc k) ms) rs) (give (units_left (suc k) ms) rs ws)
    given =
        all_given rs ws (units_left (suc k) ms) rs ws (none_given rs ws (length-map ms (whole_part (suc k) (sum_of ms)) ∙ sym rests_long))
        (units_enough (suc k) ms (some (omega arith)))

-- ---- and nothing else is
never_both : (rest : ℕ → ℕ) (i j : ℕ) → Before rest i j → Before rest j i → ⊥
never_both rest i j (inl a) (inl b) = omega arith
never_both rest i j (inl a) (inr b) = omega (arith, b.0)
never_both rest i j (inr a) (inl b) = omega (arith, a.0)
never_both rest i j (inr a) (inr b) = omega (arith, a.1, b.1)

sum_up_to : (ns ms : List ℕ) → length ns ≡ length ms → ((j : ℕ) → j < length ns → get_or ns j 0 ≤ get_or ms j 0) → sum_of ns ≤ sum_of ms
sum_up_to [] ms same up = omega arith
sum_up_to (n ∷ ns) [] same up = absurd (omega arith)
sum_up_to (n ∷ ns) (m ∷ ms) same up = omega (arith, up 0 (omega arith), sum_up_to ns ms (omega arith) (λ j h. up (suc j) (omega arith)))

sum_less : (ns ms : List ℕ) → length ns ≡ length ms → ((j : ℕ) → j < length ns → get_or ns j 0 ≤ get_or ms j 0)
    → (i : ℕ) → i < length ns → get_or ns i 0 < get_or ms i 0 → sum_of ns < sum_of ms
sum_less [] ms same up i h less = absurd (omega arith)
sum_less (n ∷ ns) [] same up i h less = absurd (omega arith)
sum_less (n ∷ ns) (m ∷ ms) same up zero h less = omega (arith, sum_up_to ns ms (omega arith) (λ j g. up (suc j) (omega arith)))
sum_less (n ∷ ns) (m ∷ ms) same up (suc i) h less =
    omega (arith, up 0 (omega arith), sum_less ns ms (omega arith) (λ j g. up (suc j) (omega arith)) i (omega arith) less)

-- where one has one more and the other has not, the other has less everywhere, and its sum is less
module _ (k : ℕ) (ms ps qs : List ℕ) (p : IsShared k ms ps) (q : IsShared k ms qs) where
  no_difference : (i : ℕ) → i < length ms → get_or ps i 0 ≡ suc (whole_at k ms i) → get_or qs i 0 ≡ whole_at k ms i → ⊥
  no_difference i h more whole =
      let less = sum_less qs ps (q.as_long ∙ sym p.as_long) (λ j g. up_to j (omega (arith, q.as_long))) i (omega (arith, q.as_long)) (omega arith) in
      omega (arith, less, p.sums_to, q.sums_to)
    where
      up_to : (j : ℕ) → j < length ms → get_or qs j 0 ≤ get_or ps j 0
      up_to j g = go (p.whole_or_more j g) (q.whole_or_more j g)
        where
          go : (get_or ps j 0 ≡ whole_at k ms j) ⊎ (get_or ps j 0 ≡ suc (whole_at k ms j))
              → (get_or qs j 0 ≡ whole_at k ms j) ⊎ (get_or qs j 0 ≡ suc (whole_at k ms j)) → get_or qs j 0 ≤ get_or ps j 0
          go (inl a) (inl b) = omega arith
          go (inl a) (inr b) = absurd (never_both (rest_at k ms) i j (p.largest_first i j h g more a) (q.largest_first j i g h b whole))
          go (inr a) (inl b) = omega arith
          go (inr a) (inr b) = omega arith

pub shared_only : (k : ℕ) (ms ps qs : List ℕ) → IsShared k ms ps → IsShared k ms qs → ps ≡ qs
shared_only k ms ps qs p q = ext_get_or 0 ps qs (p.as_long ∙ sym q.as_long) (λ i h. same i (omega (arith, p.as_long)))
  where
    same : (i : ℕ) → i < length ms → get_or ps i 0 ≡ get_or qs i 0
    same i h = go (p.whole_or_more i h) (q.whole_or_more i h)
      where
        go : (get_or ps i 0 ≡ whole_at k ms i) ⊎ (get_or ps i 0 ≡ suc (whole_at k ms i))
            → (get_or qs i 0 ≡ whole_at k ms i) ⊎ (get_or qs i 0 ≡ suc (whole_at k ms i)) → get_or ps i 0 ≡ get_or qs i 0
        go (inl a) (inl b) = a ∙ sym b
        go (inl a) (inr b) = absurd (no_difference k ms qs ps q p i h b a)
        go (inr a) (inl b) = absurd (no_difference k ms ps qs p q i h a b)
        go (inr a) (inr b) = a ∙ sym b
