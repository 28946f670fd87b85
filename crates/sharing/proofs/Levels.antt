-- A level that the shares keep to. A coordinate with share p and magnitude a is at level t if
--     k x a ≤ A x p + t ≤ k x a + A:
-- a remainder that got no unit is at most t, and one that got its unit is at least t. The picks go from the largest
-- remainder down, so the last remainder that got a unit is such a level for all coordinates.
use Prim.Native.Nat.{ℕ, zero, suc, ◌+◌, ◌*◌, ◌/◌, ◌%◌, ◌≤◌, ◌<◌}
use mathlib.Core.Path.{◌≡◌, sym, ◌∙◌}
use mathlib.Core.List.{List}
use native.Mathlib.Omega.{arith}
use native.Mathlib.Decide.{ℕ_discrete}
use native.Mathlib.Nat.{mod-lt, div-add-mod'}
use lib.ListN.{length, get_or, length-set, length-map}
use Rattle.enumeration.specs.Point.{sum_of}
use Rattle.shares.specs.Shares.{whole_part, remainder, whole_parts, remainders, with_remainder, largest, spent, one_more, give, left_of, units_left, shared}
use Rattle.shares.proofs.Mapped.{read_map}
use Rattle.shares.proofs.Sums.{units_enough}
use Rattle.shares.proofs.Giving.{none_larger, largest_some, one_spent, give_length}
use Rattle.sharing.proofs.Picks.{spent_at, more_at, spent_other, more_other}

-- A coordinate while units are given: c is k x a, `rest` what is left of its remainder, p its share so far. Where the
-- rest is above 0, no unit was given.
record Coordinate (total c level rest p : ℕ) : Type 0 where
  below : rest < total
  up_to_level : rest ≤ level
  reached : c ≤ total * p + rest
  not_past : total * p + level ≤ c + total
  unspent : 0 < rest → total * p + rest ≤ c

-- before the first unit, A is a level
at_first : (total c : ℕ) → 0 < total → Coordinate total c total (c % total) (c / total)
at_first total c some =
    let less : c % total < total = mod-lt c some in
    let whole : c / total * total + c % total ≡ c = div-add-mod' c total in
    record { below = less; up_to_level = omega arith; reached = omega arith; not_past = omega arith; unspent = λ h. omega arith }

-- the coordinate that gets its unit: its rest is the next level
given_one : (total c level rest p : ℕ) → Coordinate total c level rest p → 0 < rest → Coordinate total c rest 0 (suc p)
given_one total c level rest p at some =
    let whole : total * p + rest ≤ c = at.unspent some in
    record {
      below = omega (arith, at.below);
      up_to_level = omega arith;
      reached = omega (arith, at.reached, at.below);
      not_past = omega arith;
      unspent = λ h. absurd (omega arith);
    }

-- every other one keeps to a lower level that its rest is not above
lowered : (total c level lower rest p : ℕ) → Coordinate total c level rest p → rest ≤ lower → lower ≤ level → Coordinate total c lower rest p
lowered total c level lower rest p at up_to_lem less = record {
  below = at.below;
  up_to_level = up_to_lem;
  reached = at.reached;
  not_past = omega (arith, at.not_past);
  unspent = at.unspent;
}

-- ---- all coordinates, unit by unit
record Leveled (total : ℕ) (c : ℕ → ℕ) (rests shares : List ℕ) (level : ℕ) : Type 0 where
  as_long : length rests ≡ length shares
  some : 0 < level
  each : (i : ℕ) → i < length shares → Coordinate total (c i) level (get_or rests i 0) (get_or shares i 0)

one_leveled : (total : ℕ) (c : ℕ → ℕ) (rests shares : List ℕ) (level : ℕ) → Leveled total c rests shares level → 0 < with_remainder rests
    → Leveled total c (spent rests) (one_more rests shares) (get_or rests (largest rests) 0)
one_leveled total c rests shares level leveled left = record {
  as_long = length-set rests at 0 ∙ leveled.as_long ∙ sym shares_long;
  some = some;
  each = λ i h. then i (omega (arith, shares_long)) (ℕ_discrete i at);
}
  where
    at : ℕ
    at = largest rests

    next : ℕ
    next = get_or rests at 0

    some : 0 < next
    some = (largest_some rests left).1

    in_rests : at < length rests
    in_rests = (largest_some rests left).0

    in_shares : at < length shares
    in_shares = omega (arith, in_rests, leveled.as_long)

    shares_long : length (one_more rests shares) ≡ length shares
    shares_long = length-set shares at (suc (get_or shares at 0))

    then : (i : ℕ) → i < length shares → Dec (i ≡ at) → Coordinate total (c i) next (get_or (spent rests) i 0) (get_or (one_more rests shares) i 0)
    then i h (yes same) =
        rw (same, spent_at rests in_rests, more_at rests shares in_shares)
        (given_one total (c at) level next (get_or shares at 0) (leveled.each at in_shares) some)
    then i h (no other) =
        rw (spent_other rests shares i other, more_other rests shares i other)
        (lowered total (c i) level next (get_or rests i 0) (get_or shares i 0) (leveled.each i h)
        (none_larger rests i (omega (arith, leveled.as_long)))
        (leveled.each at in_shares).up_to_level)

all_leveled : (total : ℕ) (c : ℕ → ℕ) (n : ℕ) (rests shares : List ℕ) (level : ℕ) → Leveled total c rests shares level → n ≤ with_remainder rests
    → (level' : ℕ) × Leveled total c (left_of n rests) (give n rests shares) level'
unfolding give left_of
all_leveled total c zero rests shares level leveled h = (level, leveled)
all_leveled total c (suc n) rests shares level leveled h =
    let (below, some) = largest_some rests (omega arith) in
    let count : with_remainder rests ≡ suc (with_remainder (spent rests)) = one_spent rests (largest rests) below some in
    all_leveled total c n (spent rests) (one_more rests shares) (get_or rests (largest rests) 0) (one_leveled total c rests shares level leveled (omega arith)) (omega arith)

-- ---- the shares of a radius above 0
-- a coordinate at a level, and less than A from its share
pub record AtLevel (total level c p : ℕ) : Type 0 where
  pub reached : c ≤ total * p + level
  pub not_past : total * p + level ≤ c + total
  pub less_above : c < total * p + total
  pub less_below : total * p < c + total

at_level : (total c level rest p : ℕ) → 0 < level → Coordinate total c level rest p → AtLevel total level c p
at_level total c level rest p some at = record {
  reached = omega (arith, at.reached, at.up_to_level);
  not_past = at.not_past;
  less_above = omega (arith, at.reached, at.below);
  less_below = omega (arith, at.not_past);
}

pub shares_level : (k : ℕ) (ms : List ℕ) → 0 < k → 0 < sum_of ms
    → (level : ℕ) × ((i : ℕ) → i < length ms → AtLevel (sum_of ms) level (k * get_or ms i 0) (get_or (shared k ms) i 0))
unfolding shared
shares_level zero ms h some = absurd (omega arith)
shares_level (suc k) ms h some =
    let units = units_left (suc k) ms in
    let (level, leveled) = all_leveled (sum_of ms) c units rests wholes (sum_of ms) begun (units_enough (suc k) ms some) in (
      level,
      λ i below.
          at_level (sum_of ms) (c i) level (get_or (left_of units rests) i 0) (get_or (give units rests wholes) i 0) leveled.some
          (leveled.each i (omega (arith, give_length units rests wholes, wholes_long))),
    )
  where
    c : ℕ → ℕ
    c i = suc k * get_or ms i 0

    rests : List ℕ
    rests = remainders (suc k) ms

    wholes : List ℕ
    wholes = whole_parts (suc k) ms

    wholes_long : length wholes ≡ length ms
    wholes_long = length-map ms (whole_part (suc k) (sum_of ms))

    begun : Leveled (sum_of ms) c rests wholes (sum_of ms)
    begun = record {
      as_long = length-map ms (remainder (suc k) (sum_of ms)) ∙ sym wholes_long;
      some = some;
      each = λ i below.
          let inside : i < length ms = omega (arith, wholes_long) in
          rw (read_map (remainder (suc k) (sum_of ms)) ms i 0 0 inside, read_map (whole_part (suc k) (sum_of ms)) ms i 0 0 inside) (at_first (sum_of ms) (c i) some);
    }
