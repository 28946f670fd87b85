-- A radius k shared out among magnitudes a_i whose sum is A, by largest remainders (docs/RULES.md, "Quantizing into
-- a record"; the paper, section 7).
use Rattle.std.specs.Prelude.{ℕ, zero, suc, ◌-◌, ◌*◌, ◌/◌, ◌%◌, ◌^◌, ◌≤◌, ◌<◌, ◌≡◌, List, [], ◌∷◌, map, length, get_or, set}
use Rattle.enumeration.specs.Point.{sum_of}
use Rattle.shares.specs.Best.{first_best, larger}

-- the whole parts of k x a_i / A, and the remainders
abbrev pub whole_part : ℕ → ℕ → ℕ → ℕ
whole_part k total a = k * a / total

abbrev pub remainder : ℕ → ℕ → ℕ → ℕ
remainder k total a = k * a % total

abbrev pub whole_parts : ℕ → List ℕ → List ℕ
whole_parts k ms = map (whole_part k (sum_of ms)) ms

abbrev pub remainders : ℕ → List ℕ → List ℕ
remainders k ms = map (remainder k (sum_of ms)) ms

-- how many coordinates have a remainder
abbrev pub with_remainder : List ℕ → ℕ
with_remainder [] = 0
with_remainder (zero ∷ rests) = with_remainder rests
with_remainder (suc rest ∷ rests) = suc (with_remainder rests)

-- the coordinate with the largest remainder, among equal remainders the lower one
unfoldable pub largest : List ℕ → ℕ
largest rests = first_best larger (λ (i : ℕ). get_or rests i 0) (length rests - 1)

-- one more to each of the n largest remainders: the largest that is left, as often as needed; a remainder that has
-- got its unit is spent
abbrev pub spent : List ℕ → List ℕ
spent rests = set rests (largest rests) 0

abbrev pub one_more : List ℕ → List ℕ → List ℕ
one_more rests shares = set shares (largest rests) (suc (get_or shares (largest rests) 0))

unfoldable pub give : ℕ → List ℕ → List ℕ → List ℕ
give zero rests shares = shares
give (suc n) rests shares = give n (spent rests) (one_more rests shares)

-- the remainders that are then left
unfoldable pub left_of : ℕ → List ℕ → List ℕ
left_of zero rests = rests
left_of (suc n) rests = left_of n (spent rests)

-- until the sum is k
abbrev pub units_left : ℕ → List ℕ → ℕ
units_left k ms = k - sum_of (whole_parts k ms)

-- the magnitudes of the point: with k = 0 it is zero
unfoldable pub shared : ℕ → List ℕ → List ℕ
shared zero ms = map (λ (a : ℕ). 0) ms
shared (suc k) ms = give (units_left (suc k) ms) (remainders (suc k) ms) (whole_parts (suc k) ms)

-- no number is above the bound
abbrev pub AllUpTo : ℕ → List ℕ → Type 0
AllUpTo bound ns = (i : ℕ) → i < length ns → get_or ns i 0 ≤ bound

-- a radius above 0 can be shared out among magnitudes whose sum is `total`, with room for as many remainders
pub record Sharable (k total : ℕ) (ms room : List ℕ) : Type 0 where
  pub above_0 : 0 < k
  pub up_to_32 : k ≤ 32
  pub is_total : total ≡ sum_of ms
  pub some : 0 < total
  pub up_to_16 : length ms ≤ 16
  pub all_up_to : AllUpTo (2 ^ 23) ms
  pub has_room : length room ≡ length ms
