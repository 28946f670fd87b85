-- The weight that the code gathers from the last coordinate of a point to its first, and the index that it makes
-- up. The shape counts by what comes after it, which takes one count a coordinate where the offset of the rules is
-- a difference of two.
use Rattle.std.specs.Prelude.{ℕ, suc, ◌+◌, ◌-◌, ◌*◌, ◌^◌, ◌≤◌, ◌<◌, ◌≡◌, List, [], ◌∷◌, Bool, cond, ℤ, nat_abs, length}
use Rattle.counts.specs.Counts.{D, S, B, range_start}
use Rattle.enumeration.specs.Point.{sum_of, radius_of, is_nonzero, is_negative, pattern_in, nonzeros_in, shape_in, signs_in}
use Rattle.enumeration.specs.Product.{pattern_index, sign_bit, sign_index, index_from}
use Rattle.weighing.specs.declared.inner.Weight.{Weight}

-- How many shapes of as many magnitudes and the same sum come after one: those with a larger first magnitude, of
-- which there are as many as shapes whose sum is less by that magnitude, and those with the same one and a rest
-- that comes after its rest.
unfoldable pub shapes_after : List ℕ → ℕ
shapes_after [] = 0
shapes_after (i ∷ is) = S (suc (length is)) (sum_of is) + shapes_after is

-- the weight of some coordinates
abbrev pub weight_of : List ℤ → Weight
weight_of x =
    record {
      s = nonzeros_in x;
      k = radius_of x;
      pattern = pattern_index (pattern_in x);
      after = shapes_after (shape_in x);
      sign = sign_index (signs_in x);
    }

-- that of no coordinates
abbrev pub nothing : Weight
nothing = record { s = 0; k = 0; pattern = 0; after = 0; sign = 0 }

-- a weight with a nonzero coordinate in front, of magnitude i and this sign, where `left` coordinates stand after it
abbrev pub extended : Weight → ℕ → Bool → ℕ → Weight
extended behind i negative left =
    record {
      s = behind.s + 1;
      k = i + behind.k;
      pattern = D (behind.s + 1) left + behind.pattern;
      after = S (behind.s + 1) behind.k + behind.after;
      sign = sign_bit negative * B behind.s + behind.sign;
    }

-- a weight with any coordinate in front: a zero adds nothing
abbrev pub in_front : Weight → ℤ → ℕ → Weight
in_front behind c left = cond (is_nonzero c) (extended behind (nat_abs c) (is_negative c) left) behind

-- what is asked for a nonzero coordinate: no nonzero coordinate has no weight, and within lengths to 16 and radii to 32
-- none of the sums is large
pub record Room (behind : Weight) (i : ℕ) (negative : Bool) (left : ℕ) : Type 0 where
  pub none_behind : behind.s ≡ 0 → behind ≡ nothing
  pub some_behind : (behind.s ≡ 0 → ⊥) → 0 < behind.k
  pub left_to : left ≤ 16
  pub s_to : behind.s + 1 ≤ 16
  pub k_to : i + behind.k ≤ 32
  pub pattern_to : D (behind.s + 1) left + behind.pattern ≤ 2 ^ 16
  pub after_to : S (behind.s + 1) behind.k + behind.after ≤ 2 ^ 31
  pub sign_to : sign_bit negative * B behind.s + behind.sign ≤ 2 ^ 16

-- what an index keeps to on the way: it is at most 2^32, and so is the number of blocks of 2^s before it in its range
pub record Summable (w : Weight) (start shapes room signs : ℕ) : Type 0 where
  pub after_below : w.after < shapes
  pub block_to : w.pattern * room + (shapes - 1 - w.after) ≤ 2 ^ 32
  pub index_to : start + (w.pattern * room + (shapes - 1 - w.after)) * signs + w.sign ≤ 2 ^ 32

-- the index that a weight makes up in a shell whose shapes have the field F (docs/RULES.md, "The product index",
-- "Index")
abbrev pub weighed : (ℕ → ℕ → ℕ) → ℕ → ℕ → Weight → ℕ
weighed F l k w = index_from F w.s l k w.pattern (S w.s k - 1 - w.after) w.sign

-- what it keeps to; without nonzero coordinates it is 0
pub record Weighable (F : ℕ → ℕ → ℕ) (l k : ℕ) (w : Weight) : Type 0 where
  pub s_to_length : w.s ≤ l
  pub s_to_radius : w.s ≤ k
  pub none : w.s ≡ 0 → 0 ≡ weighed F l k w
  pub sums : Summable w (range_start F w.s l k) (S w.s k) (F w.s k) (B w.s)
