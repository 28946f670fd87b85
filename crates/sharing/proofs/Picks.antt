-- What a pick of the largest remainder leaves: the remainder is spent, its coordinate has one more, and every other one
-- is as it was.
use Prim.Native.Nat.{ℕ, suc, ◌<◌}
use mathlib.Core.Path.{◌≡◌}
use mathlib.Core.List.{List}
use lib.ListN.{length, get_or}
use lib.Seq.{get_or-set_same, get_or-set_other}
use Rattle.shares.specs.Shares.{largest, spent, one_more}

pub spent_at : (rests : List ℕ) → largest rests < length rests → get_or (spent rests) (largest rests) 0 ≡ 0
spent_at rests below = get_or-set_same rests (largest rests) 0 0 below

pub more_at : (rests shares : List ℕ) → largest rests < length shares → get_or (one_more rests shares) (largest rests) 0 ≡ suc (get_or shares (largest rests) 0)
more_at rests shares below = get_or-set_same shares (largest rests) (suc (get_or shares (largest rests) 0)) 0 below

module _ (rests shares : List ℕ) (i : ℕ) (other : i ≡ largest rests → ⊥) where
  pub spent_other : get_or (spent rests) i 0 ≡ get_or rests i 0
  spent_other = get_or-set_other rests (largest rests) i 0 0 other

  pub more_other : get_or (one_more rests shares) i 0 ≡ get_or shares i 0
  more_other = get_or-set_other shares (largest rests) i (suc (get_or shares (largest rests) 0)) 0 other
