-- Magnitudes with signs, as many of each: the list is as long, its magnitudes are those, and each coordinate has its
-- own sign and magnitude.
use Prim.Native.Nat.{ℕ, zero, suc, ◌<◌}
use mathlib.Core.Path.{◌≡◌, refl, ap}
use mathlib.Core.List.{List, [], ◌∷◌, map}
use mathlib.Core.Bool.{Bool, false}
use native.Mathlib.Omega.{arith}
use lib.IntN.{pos, nat_abs}
use lib.ListN.{length, get_or}
use Rattle.enumeration.specs.Point.{signed}
use Rattle.enumeration.specs.Reading.{sign_all}
use Rattle.enumeration.proofs.Spread.{signed_magnitude}

pub signed_length : (bs : List Bool) (is : List ℕ) → length is ≡ length bs → length (sign_all bs is) ≡ length bs
signed_length [] is same = refl
signed_length (b ∷ bs) [] same = absurd (omega arith)
signed_length (b ∷ bs) (i ∷ is) same = ap suc (signed_length bs is (omega arith))

pub signed_magnitudes : (bs : List Bool) (is : List ℕ) → length is ≡ length bs → map nat_abs (sign_all bs is) ≡ is
signed_magnitudes [] [] same = refl
signed_magnitudes [] (i ∷ is) same = absurd (omega arith)
signed_magnitudes (b ∷ bs) [] same = absurd (omega arith)
signed_magnitudes (b ∷ bs) (i ∷ is) same = rw (signed_magnitude b i, signed_magnitudes bs is (omega arith))

pub signed_at : (bs : List Bool) (is : List ℕ) (n : ℕ) → n < length bs → length is ≡ length bs
    → get_or (sign_all bs is) n (pos 0) ≡ signed (get_or bs n false) (get_or is n 0)
signed_at [] is n h same = absurd (omega arith)
signed_at (b ∷ bs) [] n h same = absurd (omega arith)
signed_at (b ∷ bs) (i ∷ is) zero h same = refl
signed_at (b ∷ bs) (i ∷ is) (suc n) h same = signed_at bs is n (omega arith) (omega arith)
