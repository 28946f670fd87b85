-- What stands in a mapped list.
use Prim.Native.Nat.{ℕ, zero, suc, ◌<◌}
use mathlib.Core.Path.{◌≡◌, refl}
use mathlib.Core.List.{List, [], ◌∷◌, map}
use native.Mathlib.Omega.{arith}
use lib.ListN.{length, get_or}

pub read_map : {A B : Type 0} (f : A → B) (xs : List A) (i : ℕ) (d : A) (e : B) → i < length xs → get_or (map f xs) i e ≡ f (get_or xs i d)
read_map f [] i d e h = absurd (omega arith)
read_map f (x ∷ xs) zero d e h = refl
read_map f (x ∷ xs) (suc i) d e h = read_map f xs i d e (omega arith)
