-- What an iterator of magnitudes sums up to is the radius.
use Rattle.std.specs.Prelude.{ℕ, ◌+◌, ◌≡◌, List, [], ◌∷◌, sum, map, refl, ℤ, nat_abs}
use Rattle.std.proofs.Common.{ap, ◌∙◌}
use Rattle.std.proofs.lemmas.List.Sums.{sum_by-cons}
use Rattle.enumeration.specs.Point.{sum_of, radius_of}

same_sum : (is : List ℕ) → sum is ≡ sum_of is
same_sum [] = refl
same_sum (i ∷ is) = sum_by-cons (λ n. n) i is ∙ ap (λ n. i + n) (same_sum is)

pub sum_is_radius : (x : List ℤ) → sum (map nat_abs x) ≡ radius_of x
sum_is_radius x = same_sum (map nat_abs x)
