-- Every line of the example holds by computation.
use mathlib.Core.Path.{refl}
use Rattle.sharing.specs.Nearest.{sum_of_squares}
use Rattle.sharing.specs.Example.{Example}

pub example : Example
unfolding sum_of_squares
example =
    record {
      short = refl;
      past = refl;
      past_the_other_way = refl;
      other_sign = refl;
      nearest = refl;
      farther = refl;
      wrong_sign = refl;
      shorter = refl;
    }
