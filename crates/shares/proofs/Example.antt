-- Every line of the example holds by computation.
use mathlib.Core.Path.{refl}
use Rattle.shares.specs.Best.{first_best}
use Rattle.shares.specs.Shares.{largest, give, shared}
use Rattle.shares.specs.Example.{Example}

pub example : Example
unfolding first_best largest give shared
example =
    record { wholes = refl; rests = refl; larger_rests = refl; lower_first = refl; none_left = refl; of_zero = refl; radius_0 = refl }
