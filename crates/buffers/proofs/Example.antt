-- Every line of the example holds by computation.
use mathlib.Core.Path.{refl}
use lib.Dec.{lit≤}
use Rattle.buffers.specs.Example.{Example}
use Rattle.buffers.specs.Joined.{joined}

pub example : Example
unfolding joined
example = record {
  none = refl;
  one = refl;
  both = refl;
  from_0 = refl;
  whole = refl;
  two_of_three = record { ends = refl; made = refl; to = lit≤ tt };
  three_joined = refl;
  none_joined = refl;
}
