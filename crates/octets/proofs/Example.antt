-- Every line of the example holds by computation.
use mathlib.Core.Path.{refl}
use Rattle.octets.specs.Example.{Example}

pub example : Example
example =
    record {
      written_1 = refl;
      written_2 = refl;
      written_4 = refl;
      written_low = refl;
      read_1 = refl;
      read_2 = refl;
      read_4 = refl;
      read_largest = refl;
    }
