-- The text of the whole case and of the numbers at the ends, computed.
use mathlib.Core.Path.{refl}
use Rattle.wording.specs.Text.{decimal, digits_of}
use Rattle.wording.specs.Example.{Example}

pub example : Example
unfolding decimal digits_of
example = record {
  decimal_0 = refl;
  decimal_9 = refl;
  decimal_10 = refl;
  decimal_4095 = refl;
  decimal_largest = refl;
  integer_32 = refl;
  integer_lowest = refl;
  place_0 = refl;
  place_1 = refl;
  past = refl;
  missing = refl;
  contested = refl;
  unreadable = refl;
  last = refl;
  refused = refl;
  refused_at = refl;
}
