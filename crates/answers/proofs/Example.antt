-- Every line of the example holds by computation.
use mathlib.Core.Path.{refl}
use Rattle.answers.specs.Example.{Example}

pub example : Example
example =
    record {
      first_told = refl;
      second_told = refl;
      answered = refl;
      refused_leaves = refl;
      answered_leaves = refl;
      number_told = refl;
      lowest_named = refl;
      none_named = refl;
      shorter = refl;
      right = refl;
      longer = refl;
      refused_4 = refl;
      no_fault = refl;
      a_fault = refl;
      none_of_two = refl;
      refusal_1 = refl;
      refusal_2 = refl;
      refusal_3 = refl;
      refusal_4 = refl;
      refusal_5 = refl;
      refusal_6 = refl;
      refusal_7 = refl;
      refusal_8 = refl;
      refusal_9 = refl;
      refusal_11 = refl;
      refusal_11_at = refl;
      refusal_12 = refl;
      refusal_12_at = refl;
      refusal_13 = refl;
      refusal_15 = refl;
      refusal_16 = refl;
      refusal_17 = refl;
      refusal_20 = refl;
      distance_named = refl;
      row_named = refl;
      coordinate_named = refl;
      place_named_lem = refl;
      nothing_named = refl;
      one_named = refl;
      two_named = refl;
      names_none = refl;
      names_one = refl;
      names_two = refl;
      number_printed = refl;
      row_not_printed = refl;
      two_printed = refl;
    }
