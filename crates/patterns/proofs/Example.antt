-- Every line of the example holds by computation.
use mathlib.Core.Path.{refl}
use Rattle.counts.specs.Counts.{binomial, D}
use Rattle.patterns.specs.Words.{together, stored}
use Rattle.patterns.specs.Example.{Example}

pub example : Example
unfolding binomial D together stored
example = record { one_two = refl; word_10 = refl; word_81 = refl }
