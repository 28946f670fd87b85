-- What falls with each call of `text::inner::fields::write_digits` by itself: the number.
use Rattle.text.proofs.inner.fields.+write_digits.Given as goal

abbrev pub decreases-write_digits : goal.decreases-write_digits
decreases-write_digits l = l.n
