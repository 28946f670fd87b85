-- `product::inner::read::first_magnitude` is the first magnitude and the number of the shape that is left: the last
-- magnitude is all that is left to sum to, and the one before it one more than the number of the shape.
use mathlib.Core.Path.{sym}
use native.Mathlib.Nat.{le_refl}
use native.Mathlib.Omega.{arith}
use Rattle.enumeration.proofs.Shapes.{first_read, last_read, second_read}
use Rattle.product.proofs.inner.read.first_magnitude.Goals as goal

pub returns-in-0 : goal.returns-in-0
returns-in-0 c =
    let last = last_read c.args.radius.0 c.args.shape (rw c.in-0.is at c.requires.2) in
    rw c.in-0.is (sym last.0, sym last.1, le_refl c.args.radius.0)

pub returns-in-1 : goal.returns-in-1
returns-in-1 c =
    let below = rw c.in-1.is at c.requires.2 in
    let second = second_read c.args.radius.0 c.args.shape below in
    rw c.in-1.is
    (omega (arith, second.0), sym second.1, omega (arith, second.0, (first_read 1 c.args.radius.0 c.args.shape below).to_sum))
