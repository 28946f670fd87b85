-- `shares::inner::share` divides, and gives what is left of the radius to the largest remainders.
use Rattle.shares.proofs.Divided.{summable, sum_fits, givable, given}
use Rattle.shares.proofs.inner.share.Goals as goal

pub sum-requires : goal.sum-requires
sum-requires c = summable c.requires c.divide.ensures

pub overflow_sub-units : goal.overflow_sub-units
overflow_sub-units c = sum_fits c.requires c.divide.ensures c.sum.ensures.0

pub give-requires : goal.give-requires
give-requires c = givable c.requires c.divide.ensures c.sum.ensures.0

pub returns : goal.returns
returns c = given c.requires c.divide.ensures c.sum.ensures.0 c.give.ensures
