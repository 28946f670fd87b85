-- At each turn the weight is that of what has been gone through, from the end.
use Rattle.weighing.proofs.Growth.{GoneThrough}
use Rattle.weighing.proofs.inner.weight_of.Given as goal

abbrev pub invariant-loop-left : goal.invariant-loop-left
invariant-loop-left l = GoneThrough l.x l.left-iterator.iter.iter.rest.now l.left-iterator.count l.weight
