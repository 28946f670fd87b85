-- What a nonzero coordinate adds to nothing: D(1,l) is l, and S(1,0) is 0.
use mathlib.Core.Path.{refl}
use native.Mathlib.Omega.{arith}
use Rattle.counts.proofs.Pascal.{S_small}
use Rattle.weighing.proofs.Few.{D_one}
use Rattle.weighing.proofs.Growth.{same_weight}
use Rattle.weighing.proofs.inner.last_nonzero.Goals as goal

pub returns : goal.returns
returns c =
    same_weight
    refl
    (omega arith)
    (omega (arith, D_one c.args.left.0))
    (omega (arith, S_small 1 0 (omega arith)))
    (omega (arith, c.sign_weight.ensures))
