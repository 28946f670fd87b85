-- It adds to each number what the definitions say, with D(2,l) and S(2,k) as formulas.
use Prim.Native.Nat.{ℕ, ◌+◌}
use mathlib.Core.Path.{refl, sym, ap}
use Rattle.weighing.proofs.Few.{D_two, S_two}
use Rattle.weighing.proofs.Growth.{same_weight}
use Rattle.weighing.proofs.inner.with_one_other.Goals as goal

pub returns : goal.returns
returns c =
    let a = c.args in
    rw c.requires.2
    (same_weight
    refl
    refl
    (ap (λ (n : ℕ). n + a.behind.pattern) (sym (D_two a.left.0)))
    (ap (λ (n : ℕ). n + a.behind.after) (S_two a.behind.k c.requires.1))
    (ap (λ (n : ℕ). n + a.behind.sign) c.sign_weight.ensures))
