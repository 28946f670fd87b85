-- D is what stands at its place in its word.
use Prim.Native.Nat.{◌*◌, ◌/◌, ◌%◌, ◌^◌}
use mathlib.Core.Path.{ap, ◌∙◌}
use native.Mathlib.Omega.{arith}
use Rattle.patterns.proofs.Words.{stored_at}
use Rattle.patterns.proofs.inner.look_up.Goals as goal

pub returns : goal.returns
returns c =
    let a = c.args in
    ap (λ x. x / 2 ^ (a.s % 4 * 16) % 65536) c.word-four.ensures ∙ stored_at a.s a.l (omega arith) (omega arith)
