-- An index that names a point of a row, asked of the numbering of that row's shell.
use Prim.Native.Nat.{ℕ}
use mathlib.Core.Bool.{Bool}
use mathlib.Core.List.{List}
use mathlib.Core.Path.{ap, ◌∙◌}
use Rattle.numbering.proofs.OfRow.{total_of, names_of}
use Rattle.numbering.specs.Numbered.{IsOfRow, Names}
use Rattle.numbering.specs.declared.inner.Numbering.{Numbering}
use Rattle.rules.specs.Judging.{NamesPoint}

pub names_by : {m : Numbering} {row : List ℕ} {k n : ℕ} → IsOfRow m row k → NamesPoint row k n → Names m n
names_by {n = n} of_row names =
    record {
      below = rw (total_of of_row) names.below;
      named = ap (λ (f : ℕ → Bool). f n) (names_of of_row) ∙ names.named;
    }
