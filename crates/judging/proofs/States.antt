-- What the answer of a cell goes by, as the code tests its state.
use Prim.Native.Nat.{ℕ}
use mathlib.Core.List.{List}
use mathlib.Core.Path.{◌≡◌, refl, sym}
use Rattle.layout.specs.Layout.{Cell}
use Rattle.laws.proofs.CellRule.{by_state_else}
use Rattle.rules.specs.Judging.{judge_record, judge}
use Rattle.rules.specs.declared.Judged.TheVariants as judged

module _ (mode : ℕ) (row : List ℕ) (c : Cell) where
  pub judges_missing : c.state ≡ 0 → judged.Missing ≡ judge mode row c
  unfolding judge
  judges_missing h = rw h refl

  pub judges_held : c.state ≡ 1 → judge_record mode row c.bytes ≡ judge mode row c
  unfolding judge
  judges_held h = rw h refl

  pub judges_contested : (c.state ≡ 0 → ⊥) → (c.state ≡ 1 → ⊥) → judged.Contested ≡ judge mode row c
  unfolding judge
  judges_contested a b = sym (by_state_else c.state judged.Missing (judge_record mode row c.bytes) judged.Contested a b)
