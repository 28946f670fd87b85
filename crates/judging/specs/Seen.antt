-- What is seen of a cell: its answer, and what was found of it on the way.
use Rattle.std.specs.Prelude.{ℕ, List, ◌≡◌}
use Rattle.numbering.specs.Numbered.{FoundIn}
use Rattle.product.specs.declared.inner.range.Found.{Found}
use Rattle.layout.specs.Layout.{Cell}
use Rattle.rules.specs.Judging.{judge}
use Rattle.rules.specs.declared.Judged.{Judged}
use Rattle.rules.specs.declared.Judged.TheVariants as judged
use Rattle.judging.specs.declared.inner.Seen.{Seen}

-- nothing was found
abbrev pub Nowhere : Found → Type 0
Nowhere found = (found.s ≡ 0) × (found.start ≡ 0)

-- what was found serves to show the answer: of a sound place, where its index stands; of the others nothing was found
abbrev pub Handed : List ℕ → Judged → Found → Type 0
Handed row (judged.Sound k n) found = FoundIn row k n found
Handed row (judged.Mended k n d) found = Nowhere found
Handed row judged.Missing found = Nowhere found
Handed row judged.Contested found = Nowhere found
Handed row (judged.Unreadable why) found = Nowhere found

-- an answer that asks for nothing found
abbrev pub NotSound : Judged → Type 0
NotSound (judged.Sound k n) = ⊥
NotSound (judged.Mended k n d) = Unit {0}
NotSound judged.Missing = Unit {0}
NotSound judged.Contested = Unit {0}
NotSound (judged.Unreadable why) = Unit {0}

-- the answer of the cell c in its row, in this mode, and what was found
pub record Sees (mode : ℕ) (row : List ℕ) (c : Cell) (seen : Seen) : Type 0 where
  pub is_judged : seen.judged ≡ judge mode row c
  pub handed : Handed row seen.judged seen.found
