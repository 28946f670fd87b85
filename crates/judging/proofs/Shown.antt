-- What is seen of a cell in a good row can be shown: a point of a usable shell of the row, or none.
use Prim.Native.Nat.{ℕ}
use mathlib.Core.List.{List}
use Rattle.layout.specs.Layout.{Cell}
use Rattle.laws.proofs.Shows.{judge_shows}
use Rattle.rules.specs.Judging.{Shows}
use Rattle.tables.proofs.GoodRow.{row_lawful}
use Rattle.tables.specs.Row.{IsRow}
use Rattle.judging.specs.Seen.{Sees}
use Rattle.judging.specs.declared.inner.Seen.{Seen}

pub seen_shows : (mode : ℕ) (row : List ℕ) (c : Cell) {seen : Seen} → IsRow row → Sees mode row c seen → Shows row seen.judged
seen_shows mode row c is_row sees = rw sees.is_judged (judge_shows mode row (row_lawful row) is_row.row_good c)
