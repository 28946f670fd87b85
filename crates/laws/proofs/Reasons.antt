-- The answers of each mode, whatever the row and the cell: 10, 14 and 15 are the reasons of an unreadable place, and in
-- plain mode 6; nothing is mended there. No reader, no tally and no line has another one to tell. That a held record is
-- of the row is a matter of refusal 12 alone.
use Prim.Native.Nat.{ℕ}
use mathlib.Core.List.{List}
use mathlib.Core.Path.{◌≡◌}
use native.Mathlib.Omega.{arith}
use Rattle.layout.specs.Layout.{Cell}
use Rattle.rules.specs.Judging.{judge, reason_number, reason_of, AnswerIn}
use Rattle.rules.specs.declared.Judged.{Judged}
use Rattle.rules.specs.declared.Judged.TheVariants as judged
use Rattle.rules.specs.declared.Reason.{Reason}
use Rattle.rules.specs.declared.Reason.TheVariants as reason
use Rattle.laws.proofs.InEachCase.{in_each}

pub answer_in : (mode : ℕ) (row : List ℕ) (c : Cell) → AnswerIn mode (judge mode row c)
answer_in mode row c =
    in_each row c mode (AnswerIn mode)
    (record {
      missing = tt;
      contested = tt;
      no_radius_lem = tt;
      too_wide_lem = tt;
      past_end_lem = λ is inside above. is;
      empty_shape = tt;
      sound = λ h below named. tt;
      mended = λ is h inside above named. is;
    })

-- 9 is no reason
reason_not_nine : (why : Reason) → reason_number why ≡ 9 → ⊥
reason_not_nine reason.NoSuchRadius e = omega arith
reason_not_nine reason.TooWide e = omega arith
reason_not_nine (reason.PastEnd d) e = omega arith
reason_not_nine reason.EmptyShape e = omega arith

pub no_nine : (j : Judged) → reason_of j ≡ 9 → ⊥
no_nine (judged.Sound k n) e = omega arith
no_nine (judged.Mended k n d) e = omega arith
no_nine judged.Missing e = omega arith
no_nine judged.Contested e = omega arith
no_nine (judged.Unreadable why) e = reason_not_nine why e
