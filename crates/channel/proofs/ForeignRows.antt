-- Foreign rows claim nothing, and no place is unreadable for its row: the answer of a cell, whatever the cell, is
-- given no reason but 10, 14, 15 and 6, and the readers, the tally and the lines tell what that answer is.
use Prim.Native.Nat.{ℕ}
use mathlib.Core.Bool.{true}
use mathlib.Core.List.{List, ◌∷◌, ◌++◌}
use mathlib.Core.Logic.{◌⊎◌, inl, inr}
use mathlib.Core.Path.{◌≡◌, refl, ap}
use native.Mathlib.Omega.{arith}
use lib.IntN.{ℤ}
use lib.ListN.{get_or}
use Rattle.answers.specs.Checks.{Check, any_of, fails_of, first_of, Passes}
use Rattle.answers.proofs.InOrder.{Numbered}
use Rattle.tables.specs.Table.{row_of, row_for}
use Rattle.records.specs.Record.{place_in, row_in}
use Rattle.rules.specs.Taking.{cell_for, page_checks, take_leaves}
use Rattle.rules.specs.Judging.{judge_at, answer_number, reason_of, point_named, AnswerIn}
use Rattle.rules.specs.Reading.{look_checks, told}
use Rattle.rules.specs.declared.Judged.{Judged}
use Rattle.rules.specs.declared.Judged.TheVariants as judged
use Rattle.rules.specs.declared.Reason.TheVariants as reason
use Rattle.laws.proofs.Arrivals.{shut_leaves}
use Rattle.laws.proofs.Claims.{claim_is, none_leaves}
use Rattle.laws.proofs.Pages.{ready_or_shut}
use Rattle.laws.proofs.Reasons.{answer_in, no_nine}
use Rattle.wording.specs.Text.{digits_of, decimal, place_text}
use Rattle.reporting.specs.Listing.{line_of}
use Rattle.channel.specs.ForeignRows.{TellsNine, UnreadableFor, ForeignRows}
use Rattle.channel.proofs.Lines.{zeros, same_after}
use Rattle.channel.proofs.Reading.{reader_told, read_behind, value_behind, read_numbered, value_numbered}

-- ---- taking
unmoved : (t : List ℕ) (books : ℕ) (pg x : List ℕ) → (row_in x ≡ row_of t (place_in x) → ⊥) → take_leaves t books pg x ≡ pg
unmoved t books pg x foreign = go (ready_or_shut t books pg)
  where
    go : Passes (page_checks t books pg) ⊎ (any_of (fails_of (page_checks t books pg)) ≡ true) → take_leaves t books pg x ≡ pg
    go (inl ready) = none_leaves t books pg ready x (λ claim. foreign claim.of_row)
    go (inr shut) = shut_leaves t books pg shut x

-- ---- reading
module _ (mode : ℕ) (t : List ℕ) (books book : ℕ) (pg : List ℕ) (p : ℕ) where
  -- the reason that either reader gives is that of the place
  by_reader : (rest : List Check) → Numbered rest → TellsNine (first_of (look_checks mode t books book pg p ++ rest) (told (judge_at mode t pg book p))) → ⊥
  by_reader rest numbered (answer, more, says) =
      no_nine (judge_at mode t pg book p) (ap (λ (ns : List ℕ). get_or ns 2 0) (reader_told mode t books book pg p rest numbered (answer ∷ 9 ∷ more) says).1)

-- ---- the tally
counted : (mode : ℕ) (j : Judged) → AnswerIn mode j → answer_number j ≡ 4 → UnreadableFor mode (reason_of j)
counted mode (judged.Sound k n) r e = absurd (omega arith)
counted mode (judged.Mended k n d) r e = absurd (omega arith)
counted mode judged.Missing r e = absurd (omega arith)
counted mode judged.Contested r e = absurd (omega arith)
counted mode (judged.Unreadable reason.NoSuchRadius) r e = inl refl
counted mode (judged.Unreadable reason.TooWide) r e = inr (inl refl)
counted mode (judged.Unreadable (reason.PastEnd d)) r e = inr (inr (inr (refl, r)))
counted mode (judged.Unreadable reason.EmptyShape) r e = inr (inr (inl refl))

-- ---- lines
other_line : (p : ℕ) (row : List ℕ) (j : Judged) (q : List ℤ) → line_of row p j ≡ place_text p 4 9 q → ⊥
unfolding decimal digits_of
other_line p row (judged.Sound k n) q same = let letter : ◌≡◌ {A = ℕ} 115 117 = same_after p 0 0 4 9 (point_named row k n) q same 1 in omega arith
other_line p row (judged.Mended k n d) q same = let letter : ◌≡◌ {A = ℕ} 109 117 = same_after p 1 d 4 9 (point_named row k n) q same 1 in omega arith
other_line p row judged.Missing q same = let letter : ◌≡◌ {A = ℕ} 109 117 = same_after p 2 0 4 9 (zeros row) q same 1 in omega arith
other_line p row judged.Contested q same = let letter : ◌≡◌ {A = ℕ} 99 117 = same_after p 3 0 4 9 (zeros row) q same 1 in omega arith
other_line p row (judged.Unreadable reason.NoSuchRadius) q same = let digit : ◌≡◌ {A = ℕ} 49 57 = same_after p 4 10 4 9 (zeros row) q same 12 in omega arith
other_line p row (judged.Unreadable reason.TooWide) q same = let digit : ◌≡◌ {A = ℕ} 49 57 = same_after p 4 14 4 9 (zeros row) q same 12 in omega arith
other_line p row (judged.Unreadable (reason.PastEnd d)) q same = let digit : ◌≡◌ {A = ℕ} 54 57 = same_after p 4 6 4 9 (zeros row) q same 12 in omega arith
other_line p row (judged.Unreadable reason.EmptyShape) q same = let digit : ◌≡◌ {A = ℕ} 49 57 = same_after p 4 15 4 9 (zeros row) q same 12 in omega arith

pub foreign_rows : ForeignRows
foreign_rows = record {
  own_row = λ t books x book p claiming. (claim_is t books x book p claiming).of_row;
  changes_nothing = unmoved;
  read = λ mode t books book pg p out. by_reader mode t books book pg p (read_behind t book pg p out) (read_numbered t book pg p out);
  coefficient = λ mode t books book pg p i. by_reader mode t books book pg p (value_behind t book pg p i) (value_numbered t book pg p i);
  tally = λ mode t pg book p. counted mode (judge_at mode t pg book p) (answer_in mode (row_for t p) (cell_for t pg book p));
  line = λ mode t pg book p. other_line p (row_for t p) (judge_at mode t pg book p);
}
