-- The answer of a cell by its cases (docs/RULES.md, "Reading a place"): what holds of the answer in each of them holds
-- of the answer, whatever the mode, the row and the cell.
use Prim.Native.Nat.{ℕ, zero, suc, ◌^◌, ◌≤◌, ◌<◌}
use mathlib.Core.Bool.{Bool, true, false, not, ◌&&◌}
use mathlib.Core.List.{List}
use mathlib.Core.Path.{◌≡◌, refl}
use lib.Dec.{leb, ltb}
use borrow.Author.Tests.{leb-false, ltb-true, ltb-false}
use Rattle.answers.specs.Checks.{pick}
use Rattle.counts.specs.Distance.{distance}
use Rattle.counts.specs.Width.{width}
use Rattle.tables.specs.Row.{radii_of, radius_at, shell_total}
use Rattle.records.specs.Record.{radius_number_in, codeword_in}
use Rattle.layout.specs.Layout.{Cell}
use Rattle.rules.specs.Modes.{is_plain}
use Rattle.rules.specs.Taking.{by_state}
use Rattle.rules.specs.Judging.{mended_index, mended_as, judge_codeword, index_names, judge_record, judge}
use Rattle.rules.specs.declared.Judged.{Judged}
use Rattle.rules.specs.declared.Judged.TheVariants as judged
use Rattle.rules.specs.declared.Reason.TheVariants as reason

module _ (row : List ℕ) (c : Cell) where
  -- what a record is judged by: its radius number, the radius, the total of that shell, and the codeword
  abbrev pub radius_number : ℕ
  radius_number = radius_number_in c.bytes

  abbrev pub radius : ℕ
  radius = radius_at row radius_number

  abbrev pub total : ℕ
  total = shell_total row radius

  abbrev pub codeword : ℕ
  codeword = codeword_in c.bytes

  pub record EachCase (mode : ℕ) (P : Judged → Type 0) : Type 0 where
    pub missing : P judged.Missing
    pub contested : P judged.Contested
    pub no_radius_lem : P (judged.Unreadable reason.NoSuchRadius)
    pub too_wide_lem : P (judged.Unreadable reason.TooWide)
    pub past_end_lem : is_plain mode ≡ true → codeword < 2 ^ width total → total ≤ codeword
        → P (judged.Unreadable (reason.PastEnd (distance total codeword)))
    pub empty_shape : P (judged.Unreadable reason.EmptyShape)
    pub sound : radius_number < radii_of row → codeword < total → index_names row radius codeword ≡ true → P (judged.Sound radius codeword)
    pub mended : is_plain mode ≡ false → radius_number < radii_of row → codeword < 2 ^ width total → total ≤ codeword
        → index_names row radius (mended_index total codeword) ≡ true → P (mended_as total radius codeword)

  module _ (mode : ℕ) (P : Judged → Type 0) (each : EachCase mode P) where
    -- below the total, or from it on, with the index n left
    index_case : (n : ℕ) {answer : Judged} → (index_names row radius n ≡ true → P answer)
        → P (pick (not (index_names row radius n)) (judged.Unreadable reason.EmptyShape) answer)
    index_case n {answer} named = go (index_names row radius n) refl
      where
        go : (b : Bool) → index_names row radius n ≡ b → P (pick (not b) (judged.Unreadable reason.EmptyShape) answer)
        go true e = named e
        go false e = each.empty_shape

    codeword_case : radius_number < radii_of row → P (judge_codeword mode (index_names row radius) total radius codeword)
    unfolding judge_codeword
    codeword_case h = go (leb (2 ^ width total) codeword) (is_plain mode) (ltb codeword total) refl refl refl
      where
        go : (a p b : Bool) → leb (2 ^ width total) codeword ≡ a → is_plain mode ≡ p → ltb codeword total ≡ b
            → P (pick a (judged.Unreadable reason.TooWide)
            (pick (p && not b) (judged.Unreadable (reason.PastEnd (distance total codeword)))
            (pick (not (index_names row radius (pick b codeword (mended_index total codeword)))) (judged.Unreadable reason.EmptyShape)
            (pick b (judged.Sound radius codeword) (mended_as total radius codeword)))))
        go true p b e is f = each.too_wide_lem
        go false true true e is f = index_case codeword (each.sound h (ltb-true codeword total f))
        go false false true e is f = index_case codeword (each.sound h (ltb-true codeword total f))
        go false true false e is f = each.past_end_lem is (leb-false (2 ^ width total) codeword e) (ltb-false codeword total f)
        go false false false e is f =
            index_case (mended_index total codeword)
            (each.mended is h (leb-false (2 ^ width total) codeword e) (ltb-false codeword total f))

    record_case : P (judge_record mode row c.bytes)
    unfolding judge_record
    record_case = go (leb (radii_of row) radius_number) refl
      where
        go : (b : Bool) → leb (radii_of row) radius_number ≡ b
            → P (pick b (judged.Unreadable reason.NoSuchRadius) (judge_codeword mode (index_names row radius) total radius codeword))
        go true e = each.no_radius_lem
        go false e = codeword_case (leb-false (radii_of row) radius_number e)

    pub in_each : P (judge mode row c)
    unfolding judge
    in_each = go c.state
      where
        go : (s : ℕ) → P (by_state s judged.Missing (judge_record mode row c.bytes) judged.Contested)
        go zero = each.missing
        go (suc zero) = record_case
        go (suc (suc s)) = each.contested
