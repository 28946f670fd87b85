-- Demand 3 b: what came for a place is one of three cases, and from an empty page on each has its cell and its
-- answer.
use Prim.Native.Nat.{ℕ, ◌<◌}
use mathlib.Core.Path.{◌≡◌, refl, sym, ap, ◌∙◌}
use mathlib.Core.List.Memᴰ
use mathlib.Core.List.{List, [], ◌∷◌, Memᴰ}
use mathlib.Core.Bool.{Bool, true, false, false≢true}
use mathlib.Core.Logic.{inl, inr, ⊎_elim}
use lib.IntN.{pos}
use lib.ListN.{replicate}
use Rattle.tables.specs.BookNumbers.{GoodBooks}
use Rattle.tables.specs.Table.{places_in, row_for, length_for}
use Rattle.records.specs.Record.{same_bytes}
use Rattle.records.proofs.Same.{bytes_same, differ_bytes}
use Rattle.layout.specs.Layout.{Cell, cells_of, empty_cell}
use Rattle.layout.specs.declared.Layout.TheVariants as layouts
use Rattle.layout.proofs.Cells.{empty_cell_lem}
use Rattle.rules.specs.Taking.{claims, cell_number, cell_for, held_cell, contested_cell, empty, grown, Nobody}
use Rattle.rules.specs.Judging.{judge}
use Rattle.rules.specs.declared.Judged.TheVariants as judged
use Rattle.laws.proofs.CellAfter.{cell_after, cell_after_lem}
use Rattle.laws.proofs.CellAfter as laws
use Rattle.laws.proofs.Claims.{cell_in_lem}
use Rattle.laws.proofs.Grown.{empty_ready}
use Rattle.channel.specs.Demand3.{OnlyCame, TwoDiffer, WhatCame, CellTold}
use Rattle.channel.proofs.Reading.{grown_reads}

-- ---- one more arrival
module _ (t : List ℕ) (books book p : ℕ) (x : List ℕ) (xs : List (List ℕ)) where
  -- what is said of the first and of those behind it is said of all
  of_each : {A : List ℕ → Type 0} → ((z : List ℕ) → z ≡ x → A z) → ((z : List ℕ) → Memᴰ z xs → A z) → (z : List ℕ) → Memᴰ z (x ∷ xs) → A z
  of_each first behind z m = ⊎_elim (first z) (behind z) (Memᴰ.cases_cons m)

  still_differ : TwoDiffer t books xs book p → TwoDiffer t books (x ∷ xs) book p
  still_differ d = record {
    one = d.one;
    one_among = Memᴰ.tail d.one_among;
    one_claiming = d.one_claiming;
    other = d.other;
    other_among = Memᴰ.tail d.other_among;
    other_claiming = d.other_claiming;
    differ = d.differ;
  }

  -- it claims p
  module _ (e : claims t books x book p ≡ true) where
    first_claims : Nobody t books xs book p → OnlyCame t books (x ∷ xs) book p x
    first_claims none = record {
      among = Memᴰ.head refl;
      claiming = e;
      equal = of_each (λ z same f. same) (λ z m f. absurd (false≢true (sym (none z m) ∙ f)));
    }

    once_more : (y : List ℕ) → OnlyCame t books xs book p y → (b : Bool) → same_bytes x y ≡ b → WhatCame t books (x ∷ xs) book p
    once_more y all true same =
        let is = bytes_same x y same in
        inr
        (inl (
          y,
          record {
            among = Memᴰ.tail all.among;
            claiming = all.claiming;
            equal = of_each (λ z first f. first ∙ is) all.equal;
          },
        ))
    once_more y all false apart =
        inr
        (inr
        (record {
          one = x;
          one_among = Memᴰ.head refl;
          one_claiming = e;
          other = y;
          other_among = Memᴰ.tail all.among;
          other_claiming = all.claiming;
          differ = differ_bytes x y apart;
        }))

    claimed : WhatCame t books xs book p → WhatCame t books (x ∷ xs) book p
    claimed (inl none) = inr (inl (x, first_claims none))
    claimed (inr (inl (y, all))) = once_more y all (same_bytes x y) refl
    claimed (inr (inr d)) = inr (inr (still_differ d))

  -- it does not
  module _ (e : claims t books x book p ≡ false) where
    not_x : (z : List ℕ) → z ≡ x → claims t books z book p ≡ false
    not_x z same = ap (λ (u : List ℕ). claims t books u book p) same ∙ e

    passed : WhatCame t books xs book p → WhatCame t books (x ∷ xs) book p
    passed (inl none) = inl (of_each not_x none)
    passed (inr (inl (y, all))) =
        inr
        (inl (
          y,
          record {
            among = Memᴰ.tail all.among;
            claiming = all.claiming;
            equal = of_each (λ z same f. absurd (false≢true (sym (not_x z same) ∙ f))) all.equal;
          },
        ))
    passed (inr (inr d)) = inr (inr (still_differ d))

pub which_came : (t : List ℕ) (books book p : ℕ) (xs : List (List ℕ)) → WhatCame t books xs book p
which_came t books book p [] = inl (λ x m. absurd (Memᴰ.not-nil m))
which_came t books book p (x ∷ xs) = go (claims t books x book p) refl (which_came t books book p xs)
  where
    go : (b : Bool) → claims t books x book p ≡ b → WhatCame t books xs book p → WhatCame t books (x ∷ xs) book p
    go true e = claimed t books book p x xs e
    go false e = passed t books book p x xs e

-- ---- the cell
module _ (t : List ℕ) (books : ℕ) (good : GoodBooks t books) (xs : List (List ℕ)) (book p : ℕ) (k : book < books) (h : p < places_in t) where
  cell_of_lem : cell_for t (grown t books xs) book p ≡ cell_after t books book p empty_cell xs
  cell_of_lem =
      cell_after_lem t books (empty t books) xs (empty_ready t books good) book p k h
      ∙ ap (λ (c : Cell). cell_after t books book p c xs) (empty_cell_lem layouts.CellByCell (cells_of (places_in t) books) (cell_number t book p) (cell_in_lem t books book p k h))

  pub nobody_cell : Nobody t books xs book p → cell_for t (grown t books xs) book p ≡ empty_cell
  nobody_cell none = cell_of_lem ∙ laws.nobody t books book p xs empty_cell none

  pub equal_cell : (y : List ℕ) → OnlyCame t books xs book p y → cell_for t (grown t books xs) book p ≡ held_cell y
  equal_cell y all = cell_of_lem ∙ laws.all_equal t books book p xs empty_cell y refl all.among all.claiming all.equal

  pub differ_cell : TwoDiffer t books xs book p → cell_for t (grown t books xs) book p ≡ contested_cell
  differ_cell d =
      cell_of_lem
      ∙ laws.two_differ t books book p xs empty_cell d.one d.other refl d.one_among d.one_claiming d.other_among d.other_claiming d.differ

  pub cell_told : CellTold t books xs book p
  unfolding judge
  cell_told = record {
    what_came = which_came t books book p xs;
    nobody = nobody_cell;
    all_equal = equal_cell;
    two_differ = differ_cell;
    missing = λ none mode known.
        grown_reads mode known t books good xs book p k h judged.Missing (replicate (length_for t p) (pos 0)) (ap (judge mode (row_for t p)) (nobody_cell none)) refl;
    contested = λ d mode known.
        grown_reads mode known t books good xs book p k h judged.Contested (replicate (length_for t p) (pos 0)) (ap (judge mode (row_for t p)) (differ_cell d)) refl;
  }
