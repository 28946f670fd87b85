-- Demand 3 e: what a place shows is what came for it, once or several times, and nothing else did.
use Prim.Native.Nat.{ℕ, ◌<◌}
use mathlib.Core.Path.{◌≡◌, refl, ap}
use mathlib.Core.Bool.{false}
use mathlib.Core.List.{List, [], ◌∷◌, ◌++◌}
use mathlib.Core.Logic.{inl, inr}
use native.Mathlib.Omega.{arith}
use lib.Dec.{lit<}
use lib.ListN.{get_or}
use Rattle.answers.specs.Checks.{Check, first_of}
use Rattle.answers.proofs.InOrder.{Numbered, passes_apart}
use Rattle.tables.specs.BookNumbers.{GoodBooks}
use Rattle.tables.specs.Table.{places_in, row_for}
use Rattle.layout.specs.Layout.{Cell}
use Rattle.rules.specs.Modes.{no_such_mode}
use Rattle.rules.specs.Taking.{held_cell, grown}
use Rattle.rules.specs.Judging.{judge, judge_at, answer_number, shown}
use Rattle.rules.specs.Reading.{look_checks, told}
use Rattle.laws.proofs.Pages.{look_shared, look_place}
use Rattle.channel.specs.Demand3.{WhatCame, ShowsPoint, OnlySent, ReadOnlySent, ValuedOnlySent}
use Rattle.channel.proofs.Reading.{reader_told, read_behind, value_behind, read_numbered, value_numbered, grown_reads}
use Rattle.channel.proofs.ThreeCases.{which_came, nobody_cell, equal_cell, differ_cell}

module _ (mode : ℕ) (t : List ℕ) (books : ℕ) (xs : List (List ℕ)) (book p : ℕ) where
  -- a place that is missing or contested shows nothing
  only_equal : no_such_mode mode ≡ false → GoodBooks t books → book < books → p < places_in t → answer_number (judge_at mode t (grown t books xs) book p) < 2 → WhatCame t books xs book p → OnlySent mode t books xs book p
  unfolding judge
  only_equal known good k h shows (inl none) =
      absurd (omega (arith, ap (λ (c : Cell). answer_number (judge mode (row_for t p) c)) (nobody_cell t books good xs book p k h none)))
  only_equal known good k h shows (inr (inl (y, all))) =
      let j = judge mode (row_for t p) (held_cell y) in
      record {
        arrived = y;
        all_equal = all;
        its_point = (grown_reads mode known t books good xs book p k h j (shown (row_for t p) j) (ap (judge mode (row_for t p)) (equal_cell t books good xs book p k h y all)) refl).read_leaves_lem;
      }
  only_equal known good k h shows (inr (inr two)) =
      absurd (omega (arith, ap (λ (c : Cell). answer_number (judge mode (row_for t p) c)) (differ_cell t books good xs book p k h two)))

  -- where either reader shows a point, sound and mended being the first two answers
  answered : (rest : List Check) → Numbered rest → (values : List ℕ) → get_or values 0 0 < 2
      → first_of (look_checks mode t books book (grown t books xs) p ++ rest) (told (judge_at mode t (grown t books xs) book p)) ≡ 0 ∷ values → OnlySent mode t books xs book p
  answered rest numbered values first_two says =
      let pg = grown t books xs in
      let did = reader_told mode t books book pg p rest numbered values says in
      let look = (passes_apart (look_checks mode t books book pg p) rest did.0).0 in
      let place = look_place mode t books book pg p look in
      let shared = look_shared mode t books book pg p look in
      only_equal look.0 shared.0 shared.1 place.1 (omega (arith, ap (λ (says : List ℕ). get_or says 1 0) did.1)) (which_came t books book p xs)

  by_reader : (rest : List Check) → Numbered rest → ShowsPoint (first_of (look_checks mode t books book (grown t books xs) p ++ rest) (told (judge_at mode t (grown t books xs) book p)))
      → OnlySent mode t books xs book p
  by_reader rest numbered (inl sound) = answered rest numbered (0 ∷ 0 ∷ []) (lit< tt) sound
  by_reader rest numbered (inr (d, mended)) = answered rest numbered (1 ∷ 0 ∷ d ∷ []) (lit< tt) mended

pub read_only_sent : ReadOnlySent
read_only_sent mode t books xs book p out =
    by_reader mode t books xs book p (read_behind t book (grown t books xs) p out) (read_numbered t book (grown t books xs) p out)

pub valued_only_sent : ValuedOnlySent
valued_only_sent mode t books xs book p i =
    by_reader mode t books xs book p (value_behind t book (grown t books xs) p i) (value_numbered t book (grown t books xs) p i)
