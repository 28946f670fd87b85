-- How far past the end: refusal 6 tells the index that was asked for, and a mended place the codeword that was
-- received, by either reader and by its line; no other place has a distance.
use Prim.Native.Nat.{ℕ, ◌+◌, ◌-◌}
use mathlib.Core.Bool.{true}
use mathlib.Core.List.{List, [], ◌∷◌, ◌++◌}
use mathlib.Core.Logic.{◌⊎◌, inl, inr, ⊎_elim}
use mathlib.Core.Path.{◌≡◌, refl, sym, ap, ◌∙◌, subst}
use native.Mathlib.Omega.{arith}
use lib.IntN.{ℤ}
use lib.ListN.{length, get_or, drop}
use borrow.Author.Tests.{leb-true}
use Rattle.answers.specs.Checks.{Check, Refuses, first_of, Passes}
use Rattle.answers.proofs.InOrder.{Numbered, says_refuses, passes_apart, passes_says, passes_leaves}
use Rattle.enumeration.specs.Enumerations.{selected_by}
use Rattle.counts.specs.Distance.{distance}
use Rattle.tables.specs.Row.{length_of, GoodRow}
use Rattle.tables.specs.Table.{row_for}
use Rattle.tables.proofs.Good.{good_place}
use Rattle.tables.proofs.GoodRow.{row_lawful}
use Rattle.indexing.specs.Calls.{past_end, point_checks, point_says}
use Rattle.rules.specs.Judging.{judge_at, shown, point_named, Shows, TellsCodeword}
use Rattle.rules.specs.Reading.{look_checks, told, point_at, read_says, read_leaves}
use Rattle.rules.specs.Taking.{cell_for}
use Rattle.rules.specs.declared.Judged.{Judged}
use Rattle.rules.specs.declared.Judged.TheVariants as judged
use Rattle.rules.specs.declared.Reason.TheVariants as reason
use Rattle.laws.proofs.Pages.{look_place}
use Rattle.laws.proofs.Shows.{judge_shows, judge_tells}
use Rattle.wording.specs.Text.{place_text}
use Rattle.reporting.specs.Listing.{line_of, line_at}
use Rattle.channel.specs.PastEnd.{mended_says, past_says, TellsReceived, TellsPast, PastEnd}
use Rattle.channel.proofs.Reading.{reader_told, read_behind, value_behind, read_numbered, value_numbered}

-- ---- refusal 6: of the checks of point only one has this number
refused_by : (v l k n b d : ℕ) → Refuses (point_checks v l k n b) 6 (d ∷ [])
    → (past_end n ((selected_by v).total l k) ≡ true) × (distance ((selected_by v).total l k) n ∷ [] ≡ d ∷ [])
refused_by v l k n b d (inl h) = absurd (omega (arith, h.1))
refused_by v l k n b d (inr (_, inl h)) = absurd (omega (arith, h.1))
refused_by v l k n b d (inr (_, inr (_, inl h))) = absurd (omega (arith, h.1))
refused_by v l k n b d (inr (_, inr (_, inr (_, inl h)))) = absurd (omega (arith, h.1))
refused_by v l k n b d (inr (_, inr (_, inr (_, inr (_, inl h))))) = absurd (omega (arith, h.1))
refused_by v l k n b d (inr (_, inr (_, inr (_, inr (_, inr (_, inl h)))))) = (h.0, h.2)
refused_by v l k n b d (inr (_, inr (_, inr (_, inr (_, inr (_, inr (_, inl h))))))) = absurd (omega (arith, h.1))
refused_by v l k n b d (inr (_, inr (_, inr (_, inr (_, inr (_, inr (_, inr h))))))) = absurd h.1

told_index : (v l k n : ℕ) (out : List ℤ) (d : ℕ) → point_says v l k n out ≡ 6 ∷ d ∷ [] → n ≡ (selected_by v).total l k + d
unfolding distance
told_index v l k n out d says =
    let by = refused_by v l k n (length out) d (says_refuses [] (point_checks v l k n (length out)) 5 (d ∷ []) says) in
    let is : n - (selected_by v).total l k ≡ d = ap (λ (vs : List ℕ). get_or vs 0 0) by.1 in
    omega (arith, leb-true ((selected_by v).total l k) n by.0, is)

-- ---- what is told with a distance
-- the item of what is told
item : ℕ → List ℕ → ℕ
item i says = get_or says i 0

-- a mended place
is_mended : (j : Judged) {why d : ℕ} {more : List ℕ} → told j ≡ 0 ∷ 1 ∷ why ∷ d ∷ more → (k : ℕ) × (n : ℕ) × (j ≡ judged.Mended k n d)
unfolding item
is_mended (judged.Sound k n) same = absurd (omega (arith, ap (item 1) same))
is_mended (judged.Mended k n e) same = (k, n, ap (λ (ns : List ℕ). judged.Mended k n (item 3 ns)) same)
is_mended judged.Missing same = absurd (omega (arith, ap (item 1) same))
is_mended judged.Contested same = absurd (omega (arith, ap (item 1) same))
is_mended (judged.Unreadable why) same = absurd (omega (arith, ap (item 1) same))

-- a place that is unreadable for 6
is_past : (j : Judged) {more : List ℕ} → told j ≡ 0 ∷ 4 ∷ 6 ∷ more → (d : ℕ) × (more ≡ d ∷ []) × (j ≡ judged.Unreadable (reason.PastEnd d))
unfolding item
is_past (judged.Sound k n) same = absurd (omega (arith, ap (item 1) same))
is_past (judged.Mended k n e) same = absurd (omega (arith, ap (item 1) same))
is_past judged.Missing same = absurd (omega (arith, ap (item 1) same))
is_past judged.Contested same = absurd (omega (arith, ap (item 1) same))
is_past (judged.Unreadable reason.NoSuchRadius) same = absurd (omega (arith, ap (item 2) same))
is_past (judged.Unreadable reason.TooWide) same = absurd (omega (arith, ap (item 2) same))
is_past (judged.Unreadable (reason.PastEnd d)) same = (d, ap (drop 3) (sym same), refl)
is_past (judged.Unreadable reason.EmptyShape) same = absurd (omega (arith, ap (item 2) same))

-- no other place
is_distant : (j : Judged) {answer why d : ℕ} {more : List ℕ} → told j ≡ 0 ∷ answer ∷ why ∷ d ∷ more → (told j ≡ mended_says d) ⊎ (told j ≡ past_says d)
unfolding item
is_distant (judged.Sound k n) same = absurd (omega (arith, ap length same))
is_distant (judged.Mended k n e) same = inl (ap (λ (ns : List ℕ). mended_says (item 3 ns)) same)
is_distant judged.Missing same = absurd (omega (arith, ap length same))
is_distant judged.Contested same = absurd (omega (arith, ap length same))
is_distant (judged.Unreadable reason.NoSuchRadius) same = absurd (omega (arith, ap length same))
is_distant (judged.Unreadable reason.TooWide) same = absurd (omega (arith, ap length same))
is_distant (judged.Unreadable (reason.PastEnd e)) same = inr (ap (λ (ns : List ℕ). past_says (item 3 ns)) same)
is_distant (judged.Unreadable reason.EmptyShape) same = absurd (omega (arith, ap length same))

-- the point of a mended place is of the radius k and has the index n
received_as : (t pg : List ℕ) (book p k n d : ℕ) → Shows (row_for t p) (judged.Mended k n d)
    → TellsCodeword (row_for t p) (cell_for t pg book p).bytes (judged.Mended k n d) → TellsReceived t pg book p d (point_named (row_for t p) k n)
received_as t pg book p k n d names tells =
    let row = row_for t p in
    let on = (row_lawful row).point_on_shell (length_of row) k n names.below names.named in
    let index = (row_lawful row).index_of_point (length_of row) k n names.below names.named in
    rw (on.of_radius, index) tells

-- either reader, in a mode: `rest` is what it checks behind the place
module _ (mode : ℕ) (t : List ℕ) (books book : ℕ) (pg : List ℕ) (p : ℕ) (rest : List Check) (numbered : Numbered rest) where
  abbrev row : List ℕ
  row = row_for t p

  abbrev judgement : Judged
  judgement = judge_at mode t pg book p

  abbrev saying : List ℕ
  saying = first_of (look_checks mode t books book pg p ++ rest) (told judgement)

  did : (values : List ℕ) → saying ≡ 0 ∷ values → Passes (look_checks mode t books book pg p ++ rest) × (told judgement ≡ 0 ∷ values)
  did = reader_told mode t books book pg p rest numbered

  good : Passes (look_checks mode t books book pg p ++ rest) → GoodRow row
  good passes =
      let place = look_place mode t books book pg p (passes_apart (look_checks mode t books book pg p) rest passes).0 in
      (good_place t p place.0 place.1).1

  tells : Passes (look_checks mode t books book pg p ++ rest) → TellsCodeword row (cell_for t pg book p).bytes judgement
  tells passes = judge_tells mode row (row_lawful row) (good passes) (cell_for t pg book p)

  module _ {d : ℕ} (says : saying ≡ mended_says d) where
    mended : (k : ℕ) × (n : ℕ) × (judgement ≡ judged.Mended k n d)
    mended = is_mended judgement (did (1 ∷ 0 ∷ d ∷ []) says).1

    said_received : TellsReceived t pg book p d (point_at mode t pg book p)
    said_received =
        let passes = (did (1 ∷ 0 ∷ d ∷ []) says).0 in
        let shows = judge_shows mode row (row_lawful row) (good passes) (cell_for t pg book p) in
        subst (λ (j : Judged). TellsReceived t pg book p d (shown row j)) (sym mended.2)
        (received_as t pg book p mended.0 mended.1 d (rw mended.2 at shows) (rw mended.2 at (tells passes)))

    said_line : line_at mode t pg book p ≡ place_text p 1 d (point_at mode t pg book p)
    said_line = subst (λ (j : Judged). line_of row p j ≡ place_text p 1 d (shown row j)) (sym mended.2) refl

  said_past : (more : List ℕ) → saying ≡ 0 ∷ 4 ∷ 6 ∷ more → (d : ℕ) × (more ≡ d ∷ []) × TellsPast t pg book p d
  said_past more says =
      let reads = did (4 ∷ 6 ∷ more) says in
      let past = is_past judgement reads.1 in
      (past.0, past.1, rw past.2 at (tells reads.0))

  said_alone : (answer why d : ℕ) (more : List ℕ) → saying ≡ 0 ∷ answer ∷ why ∷ d ∷ more → (saying ≡ mended_says d) ⊎ (saying ≡ past_says d)
  said_alone answer why d more says =
      let reads = did (answer ∷ why ∷ d ∷ more) says in
      let is = passes_says (told judgement) (look_checks mode t books book pg p ++ rest) reads.0 in
      ⊎_elim (λ mended. inl (is ∙ mended)) (λ past. inr (is ∙ past)) (is_distant judgement reads.1)

-- what read leaves
point_left_lem : (mode : ℕ) (t : List ℕ) (books book : ℕ) (pg : List ℕ) (p : ℕ) (out : List ℤ) (d : ℕ) → read_says mode t books book pg p out ≡ mended_says d
    → read_leaves mode t books book pg p out ≡ point_at mode t pg book p
point_left_lem mode t books book pg p out d says =
    passes_leaves (point_at mode t pg book p) out (look_checks mode t books book pg p ++ read_behind t book pg p out)
    (did mode t books book pg p (read_behind t book pg p out) (read_numbered t book pg p out) (1 ∷ 0 ∷ d ∷ []) says).0

pub past_end_lem : PastEnd
past_end_lem = record {
  refused = told_index;
  read = λ mode t books book pg p out d says.
      rw (point_left_lem mode t books book pg p out d says)
      (said_received mode t books book pg p (read_behind t book pg p out) (read_numbered t book pg p out) says);
  coefficient = λ mode t books book pg p i d. said_received mode t books book pg p (value_behind t book pg p i) (value_numbered t book pg p i);
  read_line = λ mode t books book pg p out d says.
      rw (point_left_lem mode t books book pg p out d says)
      (said_line mode t books book pg p (read_behind t book pg p out) (read_numbered t book pg p out) says);
  read_past = λ mode t books book pg p out. said_past mode t books book pg p (read_behind t book pg p out) (read_numbered t book pg p out);
  coefficient_past = λ mode t books book pg p i. said_past mode t books book pg p (value_behind t book pg p i) (value_numbered t book pg p i);
  read_alone = λ mode t books book pg p out. said_alone mode t books book pg p (read_behind t book pg p out) (read_numbered t book pg p out);
  coefficient_alone = λ mode t books book pg p i. said_alone mode t books book pg p (value_behind t book pg p i) (value_numbered t book pg p i);
}
