-- Both modes, by the calls: what one cell is judged to be in each mode is what the readers, the tally and the lines
-- tell.
use Prim.Native.Nat.{ℕ}
use mathlib.Core.Bool.{Bool, true, false, false≢true}
use mathlib.Core.List.{List, [], ◌∷◌, ◌++◌}
use mathlib.Core.Logic.{◌⊎◌, inl, inr}
use mathlib.Core.Path.{◌≡◌, refl, sym, ap, ◌∙◌}
use native.Mathlib.Omega.{arith}
use lib.IntN.{ℤ}
use lib.ListN.{get_or, drop}
use Rattle.answers.specs.Checks.{Check, first_of, leaves, pick, Passes}
use Rattle.answers.proofs.InOrder.{Numbered, passes_says, passes_leaves}
use Rattle.tables.specs.Row.{radius_at}
use Rattle.tables.specs.Table.{places_in, row_for}
use Rattle.records.specs.Record.{radius_number_in, codeword_in}
use Rattle.rules.specs.Modes.{plain, mending, no_such_mode}
use Rattle.rules.specs.Judging.{judge_at, answer_number, mended_index, index_names, total_named, reason_number, point_named, shown, AnswerIn}
use Rattle.rules.specs.Reading.{look_checks, told, carried_by}
use Rattle.rules.specs.Taking.{cell_for}
use Rattle.rules.specs.Tallying.{answer_at, tally_says}
use Rattle.rules.specs.TwoModes.{overflows, TwoModes}
use Rattle.rules.specs.declared.Judged.{Judged}
use Rattle.rules.specs.declared.Judged.TheVariants as judged
use Rattle.rules.specs.declared.Reason.TheVariants as reason
use Rattle.laws.proofs.Counts.{none_counted}
use Rattle.laws.proofs.Reasons.{answer_in}
use Rattle.laws.proofs.TwoModes.{two_modes}
use Rattle.reporting.specs.Listing.{line_of}
use Rattle.wording.specs.Text.{place_text}
use Rattle.channel.specs.BothModes.{sound_says, empty_says, OverflowsAt, distance_at, SaysApart, BothModes}
use Rattle.channel.specs.PastEnd.{mended_says}
use Rattle.channel.proofs.Answers.{tallies}
use Rattle.channel.proofs.Lines.{zeros, same_after}
use Rattle.channel.proofs.Reading.{reader_told, read_behind, value_behind, read_numbered, value_numbered}

-- in plain mode no answer is that of a mended place
never_mended : (j : Judged) → AnswerIn plain j → answer_number j ≡ 1 → ⊥
never_mended (judged.Sound k n) is e = omega arith
never_mended (judged.Mended k n d) is e = false≢true (sym is)
never_mended judged.Missing is e = omega arith
never_mended judged.Contested is e = omega arith
never_mended (judged.Unreadable why) is e = omega arith

is_sound : (j : Judged) → answer_number j ≡ 0 → (k : ℕ) × (n : ℕ) × (j ≡ judged.Sound k n)
is_sound (judged.Sound k n) e = (k, n, refl)
is_sound (judged.Mended k n d) e = absurd (omega arith)
is_sound judged.Missing e = absurd (omega arith)
is_sound judged.Contested e = absurd (omega arith)
is_sound (judged.Unreadable why) e = absurd (omega arith)

-- the answer that is told
told_answer : (j : Judged) {values : List ℕ} → told j ≡ 0 ∷ values → answer_number j ≡ get_or values 0 0
told_answer j says = ap (λ (ns : List ℕ). get_or ns 1 0) says

module _ (t pg : List ℕ) (book p : ℕ) where
  abbrev row : List ℕ
  row = row_for t p

  two : TwoModes row (cell_for t pg book p)
  two = two_modes row (cell_for t pg book p)

  -- no place of a page is mended in plain mode
  pub plain_place : answer_at plain t pg book p ≡ 1 → ⊥
  plain_place = never_mended (judge_at plain t pg book p) (answer_in plain row (cell_for t pg book p))

  -- where no codeword overflows
  pub judged_alike : (OverflowsAt t pg book p → ⊥) → judge_at plain t pg book p ≡ judge_at mending t pg book p
  judged_alike none = go (overflows row (cell_for t pg book p)) refl
    where
      go : (b : Bool) → overflows row (cell_for t pg book p) ≡ b → judge_at plain t pg book p ≡ judge_at mending t pg book p
      go true over = absurd (none over)
      go false same = two.agree same plain mending

  -- either reader: `rest` is what it checks behind the place, and `made` what it leaves where they pass
  module _ (books : ℕ) (rest : List Check) (numbered : Numbered rest) where
    abbrev saying : ℕ → List ℕ
    saying mode = first_of (look_checks mode t books book pg p ++ rest) (told (judge_at mode t pg book p))

    abbrev leaving : {A : Type 0} → (Judged → A) → A → ℕ → A
    leaving made held mode = leaves (look_checks mode t books book pg p ++ rest) (made (judge_at mode t pg book p)) held

    pub none_mended : (more : List ℕ) → saying plain ≡ 0 ∷ 1 ∷ more → ⊥
    none_mended more says =
        plain_place (told_answer (judge_at plain t pg book p) (reader_told plain t books book pg p rest numbered (1 ∷ more) says).1)

    pub sound_too : {A : Type 0} (made : Judged → A) (held : A) (mode other : ℕ) → no_such_mode other ≡ false → saying mode ≡ sound_says
        → (saying other ≡ sound_says) × (leaving made held other ≡ leaving made held mode)
    sound_too made held mode other known says =
        let reads = reader_told mode t books book pg p rest numbered (0 ∷ 0 ∷ []) says in
        let sound = is_sound (judge_at mode t pg book p) (told_answer (judge_at mode t pg book p) reads.1) in
        let same : judge_at other t pg book p ≡ judge_at mode t pg book p = two.sound_alike mode other sound.0 sound.1 sound.2 ∙ sym sound.2 in
        let passes : Passes (look_checks other t books book pg p ++ rest) = (known, reads.0.1) in (
          passes_says (told (judge_at other t pg book p)) (look_checks other t books book pg p ++ rest) passes ∙ ap told same ∙ reads.1,
          passes_leaves (made (judge_at other t pg book p)) held (look_checks other t books book pg p ++ rest) passes
              ∙ ap made same
              ∙ sym (passes_leaves (made (judge_at mode t pg book p)) held (look_checks mode t books book pg p ++ rest) reads.0),
        )

    pub said_alike : {A : Type 0} (made : Judged → A) (held : A) → (OverflowsAt t pg book p → ⊥)
        → (saying plain ≡ saying mending) × (leaving made held plain ≡ leaving made held mending)
    said_alike made held none =
        let same = judged_alike none in (
          ap (λ (j : Judged). first_of (look_checks plain t books book pg p ++ rest) (told j)) same,
          ap (λ (j : Judged). leaves (look_checks plain t books book pg p ++ rest) (made j) held) same,
        )

    -- what mending mode says where a codeword overflows
    mended_or_lem : (b : Bool) (k n d : ℕ)
        → (told (pick b (judged.Mended k n d) (judged.Unreadable reason.EmptyShape)) ≡ mended_says d)
        ⊎ (told (pick b (judged.Mended k n d) (judged.Unreadable reason.EmptyShape)) ≡ empty_says)
    mended_or_lem true k n d = inl refl
    mended_or_lem false k n d = inr refl

    pub said_apart : (values : List ℕ) → OverflowsAt t pg book p → saying plain ≡ 0 ∷ values → SaysApart (saying plain) (saying mending) (distance_at t pg book p)
    said_apart values over says =
        let y = (cell_for t pg book p).bytes in
        let k = radius_at row (radius_number_in y) in
        let n = mended_index (total_named row y) (codeword_in y) in
        let passes = (reader_told plain t books book pg p rest numbered values says).0 in
        let all : Passes (look_checks mending t books book pg p ++ rest) = passes in
        let is = passes_says (told (judge_at mending t pg book p)) (look_checks mending t books book pg p ++ rest) all ∙ ap told (two.in_mending over) in
        record {
          past = passes_says (told (judge_at plain t pg book p)) (look_checks plain t books book pg p ++ rest) passes ∙ ap told (two.in_plain over);
          mended = by is (mended_or_lem (index_names row k n) k n (distance_at t pg book p));
        }
      where
        by : {said told_as : List ℕ} → said ≡ told_as → (told_as ≡ mended_says (distance_at t pg book p)) ⊎ (told_as ≡ empty_says)
            → (said ≡ mended_says (distance_at t pg book p)) ⊎ (said ≡ empty_says)
        by is (inl mended) = inl (is ∙ mended)
        by is (inr empty) = inr (is ∙ empty)

plain_counts : (t : List ℕ) (books book : ℕ) (pg counts : List ℕ) → tally_says plain t books book pg ≡ 0 ∷ counts → get_or counts 1 0 ≡ 0
plain_counts t books book pg counts says =
    let counted = tallies plain t books book pg (ap (λ (ns : List ℕ). get_or ns 0 0) says) in
    let same : counts ≡ counted.counts = ap (drop 1) (sym says ∙ counted.said) in
    ap (λ (ns : List ℕ). get_or ns 1 0) same ∙ counted.each 1 (omega arith) ∙ none_counted (answer_at plain t pg book) 1 (places_in t) (plain_place t pg book)

-- the line of an answer that plain mode has: the first two letters of its word are not those of `mended`
not_mended : (p : ℕ) (row : List ℕ) (j : Judged) → AnswerIn plain j → (d : ℕ) (q : List ℤ) → line_of row p j ≡ place_text p 1 d q → ⊥
not_mended p row (judged.Sound k n) is d q same = let letter : ◌≡◌ {A = ℕ} 115 109 = same_after p 0 0 1 d (point_named row k n) q same 1 in omega arith
not_mended p row (judged.Mended k n e) is d q same = false≢true (sym is)
not_mended p row judged.Missing is d q same = let letter : ◌≡◌ {A = ℕ} 105 101 = same_after p 2 0 1 d (zeros row) q same 2 in omega arith
not_mended p row judged.Contested is d q same = let letter : ◌≡◌ {A = ℕ} 99 109 = same_after p 3 0 1 d (zeros row) q same 1 in omega arith
not_mended p row (judged.Unreadable why) is d q same =
    let letter : ◌≡◌ {A = ℕ} 117 109 = same_after p 4 (reason_number why) 1 d (zeros row) q same 1 in
    omega arith

pub both_modes : BothModes
both_modes = record {
  read_plain = λ t books book pg p out. none_mended t pg book p books (read_behind t book pg p out) (read_numbered t book pg p out);
  coefficient_plain = λ t books book pg p i. none_mended t pg book p books (value_behind t book pg p i) (value_numbered t book pg p i);
  tally_plain = plain_counts;
  line_plain = λ t pg book p. not_mended p (row_for t p) (judge_at plain t pg book p) (answer_in plain (row_for t p) (cell_for t pg book p));
  read_sound = λ mode other known t books book pg p out.
      sound_too t pg book p books (read_behind t book pg p out) (read_numbered t book pg p out) (shown (row_for t p)) out mode other known;
  coefficient_sound = λ mode other known t books book pg p i.
      sound_too t pg book p books (value_behind t book pg p i) (value_numbered t book pg p i) (λ j. carried_by (row_for t p) j i) [] mode other known;
  read_alike = λ t books book pg p out. said_alike t pg book p books (read_behind t book pg p out) (read_numbered t book pg p out) (shown (row_for t p)) out;
  coefficient_alike = λ t books book pg p i.
      said_alike t pg book p books (value_behind t book pg p i) (value_numbered t book pg p i) (λ j. carried_by (row_for t p) j i) [];
  counted_alike = λ t pg book p none. ap answer_number (judged_alike t pg book p none);
  line_alike = λ t pg book p none. ap (line_of (row_for t p) p) (judged_alike t pg book p none);
  read_apart = λ t books book pg p out. said_apart t pg book p books (read_behind t book pg p out) (read_numbered t book pg p out);
  coefficient_apart = λ t books book pg p i. said_apart t pg book p books (value_behind t book pg p i) (value_numbered t book pg p i);
}
