-- The two modes of one cell: what is judged where a codeword overflows, and that the mode does not matter elsewhere.
use Prim.Native.Nat.{ℕ, zero, suc, ◌^◌}
use mathlib.Core.Bool.{Bool, true, false, not, ◌&&◌, false≢true, and-eq-true_iff}
use mathlib.Core.List.{List}
use mathlib.Core.Path.{◌≡◌, refl, sym, ap, ◌∙◌}
use native.Mathlib.Omega.{arith}
use lib.Dec.{eqb, leb, ltb}
use borrow.Author.Tests.{eqb-true, not-true}
use Rattle.answers.specs.Checks.{pick}
use Rattle.counts.specs.Distance.{distance}
use Rattle.counts.specs.Width.{width}
use Rattle.tables.specs.Row.{radii_of}
use Rattle.layout.specs.Layout.{Cell}
use Rattle.rules.specs.Modes.{plain, mending, is_plain}
use Rattle.rules.specs.Taking.{by_state}
use Rattle.rules.specs.Judging.{mended_index, mended_as, judge_codeword, index_names, judge_record, judge, answer_number, reason_of}
use Rattle.rules.specs.TwoModes.{record_overflows, overflows, TwoModes}
use Rattle.rules.specs.declared.Judged.{Judged}
use Rattle.rules.specs.declared.Judged.TheVariants as judged
use Rattle.rules.specs.declared.Reason.TheVariants as reason
use Rattle.laws.proofs.InEachCase.{radius_number, radius, total, codeword}

module _ (row : List ℕ) (c : Cell) where
  -- the tests that a held record is judged by
  abbrev no_radius : Bool
  no_radius = leb (radii_of row) (radius_number row c)

  abbrev too_wide : Bool
  too_wide = leb (2 ^ width (total row c)) (codeword row c)

  abbrev below : Bool
  below = ltb (codeword row c) (total row c)

  abbrev mended_names : Bool
  mended_names = index_names row (radius row c) (mended_index (total row c) (codeword row c))

  -- what an overflowing codeword is judged to be in plain mode, and in mending mode
  abbrev past_end : Judged
  past_end = judged.Unreadable (reason.PastEnd (distance (total row c) (codeword row c)))

  abbrev mended_or : Bool → Judged
  mended_or named = pick named (mended_as (total row c) (radius row c) (codeword row c)) (judged.Unreadable reason.EmptyShape)

  judged_past : overflows row c ≡ true → (mode : ℕ) → judge mode row c ≡ pick (is_plain mode) past_end (mended_or mended_names)
  unfolding judge judge_record judge_codeword
  judged_past over mode =
      let held = (and-eq-true_iff (eqb c.state 1) (record_overflows row c.bytes)).0 over in
      let past_it = (and-eq-true_iff (not no_radius && not too_wide) (not below)).0 held.1 in
      let inside = (and-eq-true_iff (not no_radius) (not too_wide)).0 past_it.0 in
      let state : c.state ≡ 1 = eqb-true c.state 1 held.0 in
      let none : no_radius ≡ false = not-true no_radius inside.0 in
      let wide : too_wide ≡ false = not-true too_wide inside.1 in
      let past : below ≡ false = not-true below past_it.1 in
      rw (state, none, wide, past) (go (is_plain mode) mended_names)
    where
      go : (p named : Bool)
          → pick (p && true) past_end (pick (not named) (judged.Unreadable reason.EmptyShape) (mended_as (total row c) (radius row c) (codeword row c)))
          ≡ pick p past_end (mended_or named)
      go true named = refl
      go false true = refl
      go false false = refl

  -- neither is sound, and they are not the same
  not_sound : (p named : Bool) (k n : ℕ) → pick p past_end (mended_or named) ≡ judged.Sound k n → ⊥
  not_sound true named k n e = omega (arith, ap answer_number e)
  not_sound false true k n e = omega (arith, ap answer_number e)
  not_sound false false k n e = omega (arith, ap answer_number e)

  apart : (named : Bool) → past_end ≡ mended_or named → ⊥
  apart true e = omega (arith, ap answer_number e)
  apart false e = omega (arith, ap reason_of e)

  -- elsewhere the mode is not asked: p and q are whether two modes are plain, and `left` is what is judged behind 6
  abbrev by_tests : ℕ → Bool → Bool → Bool → Bool → Judged → Judged
  by_tests s none wide sound p left =
      by_state s judged.Missing
      (pick none (judged.Unreadable reason.NoSuchRadius) (pick wide (judged.Unreadable reason.TooWide) (pick (p && not sound) past_end left)))
      judged.Contested

  tests_agree : (s : ℕ) (none wide sound p q : Bool) (left : Judged) → (eqb s 1 && (not none && not wide && not sound)) ≡ false
      → by_tests s none wide sound p left ≡ by_tests s none wide sound q left
  tests_agree zero none wide sound p q left e = refl
  tests_agree (suc (suc s)) none wide sound p q left e = refl
  tests_agree (suc zero) true wide sound p q left e = refl
  tests_agree (suc zero) false true sound p q left e = refl
  tests_agree (suc zero) false false true true true left e = refl
  tests_agree (suc zero) false false true true false left e = refl
  tests_agree (suc zero) false false true false true left e = refl
  tests_agree (suc zero) false false true false false left e = refl
  tests_agree (suc zero) false false false p q left e = absurd (false≢true (sym e))

  modes_agree : overflows row c ≡ false → (mode other : ℕ) → judge mode row c ≡ judge other row c
  unfolding judge judge_record judge_codeword
  modes_agree none mode other = tests_agree c.state no_radius too_wide below (is_plain mode) (is_plain other) _ none

  sound_alike : (mode other k n : ℕ) → judge mode row c ≡ judged.Sound k n → judge other row c ≡ judged.Sound k n
  sound_alike mode other k n is = go (overflows row c) refl
    where
      go : (b : Bool) → overflows row c ≡ b → judge other row c ≡ judged.Sound k n
      go true over = absurd (not_sound (is_plain mode) mended_names k n (sym (judged_past over mode) ∙ is))
      go false none = modes_agree none other mode ∙ is

  pub two_modes : TwoModes row c
  two_modes =
      record {
        sound_alike = sound_alike;
        agree = modes_agree;
        in_plain = λ over. judged_past over plain;
        in_mending = λ over. judged_past over mending;
        differ = λ over same. apart mended_names (sym (judged_past over plain) ∙ same ∙ judged_past over mending);
      }
