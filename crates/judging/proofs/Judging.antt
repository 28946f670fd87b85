-- What the answer of a held record goes by, as the code tests it.
use Prim.Native.Nat.{ℕ, ◌^◌, ◌≤◌, ◌<◌}
use mathlib.Core.Bool.{Bool, true, false, and-false}
use mathlib.Core.List.{List}
use mathlib.Core.Path.{◌≡◌, refl, ◌∙◌}
use native.Mathlib.Nat.{lt_of_lt_of_le}
use borrow.Author.Tests.{le-leb, lt-leb, lt-ltb, le-ltb}
use Rattle.counts.proofs.Widths.{width_is, width_enough}
use Rattle.counts.specs.Distance.{distance}
use Rattle.counts.specs.Width.{width}
use Rattle.records.specs.Record.{radius_number_in, codeword_in}
use Rattle.tables.specs.Row.{radii_of, radius_at}
use Rattle.rules.specs.Modes.{is_plain}
use Rattle.rules.specs.Judging.{mended_index, mended_as, judge_codeword, judge_in, judge_record}
use Rattle.rules.specs.declared.Judged.{Judged}
use Rattle.rules.specs.declared.Judged.TheVariants as judged
use Rattle.rules.specs.declared.Reason.TheVariants as reason
use Rattle.product.specs.declared.inner.range.Found.{Found}
use Rattle.judging.specs.Seen.{Nowhere, Handed, NotSound}
use Rattle.judging.specs.declared.inner.Seen.{Seen}

-- the width of what a usable shell has
pub width_to : (total : ℕ) → total ≤ 2 ^ 32 → width total ≤ 32
width_to total h = (width_is total).least 32 h

module _ (mode : ℕ) (names : ℕ → Bool) (total k n : ℕ) where
  -- below the total, and so below 2^b
  module _ (h : n < total) where
    pub codeword_sound : names n ≡ true → judged.Sound k n ≡ judge_codeword mode names total k n
    unfolding judge_codeword
    codeword_sound named =
        rw (lt-leb (2 ^ width total) n (lt_of_lt_of_le h (width_enough total)), lt-ltb n total h, and-false (is_plain mode), named) refl

    pub codeword_empty : names n ≡ false → judged.Unreadable reason.EmptyShape ≡ judge_codeword mode names total k n
    unfolding judge_codeword
    codeword_empty empty =
        rw (lt-leb (2 ^ width total) n (lt_of_lt_of_le h (width_enough total)), lt-ltb n total h, and-false (is_plain mode), empty) refl

  pub codeword_wide : 2 ^ width total ≤ n → judged.Unreadable reason.TooWide ≡ judge_codeword mode names total k n
  unfolding judge_codeword
  codeword_wide h = rw (le-leb (2 ^ width total) n h) refl

  -- from the total on, and below 2^b
  module _ (inside : n < 2 ^ width total) (above : total ≤ n) where
    pub codeword_past : is_plain mode ≡ true → judged.Unreadable (reason.PastEnd (distance total n)) ≡ judge_codeword mode names total k n
    unfolding judge_codeword
    codeword_past is = rw (lt-leb (2 ^ width total) n inside, le-ltb n total above, is) refl

    pub codeword_mended : is_plain mode ≡ false → names (mended_index total n) ≡ true → mended_as total k n ≡ judge_codeword mode names total k n
    unfolding judge_codeword
    codeword_mended mends named = rw (lt-leb (2 ^ width total) n inside, le-ltb n total above, mends, named) refl

    pub codeword_mended_empty : is_plain mode ≡ false → names (mended_index total n) ≡ false
        → judged.Unreadable reason.EmptyShape ≡ judge_codeword mode names total k n
    unfolding judge_codeword
    codeword_mended_empty mends empty = rw (lt-leb (2 ^ width total) n inside, le-ltb n total above, mends, empty) refl

module _ (mode : ℕ) (row y : List ℕ) where
  pub record_10 : radii_of row ≤ radius_number_in y → judged.Unreadable reason.NoSuchRadius ≡ judge_record mode row y
  unfolding judge_record
  record_10 h = rw (le-leb (radii_of row) (radius_number_in y) h) refl

  pub record_judged : radius_number_in y < radii_of row → judge_in mode row (radius_at row (radius_number_in y)) (codeword_in y) ≡ judge_record mode row y
  unfolding judge_record
  record_judged h = rw (lt-leb (radii_of row) (radius_number_in y) h) refl

-- of an answer that is not sound nothing was found
none_handed : (row : List ℕ) (j : Judged) (found : Found) → NotSound j → Nowhere found → Handed row j found
none_handed row (judged.Sound k n) found none nowhere = absurd none
none_handed row (judged.Mended k n d) found none nowhere = nowhere
none_handed row judged.Missing found none nowhere = nowhere
none_handed row judged.Contested found none nowhere = nowhere
none_handed row (judged.Unreadable why) found none nowhere = nowhere

pub seen_as : (row : List ℕ) (seen : Seen) {j answer : Judged} → (seen.judged ≡ j) × Nowhere seen.found → NotSound j → j ≡ answer
    → (seen.judged ≡ answer) × Handed row seen.judged seen.found
seen_as row seen unseen none same = (unseen.0 ∙ same, none_handed row seen.judged seen.found (rw unseen.0 none) unseen.1)
