-- What collect does, part by part: a take that is answered with a refusal counts 1, and what is left of the run
-- decides.
use Prim.Native.Nat.{ℕ, ◌+◌, ◌/◌, ◌≤◌, ◌<◌, min}
use mathlib.Core.Bool.{Bool, true}
use mathlib.Core.List.{List, [], ◌∷◌, ◌++◌}
use mathlib.Core.Path.{◌≡◌, refl, sym, ap, ap₂, ◌∙◌}
use native.Mathlib.Decide.{dec_lt}
use native.Mathlib.Nat.{zero-add, min-eq_left, min-eq_right}
use native.Mathlib.Omega.{arith}
use lib.Dec.{lit<}
use lib.ListN.{length, take, drop, length-append, drop_of_length-le}
use lib.Seq.{take_all, take-append_seam, drop-append_seam}
use Rattle.answers.proofs.InOrder.{Numbered, says_passes, passes_fails, fails_then, refusal_fails, passed_leaves}
use Rattle.answers.specs.Checks.{any_of, first_of, leaves, fails_of, Passes}
use Rattle.answers.specs.Refusals.{meaning}
use Rattle.answers.specs.declared.Refusal.{Refusal}
use Rattle.laws.proofs.Runs.{parts_next, parts_none, parts_count, shut_after}
use Rattle.rules.specs.Taking.{page_checks, take_rest, take_checks, take_into, take_leaves, refusals, Received, arrive, after, parts_of, collected}

module _ (t : List ℕ) (books : ℕ) (pg : List ℕ) (ready : Passes (page_checks t books pg)) (x : List ℕ) where
  pub leaves_all : {left : List ℕ} → left ≡ leaves (take_rest t books pg x) (take_into t pg x) pg → left ≡ take_leaves t books pg x
  leaves_all did = did ∙ passed_leaves (page_checks t books pg) (take_rest t books pg x) (take_into t pg x) pg ready

  numbered : Numbered (take_rest t books pg x)
  numbered = (lit< tt, (lit< tt, (lit< tt, (lit< tt, (lit< tt, tt)))))

  fails_by : {b : Bool} → any_of (fails_of (take_rest t books pg x)) ≡ b → any_of (fails_of (take_checks t books pg x)) ≡ b
  fails_by e = fails_then (page_checks t books pg) (take_rest t books pg x) ∙ rw (passes_fails (page_checks t books pg) ready) e

  pub counts_0 : 0 ∷ [] ≡ first_of (take_rest t books pg x) (0 ∷ []) → 0 ≡ refusals t books pg x
  unfolding refusals
  counts_0 said = rw (fails_by (passes_fails (take_rest t books pg x) (says_passes [] [] (take_rest t books pg x) numbered (sym said)))) refl

  pub counts_1 : (r : Refusal) → meaning r ≡ first_of (take_rest t books pg x) (0 ∷ []) → 1 ≡ refusals t books pg x
  unfolding refusals
  counts_1 r said = rw (fails_by (refusal_fails [] (take_rest t books pg x) r said)) refl

-- a part is cut off what is left of the run: eight bytes, or all of them
module _ (left part rest : List ℕ) (cut : left ≡ part ++ rest) (long : length part ≡ min 8 (length left)) (more : 0 < length left) where
  first_is : take 8 left ≡ part
  first_is = go (dec_lt (length left) 8) ∙ ap (take (length part)) cut ∙ take-append_seam part rest
    where
      go : Dec (length left < 8) → take 8 left ≡ take (length part) left
      go (yes short) =
          let all : length part ≡ length left = long ∙ min-eq_right (omega arith) in
          take_all 8 left (omega arith) ∙ sym (take_all (length part) left (omega arith))
      go (no far) = let eight : length part ≡ 8 = long ∙ min-eq_left (omega arith) in rw eight refl

  rest_is : drop 8 left ≡ rest
  rest_is = go (dec_lt (length left) 8) ∙ ap (drop (length part)) cut ∙ drop-append_seam part rest
    where
      go : Dec (length left < 8) → drop 8 left ≡ drop (length part) left
      go (yes short) =
          let all : length part ≡ length left = long ∙ min-eq_right (omega arith) in
          drop_of_length-le left {i = 8} (omega arith) ∙ sym (drop_of_length-le left {i = length part} (omega arith))
      go (no far) = let eight : length part ≡ 8 = long ∙ min-eq_left (omega arith) in rw eight refl

  parts_step : parts_of left ≡ part ∷ parts_of rest
  parts_step = parts_next left more ∙ ap₂ (λ (x after : List ℕ). x ∷ parts_of after) first_is rest_is

  -- a part has a byte, so a refusal more is no more than the bytes that are gone
  pub shorter : (refused one all : ℕ) → refused + length left ≤ all → one ≤ 1 → refused + one + length rest ≤ all
  shorter refused one all h one_to = omega (arith, ap length cut ∙ length-append part rest, long, more)

  -- a turn: the part is taken, and what is left decides
  pub collects : (t : List ℕ) (books : ℕ) (pg page : List ℕ) (refused one : ℕ) {all : Received}
      → page ≡ take_leaves t books pg part → one ≡ refusals t books pg part
      → after t books (record { page = pg; refused = refused }) (parts_of left) ≡ all
      → after t books (record { page = page; refused = refused + one }) (parts_of rest) ≡ all
  unfolding after arrive
  collects t books pg page refused one is-page is_one e = rw (is-page, is_one) (rw parts_step at e)

-- nothing is left
pub all_collected : (t : List ℕ) (books : ℕ) (pg left : List ℕ) (refused : ℕ) {all : Received} → length left ≡ 0
    → after t books (record { page = pg; refused = refused }) (parts_of left) ≡ all → record { page = pg; refused = refused } ≡ all
unfolding after
all_collected t books pg left refused none e = rw (parts_none left none) at e

-- a number of books, a table or a page that is refused: every part is refused, and the page is as it was
pub shut_collected : (t : List ℕ) (books : ℕ) (pg bytes : List ℕ) → any_of (fails_of (page_checks t books pg)) ≡ true
    → collected t books pg bytes ≡ record { page = pg; refused = (length bytes + 7) / 8 }
shut_collected t books pg bytes shut =
    shut_after t books (record { page = pg; refused = 0 }) (parts_of bytes) shut
    ∙ ap (λ (n : ℕ). record { page = pg; refused = n }) (zero-add (length (parts_of bytes)) ∙ parts_count bytes)
