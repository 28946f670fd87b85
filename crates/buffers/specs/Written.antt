-- A lent buffer that is written one element after the other, and what a function that writes into one leaves.
use Rattle.std.specs.Prelude.{ℕ, ◌+◌, ◌≤◌, ◌≡◌, List, length, take}
use Rattle.std.proofs.lemmas.List.Edits.{sets}

-- the buffer that held `held`, with the first i elements of `made` written from `at` on: all else in it is as it was
abbrev pub written : {A : Type 0} → List A → ℕ → List A → ℕ → List A
written held at made i = sets held at (take i made)

-- The buffer held `held`. From `at` on it holds the text now, which ends before `end`, and all else in it is as it
-- was. The text has at most `most` elements.
pub record Wrote {A : Type 0} (held : List A) (at : ℕ) (text : List A) (most end : ℕ) (holds : List A) : Type 0 where
  pub ends : end ≡ at + length text
  pub made : holds ≡ written held at text (length text)
  pub to : end ≤ at + most
