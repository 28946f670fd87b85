-- Every check of a table has number 7, which is above 0: so 7 is said of a bad table, and what is said otherwise
-- tells that it is good. A table that is too long is told by its first 513 bytes.
use Prim.Native.Nat.{ℕ, ◌≤◌}
use mathlib.Core.Bool.{true}
use mathlib.Core.List.{List, [], ◌∷◌}
use mathlib.Core.Path.{◌≡◌, refl, sym, ap, ◌∙◌}
use mathlib.Core.Logic.{◌⊎◌, inl, inr}
use native.Mathlib.Decide.{dec_le}
use native.Mathlib.Omega.{arith}
use borrow.Author.Tests.{lt-ltb, le-ltb}
use lib.Dec.{lit<}
use lib.ListN.{length, get_or, take}
use lib.Seq.{take_all, length-take-le}
use Rattle.answers.proofs.Each.{each_numbered}
use Rattle.answers.proofs.InOrder.{Numbered, says_passes, passes_says}
use Rattle.answers.proofs.OneNumber.{OfNumber, each_of, one_number_last}
use Rattle.answers.specs.Checks.{number_said, any_of, first_of, fails_of}
use Rattle.tables.specs.Table.{rows_of, wrong_size, table_room, places_in, row_check, table_checks, check_says, Good}

pub table_numbered : (t : List ℕ) → Numbered (table_checks t)
table_numbered t = (lit< tt, each_numbered (row_check t) 0 (rows_of t) (λ r. lit< tt))

pub table_of_7 : (t : List ℕ) → OfNumber 7 (table_checks t)
table_of_7 t = (refl, each_of (row_check t) 7 0 (rows_of t) (λ j. refl))

pub table_says_7 : (t answer : List ℕ) → any_of (fails_of (table_checks t)) ≡ true → number_said (first_of (table_checks t) answer) ≡ 7
table_says_7 t answer fails = one_number_last answer 7 (table_checks t) (table_of_7 t) ∙ rw fails refl

-- the check of a table answers with its places
pub check_good : (t : List ℕ) (n : ℕ) → 0 ∷ n ∷ [] ≡ check_says t → Good t × (n ≡ places_in t)
check_good t n said =
    let good = says_passes (places_in t ∷ []) (n ∷ []) (table_checks t) (table_numbered t) (sym said) in
    (good, ap (λ (says : List ℕ). get_or says 1 0) (said ∙ passes_says (0 ∷ places_in t ∷ []) (table_checks t) good))

-- a table of wrong size is bad, whatever its rows
pub wrong_size_bad : (t : List ℕ) → wrong_size (length t) ≡ true → any_of (fails_of (table_checks t)) ≡ true
wrong_size_bad t wrong = rw wrong refl

-- as many bytes as there is room for tell as much as the whole table: it is all of them, or both are too long
pub room_tells : (t : List ℕ) → (take table_room t ≡ t) ⊎ ((wrong_size (length (take table_room t)) ≡ true) × (wrong_size (length t) ≡ true))
room_tells t = go (dec_le (length t) table_room)
  where
    go : Dec (length t ≤ table_room) → (take table_room t ≡ t) ⊎ ((wrong_size (length (take table_room t)) ≡ true) × (wrong_size (length t) ≡ true))
    go (yes short) = inl (take_all table_room t short)
    go (no long) =
        inr (rw (length-take-le table_room t (omega arith)) refl, rw (le-ltb (length t) 1 (omega arith), lt-ltb 512 (length t) (omega arith)) refl)
