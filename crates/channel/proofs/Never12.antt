-- Demand 3 b: a page grown from empty never gives 12. Where 12 is said no condition before it holds, so the table and
-- its books are good, and the book and the place are there, and there no cell is at fault.
use Prim.Native.Nat.{ℕ, ◌+◌, ◌≤◌, ◌<◌}
use mathlib.Core.Path.{◌≡◌, sym, ◌∙◌}
use mathlib.Core.List.{List, [], ◌∷◌}
use mathlib.Core.Bool.{true, false, false≢true}
use mathlib.Core.Logic.{◌⊎◌, ⊎_elim}
use native.Mathlib.Omega.{arith}
use borrow.Author.Tests.{leb-false}
use Rattle.answers.specs.Checks.{any_of, fails_of, each_from}
use Rattle.answers.proofs.InOrder.{none_of, passes_fails}
use Rattle.answers.proofs.Each.{passes_each}
use Rattle.tables.specs.BookNumbers.{books_outside, no_such_book, book_check, GoodBooks}
use Rattle.tables.specs.Table.{places_in, table_checks, place_check, no_such_place}
use Rattle.records.specs.Record.{book_in, place_in}
use Rattle.rules.specs.Taking.{bad_at, cell_check_at, grown}
use Rattle.laws.proofs.Grown.{grown_not_bad}
use Rattle.channel.specs.Demand3.{Never12}
use Rattle.channel.proofs.Calls.{demand_1}

-- a check of another number is passed by, and the last one fails
past : {X Y Z : Type 0} {m n : ℕ} → (m ≡ n → ⊥) → (X × (m ≡ n) × Z) ⊎ Y → Y
past other r = ⊎_elim (λ h. absurd (other h.1)) (λ y. y) r

last : {X Y Z W : Type 0} → (X × Z × W) ⊎ (Y × ⊥) → X
last r = ⊎_elim (λ h. h.0) (λ h. absurd h.1) r

module _ (t : List ℕ) (books : ℕ) (xs : List (List ℕ)) where
  shared : books_outside books ≡ false → any_of (fails_of (table_checks t)) ≡ false → GoodBooks t books
  shared few table = (few, none_of (fails_of (table_checks t)) table)

  -- a book and a place that are there
  there : (book p : ℕ) → any_of (fails_of (book_check books book ∷ place_check t p ∷ [])) ≡ false → (book < books) × (p < places_in t)
  there book p found =
      let none = none_of (no_such_book books book ∷ no_such_place t p ∷ []) found in
      (leb-false books book none.0, leb-false (places_in t) p none.1.0)

  no_fault : books_outside books ≡ false → any_of (fails_of (table_checks t)) ≡ false → (book p : ℕ)
      → any_of (fails_of (book_check books book ∷ place_check t p ∷ [])) ≡ false → bad_at t (grown t books xs) book p ≡ true → ⊥
  no_fault few table book p found bad =
      let is = there book p found in
      false≢true (sym (grown_not_bad t books (shared few table) xs book p is.0 is.1) ∙ bad)

  no_faults : books_outside books ≡ false → any_of (fails_of (table_checks t)) ≡ false → (book : ℕ) → no_such_book books book ≡ false
      → any_of (fails_of (each_from (cell_check_at t (grown t books xs) book) 0 (places_in t))) ≡ true → ⊥
  no_faults few table book found bad =
      let check = cell_check_at t (grown t books xs) book in
      let whole : (p : ℕ) → 0 ≤ p → p < 0 + places_in t → (check p).fails ≡ false = λ p from to. grown_not_bad t books (shared few table) xs book p (leb-false books book found) (omega arith) in
      false≢true (sym (passes_fails (each_from check 0 (places_in t)) (passes_each check 0 (places_in t) whole)) ∙ bad)

  pub never_12 : Never12 t books xs
  never_12 = record {
    take = λ x said.
        let few = past (λ f. omega (arith, f)) (((demand_1.take t books (grown t books xs) x).exactly 11).0 said) in
        let table = past (λ f. omega (arith, f)) few.1 in
        let size = past (λ f. omega (arith, f)) table.1 in
        let place = past (λ f. omega (arith, f)) size.1 in
        let row = past (λ f. omega (arith, f)) place.1 in
        no_fault few.0 table.0 (book_in x) (place_in x) place.0 (last row.1);
    read = λ mode book p out said.
        let in_mode = past (λ f. omega (arith, f)) (((demand_1.read mode t books book (grown t books xs) p out).exactly 11).0 said) in
        let few = past (λ f. omega (arith, f)) in_mode.1 in
        let table = past (λ f. omega (arith, f)) few.1 in
        let place = past (λ f. omega (arith, f)) table.1 in
        let size = past (λ f. omega (arith, f)) place.1 in
        no_fault few.0 table.0 book p place.0 (last size.1);
    coefficient = λ mode book p i said.
        let in_mode = past (λ f. omega (arith, f)) (((demand_1.coefficient mode t books book (grown t books xs) p i).exactly 11).0 said) in
        let few = past (λ f. omega (arith, f)) in_mode.1 in
        let table = past (λ f. omega (arith, f)) few.1 in
        let place = past (λ f. omega (arith, f)) table.1 in
        let size = past (λ f. omega (arith, f)) place.1 in
        let coordinate = past (λ f. omega (arith, f)) size.1 in
        no_fault few.0 table.0 book p place.0 (last coordinate.1);
    tally = λ mode book said.
        let in_mode = past (λ f. omega (arith, f)) (((demand_1.tally mode t books book (grown t books xs)).exactly 11).0 said) in
        let few = past (λ f. omega (arith, f)) in_mode.1 in
        let table = past (λ f. omega (arith, f)) few.1 in
        let found = past (λ f. omega (arith, f)) table.1 in
        let size = past (λ f. omega (arith, f)) found.1 in
        no_faults few.0 table.0 book found.0 (last size.1);
  }
