-- The checks of a table and its books, of a book, and of a place in a book: what they tell where they pass, the other
-- way round, and that each has a number above 0.
use Prim.Native.Nat.{ℕ, ◌≤◌, ◌<◌}
use mathlib.Core.Bool.{Bool, true, false}
use mathlib.Core.List.{List, [], ◌∷◌}
use mathlib.Core.Path.{◌≡◌, refl}
use native.Mathlib.Omega.{arith}
use borrow.Author.Tests.{le-leb, lt-leb, leb-false, lt-ltb, le-ltb, ltb-false}
use lib.Dec.{lit<, ltb}
use Rattle.answers.proofs.InOrder.{Numbered, numbered_then, none_of, passes_apart, passes_then}
use Rattle.answers.specs.Checks.{Passes}
use Rattle.tables.specs.BookNumbers.{most_books, books_outside, no_such_book, book_check, sharing_checks, GoodBooks, book_checks, place_checks}
use Rattle.tables.specs.Table.{places_in, place_check, no_such_place, Good}
use Rattle.tables.proofs.Seven.{table_numbered}

-- ---- a number of books
pub some_books : (books : ℕ) → 1 ≤ books → books ≤ most_books → books_outside books ≡ false
some_books books from to = rw (le-ltb books 1 from, le-ltb 16 books to) refl

pub books_within : (books : ℕ) → books_outside books ≡ false → (1 ≤ books) × (books ≤ most_books)
books_within books e =
    let none = none_of (ltb books 1 ∷ ltb 16 books ∷ []) e in
    (ltb-false books 1 none.0, ltb-false 16 books none.1.0)

-- ---- a table and its books
module _ (t : List ℕ) (books : ℕ) where
  pub sharing_numbered : Numbered (sharing_checks t books)
  sharing_numbered = (lit< tt, table_numbered t)

  pub sharing_good : GoodBooks t books → Good t
  sharing_good passes = passes.1

  pub sharing_to : GoodBooks t books → books ≤ most_books
  sharing_to passes = (books_within books passes.0).1

  -- and a book
  module _ (book : ℕ) where
    pub book_numbered : Numbered (book_checks t books book)
    book_numbered = numbered_then (sharing_checks t books) (book_check books book ∷ []) sharing_numbered (lit< tt, tt)

    pub book_passes : Passes (book_checks t books book) → GoodBooks t books × (book < books)
    book_passes passes =
        let both = passes_apart (sharing_checks t books) (book_check books book ∷ []) passes in
        (both.0, leb-false books book both.1.0)

    -- it is numbered below 16
    pub book_below : Passes (book_checks t books book) → book < most_books
    book_below passes = let both = book_passes passes in omega (arith, both.1, sharing_to both.0)

    pub passes_book : GoodBooks t books → book < books → Passes (book_checks t books book)
    passes_book good h = passes_then (sharing_checks t books) (book_check books book ∷ []) good (lt-leb books book h, tt)

    -- and a place
    module _ (p : ℕ) where
      pub place_numbered : Numbered (place_checks t books book p)
      place_numbered = numbered_then (book_checks t books book) (place_check t p ∷ []) book_numbered (lit< tt, tt)

      pub place_passes : Passes (place_checks t books book p) → Passes (book_checks t books book) × (p < places_in t)
      place_passes passes =
          let both = passes_apart (book_checks t books book) (place_check t p ∷ []) passes in
          (both.0, leb-false (places_in t) p both.1.0)

      -- the table is good, and the place is in it
      pub place_good : Passes (place_checks t books book p) → Good t × (p < places_in t)
      place_good passes = let both = place_passes passes in (sharing_good (book_passes both.0).0, both.1)

      pub passes_place : Passes (book_checks t books book) → p < places_in t → Passes (place_checks t books book p)
      passes_place good h = passes_then (book_checks t books book) (place_check t p ∷ []) good (lt-leb (places_in t) p h, tt)

-- ---- a book, by the number of books
pub no_book : (books book : ℕ) → books ≤ book → no_such_book books book ≡ true
no_book books book h = le-leb books book h

pub some_book : (books book : ℕ) → book < books → no_such_book books book ≡ false
some_book books book h = lt-leb books book h

-- ---- a place, by the number of places that was found
module _ (t : List ℕ) (p : ℕ) {places : ℕ} (is_places : places ≡ places_in t) where
  pub no_place_lem : places ≤ p → no_such_place t p ≡ true
  no_place_lem h = le-leb (places_in t) p (omega arith)

  pub some_place : p < places → no_such_place t p ≡ false
  some_place h = lt-leb (places_in t) p (omega arith)
