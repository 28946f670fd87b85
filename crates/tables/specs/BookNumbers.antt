-- The books that share a table (docs/RULES.md, "Books"): what is checked of their number, of one of them, and of a
-- place in one. t is the table's bytes, `books` how many books there are, `book` a book, p a place; all of them any.
use Rattle.std.specs.Prelude.{ℕ, List, [], ◌∷◌, ◌++◌, Bool, leb, ltb}
use Rattle.answers.specs.Checks.{Check, any_of, Passes}
use Rattle.tables.specs.Table.{table_checks, place_check}

-- 17: number of books outside 1 to 16
abbrev pub most_books : ℕ
most_books = 16

abbrev pub books_outside : ℕ → Bool
books_outside books = any_of (ltb books 1 ∷ ltb most_books books ∷ [])

abbrev pub books_check : ℕ → Check
books_check books = record { number = 17; values = []; fails = books_outside books }

-- the programs have one book
abbrev pub one_book : ℕ
one_book = 1

abbrev pub only_book : ℕ
only_book = 0

-- 8: book not below the number of books
abbrev pub no_such_book : ℕ → ℕ → Bool
no_such_book books book = leb books book

abbrev pub book_check : ℕ → ℕ → Check
book_check books book = record { number = 8; values = []; fails = no_such_book books book }

-- of a table and a number of books: 17, 7
abbrev pub sharing_checks : List ℕ → ℕ → List Check
sharing_checks t books = books_check books ∷ table_checks t

-- a good table, shared by 1 to 16 books
abbrev pub GoodBooks : List ℕ → ℕ → Type 0
GoodBooks t books = Passes (sharing_checks t books)

-- and of a book: 17, 7, 8
abbrev pub book_checks : List ℕ → ℕ → ℕ → List Check
book_checks t books book = sharing_checks t books ++ (book_check books book ∷ [])

-- and of a place in it: 17, 7, 8, where 8 is given for the book as for the place
abbrev pub place_checks : List ℕ → ℕ → ℕ → ℕ → List Check
place_checks t books book p = book_checks t books book ++ (place_check t p ∷ [])
