-- Books apart (docs/RULES.md, "Books"), over values: what is in one book, and what the calls answer about it, goes by
-- the records that claim a place in that book and by nothing else, beside the table, the number of books and the
-- call's own arguments. t is any table, `books` any number of books, `book` any book, pg and pg' any pages, xs and ys
-- what arrives.
use Rattle.std.specs.Prelude.{ℕ, Bool, List, [], ◌∷◌, ◌≡◌, ℤ, length}
use Rattle.answers.specs.Checks.{pick}
use Rattle.tables.specs.Table.{places_in}
use Rattle.records.specs.Record.{book_in, place_in}
use Rattle.layout.specs.Layout.{book_at}
use Rattle.rules.specs.Reading.{read_says, read_leaves, coefficient_says, coefficient_carries}
use Rattle.rules.specs.Taking.{claims, take_says, take_leaves, grown}
use Rattle.rules.specs.Tallying.{tally_says}
use Rattle.reporting.specs.Calls.{lines_says, lines_leaves}

-- x claims a place in the book: it can claim only the place that it names
abbrev pub claims_in : List ℕ → ℕ → ℕ → List ℕ → Bool
claims_in t books book x = claims t books x book (place_in x)

-- of all that arrives, what claims a place in the book, in its order
unfoldable pub claiming_in : List ℕ → ℕ → ℕ → List (List ℕ) → List (List ℕ)
claiming_in t books book [] = []
claiming_in t books book (x ∷ xs) = pick (claims_in t books book x) (x ∷ claiming_in t books book xs) (claiming_in t books book xs)

-- the bytes of the book in a page
abbrev pub book_is : List ℕ → List ℕ → ℕ → List ℕ
book_is t pg book = book_at (places_in t) pg book

-- what the calls answer about the book is the same with either page, refusals and buffers included: take of a record
-- that names the book, and, whatever is taken, the bytes of the book afterwards; both readers, the tally, and the lines
pub record AnsweredAlike (t : List ℕ) (books book : ℕ) (pg pg' : List ℕ) : Type 0 where
  pub take_says_lem : (x : List ℕ) → book_in x ≡ book → take_says t books pg x ≡ take_says t books pg' x
  pub take_leaves_lem : (x : List ℕ) → book_is t (take_leaves t books pg x) book ≡ book_is t (take_leaves t books pg' x) book
  pub read_says_lem : (mode p : ℕ) (out : List ℤ) → read_says mode t books book pg p out ≡ read_says mode t books book pg' p out
  pub read_leaves_lem : (mode p : ℕ) (out : List ℤ) → read_leaves mode t books book pg p out ≡ read_leaves mode t books book pg' p out
  pub coefficient_says_lem : (mode p i : ℕ) → coefficient_says mode t books book pg p i ≡ coefficient_says mode t books book pg' p i
  pub coefficient_carries_lem : (mode p i : ℕ) → coefficient_carries mode t books book pg p i ≡ coefficient_carries mode t books book pg' p i
  pub tally_says_lem : (mode : ℕ) → tally_says mode t books book pg ≡ tally_says mode t books book pg'
  pub lines_says_lem : (mode p : ℕ) (held : List ℕ) → lines_says mode t books book pg p held ≡ lines_says mode t books book pg' p held
  pub lines_leaves_lem : (mode p : ℕ) (held : List ℕ) → lines_leaves mode t books book pg p held ≡ lines_leaves mode t books book pg' p held

-- no call looks at another book's cells: with two pages of one length that have the same bytes in the book, whatever
-- stands in the others, grown from an empty page or not
abbrev pub LooksAtItsOwn : Type 0
LooksAtItsOwn = (t : List ℕ) (books book : ℕ) (pg pg' : List ℕ) → length pg ≡ length pg' → book_is t pg book ≡ book_is t pg' book
    → AnsweredAlike t books book pg pg'

-- from empty books on, two lists of arrivals of which the same claim a place in the book, in the same order, leave the
-- same bytes in the book
abbrev pub SameBook : Type 0
SameBook = (t : List ℕ) (books book : ℕ) (xs ys : List (List ℕ)) → claiming_in t books book xs ≡ claiming_in t books book ys
    → book_is t (grown t books xs) book ≡ book_is t (grown t books ys) book

-- and so with every answer about it
abbrev pub SameAnswers : Type 0
SameAnswers = (t : List ℕ) (books book : ℕ) (xs ys : List (List ℕ)) → claiming_in t books book xs ≡ claiming_in t books book ys
    → AnsweredAlike t books book (grown t books xs) (grown t books ys)

pub record Apart : Type 0 where
  pub looks : LooksAtItsOwn
  pub same_book : SameBook
  pub same_answers : SameAnswers
