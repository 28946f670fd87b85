-- What the functions of a block of lines ask.
use Rattle.std.specs.Prelude.{ℕ, ◌-◌, ◌*◌, ◌≤◌, ◌<◌, List, ◌≡◌, length}
use Rattle.answers.specs.Checks.{Passes}
use Rattle.tables.specs.BookNumbers.{GoodBooks}
use Rattle.tables.specs.Table.{places_in, row_of}
use Rattle.tables.specs.Way.{Placed}
use Rattle.layout.specs.Layout.{cells_of, page_length}
use Rattle.rules.specs.Layouts.{as_cells}
use Rattle.rules.specs.Reading.{look_checks}
use Rattle.reporting.specs.Calls.{line_space}
use Rattle.report.specs.declared.inner.block.Span.{Span}

-- the page of a span, cell by cell
abbrev pub page_spanned : List ℕ → List ℕ → Span → List ℕ
page_spanned t pg span = as_cells span.layout t span.books pg

-- these places of a book, the first in this row of a good table that so many books share, are in the page
pub record Spans (t pg : List ℕ) (span : Span) : Type 0 where
  pub shared : GoodBooks t span.books
  pub size : length pg ≡ page_length (cells_of (places_in t) span.books)
  pub in_books : span.book < span.books
  pub is_places : span.places ≡ places_in t
  pub to_places : span.to ≤ span.places
  pub placed : Placed t span.from span.row
  pub from_to : span.from ≤ span.to

-- and their lines can be written into a buffer
pub record HasRoom (t pg : List ℕ) (span : Span) (out : List ℕ) : Type 0 where
  pub spans : Spans t pg span
  pub room : line_space * (span.to - span.from) ≤ length out

-- a mode, a table, its books, a book, a place and a page that passed their checks: all places of the book from that one
-- on, and the row of the place
pub record Listable (mode : ℕ) (t pg : List ℕ) (opened : Span) : Type 0 where
  pub passes : Passes (look_checks mode t opened.books opened.book pg opened.from)
  pub is_places : opened.places ≡ places_in t
  pub is_row : opened.row ≡ row_of t opened.from
  pub to_end : opened.to ≡ opened.places
