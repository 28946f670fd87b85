-- What a record names, its book, place and row, in code: what is read of its bytes, and what can be written into them.
use Rattle.std.specs.Prelude.{ℕ, ◌<◌, List, ◌≡◌}
use Rattle.records.specs.Record.{book_in, place_in, row_in}
use Rattle.records.specs.declared.inner.Named.{Named}

-- these are named by the bytes
pub record IsNamed (bytes : List ℕ) (named : Named) : Type 0 where
  pub is_book : named.book ≡ book_in bytes
  pub is_place : named.place ≡ place_in bytes
  pub is_row : named.row ≡ row_in bytes
  pub book_to : named.book < 16
  pub place_to : named.place < 4096

-- book and place go into their field
pub record InField (named : Named) : Type 0 where
  pub book_to : named.book < 16
  pub place_to : named.place < 4096
