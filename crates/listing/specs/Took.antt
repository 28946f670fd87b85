-- What the program makes of the records that it reads. What a file holds can stand in no contract; that some bytes
-- were taken, whatever they were, can.
use Rattle.std.specs.Prelude.{ℕ, List, ◌≡◌}
use Rattle.tables.specs.BookNumbers.{one_book}
use Rattle.rules.specs.Taking.{collected}

-- with the table t and one book, some bytes were taken into a page that was pg, each 8 in turn and a shorter last part
-- too: the page is `left` now, and so many takes were refused
pub record Took (t pg left : List ℕ) (refused : ℕ) : Type 0 where
  pub bytes : List ℕ
  pub is_left : left ≡ (collected t one_book pg bytes).page
  pub is_refused : refused ≡ (collected t one_book pg bytes).refused
