-- The steps of the listing program, and the listing that they make. What a program reads and writes can stand in no
-- contract, so it is said here: records come in blocks, lines go out in blocks, and the calls' answers make the
-- text that `listing` is, for any bytes t of a table. The program asks for mending, and has one book.
use Rattle.std.specs.Prelude.{ℕ, ◌+◌, ◌*◌, ◌≤◌, ◌<◌, List, ◌∷◌, ◌++◌, ◌≡◌, length, take}
use Rattle.answers.specs.Refusals.{meaning, printed}
use Rattle.answers.specs.declared.Refusal.{Refusal}
use Rattle.tables.specs.BookNumbers.{one_book, only_book}
use Rattle.tables.specs.Table.{table_room, places_in, check_says, Good}
use Rattle.rules.specs.Modes.{mending}
use Rattle.rules.specs.Taking.{collected, new_page, grown, parts_of}
use Rattle.rules.specs.Tallying.{tally_of, tally_says}
use Rattle.wording.specs.Text.{refused_text}
use Rattle.reporting.specs.Listing.{lines_from, last_line, listing}
use Rattle.reporting.specs.Calls.{starting_with, line_space, lines_fit, lines_text, lines_answer, lines_says, lines_leaves}

pub record Steps (t : List ℕ) : Type 0 where
  -- a table that the check refuses: its refusal is the whole listing
  pub bad_table_lem : (bytes : List ℕ) (r : Refusal) → meaning r ≡ check_says t → refused_text (printed (meaning r)) ≡ listing t bytes
  -- a table file may be too long: as many bytes as there is room for give the listing of all of them
  pub enough_read : (bytes : List ℕ) → listing (take table_room t) bytes ≡ listing t bytes
  -- records in two blocks, the first of whole records: the page and the refused takes of both are those of all the
  -- bytes
  pub in_blocks : (pg xs ys : List ℕ) (n : ℕ) → length xs ≡ 8 * n → collected t one_book pg (xs ++ ys) ≡ record {
    page = (collected t one_book (collected t one_book pg xs).page ys).page;
    refused = (collected t one_book pg xs).refused + (collected t one_book (collected t one_book pg xs).page ys).refused;
  }
  -- what is taken grows from an empty page
  pub grows : (bytes : List ℕ) → (collected t one_book (new_page t one_book) bytes).page ≡ grown t one_book (parts_of bytes)
  -- on such a page neither the lines nor the tally are refused
  pub lines_written : Good t → (xs : List (List ℕ)) (p : ℕ) (held : List ℕ) → p < places_in t → line_space ≤ length held
      → (lines_says mending t one_book only_book (grown t one_book xs) p held ≡ lines_answer mending t (grown t one_book xs) only_book p (length held))
      × (lines_leaves mending t one_book only_book (grown t one_book xs) p held
      ≡ starting_with (lines_text mending t (grown t one_book xs) only_book p (length held)) held)
  pub tallied : Good t → (xs : List (List ℕ))
      → tally_says mending t one_book only_book (grown t one_book xs) ≡ 0 ∷ tally_of mending t (grown t one_book xs) only_book
  -- what is printed, the first bytes of the buffer, as many as the answer says, is the text
  pub text_printed : (text held : List ℕ) → take (length text) (starting_with text held) ≡ text
  -- a block of lines has one line at the least and ends with the last place at the most, and goes on where the
  -- lines before it ended
  pub goes_on : (p b : ℕ) → p < places_in t → line_space ≤ b → (p < p + lines_fit t p b) × (p + lines_fit t p b ≤ places_in t)
  pub one_block_more : (pg : List ℕ) (p b : ℕ)
      → lines_from mending t pg only_book 0 p ++ lines_text mending t pg only_book p b ≡ lines_from mending t pg only_book 0 (p + lines_fit t p b)
  -- all places and the last line are the listing
  pub whole : Good t → (bytes pg : List ℕ) (refused : ℕ) → collected t one_book (new_page t one_book) bytes ≡ record { page = pg; refused = refused }
      → lines_from mending t pg only_book 0 (places_in t) ++ last_line (tally_of mending t pg only_book) refused ≡ listing t bytes
