-- The steps of the sender, and what it prints and writes. What a program reads and writes can stand in no contract,
-- so it is said here: for any bytes t of a table, any of a file of coefficients, and any buffer that held `held`.
use Rattle.std.specs.Prelude.{ℕ, List, [], ◌∷◌, ◌⊎◌, ◌≡◌, Float, length, take}
use Rattle.answers.specs.Refusals.{meaning, printed}
use Rattle.answers.specs.declared.Refusal.{Refusal}
use Rattle.tables.specs.Table.{table_room, check_says, Good}
use Rattle.tables.specs.BookNumbers.{one_book, only_book}
use Rattle.wording.specs.Text.{refused_text}
use Rattle.runs.specs.Run.{coordinates_in}
use Rattle.runs.specs.Sending.{records_length, records_of, send_says, send_leaves}
use Rattle.runs.specs.File.{run_of, run_room}
use Rattle.sender.specs.Prints.{sender_prints}

pub record Steps (t : List ℕ) : Type 0 where
  -- a table file may be too long: as many bytes as there is room for are checked, sent and printed as all of them
  pub table_checked : check_says (take table_room t) ≡ check_says t
  pub table_sent : (run : List Float) (held : List ℕ)
      → (send_says (take table_room t) one_book only_book run held ≡ send_says t one_book only_book run held)
      × (send_leaves (take table_room t) one_book only_book run held ≡ send_leaves t one_book only_book run held)
  pub table_printed : (bytes : List ℕ) → sender_prints (take table_room t) bytes ≡ sender_prints t bytes
  -- a table that the check refuses: its refusal is what is printed
  pub bad_table_lem : (bytes : List ℕ) (r : Refusal) → meaning r ≡ check_says t → refused_text (printed (meaning r)) ≡ sender_prints t bytes
  -- a file of coefficients may be too long: as many bytes as there is room for are sent as all of them
  pub enough_read : Good t → (bytes held : List ℕ)
      → (send_says t one_book only_book (run_of (take run_room bytes)) held ≡ send_says t one_book only_book (run_of bytes) held)
      × (send_leaves t one_book only_book (run_of (take run_room bytes)) held ≡ send_leaves t one_book only_book (run_of bytes) held)
  -- with a good table and a buffer of 8 bytes a place a refusal is 4 for the run, or 11 with a place and a
  -- coordinate; so it is never 7
  pub refused_only_lem : Good t → (run : List Float) (held : List ℕ) → length held ≡ records_length t → (r : Refusal)
      → meaning r ≡ send_says t one_book only_book run held
      → ((meaning r ≡ 4 ∷ []) × (length run ≡ coordinates_in t → ⊥)) ⊎ ((p : ℕ) × (i : ℕ) × (meaning r ≡ 11 ∷ p ∷ i ∷ []))
  -- a refusal of send is what is printed
  pub refused : (bytes held : List ℕ) → length held ≡ records_length t → (r : Refusal) → meaning r ≡ send_says t one_book only_book (run_of bytes) held
      → refused_text (printed (meaning r)) ≡ sender_prints t bytes
  -- the page is sent: the buffer, which is written to the file, holds the records, and nothing is printed
  pub sent : (bytes held : List ℕ) → length held ≡ records_length t → 0 ∷ [] ≡ send_says t one_book only_book (run_of bytes) held
      → (send_leaves t one_book only_book (run_of bytes) held ≡ records_of t only_book (run_of bytes)) × (sender_prints t bytes ≡ [])
