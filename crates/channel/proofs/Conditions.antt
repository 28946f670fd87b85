-- The conditions of each call give the number that its checks give: checks of one number that stand one behind the
-- other are one condition.
use Prim.Native.Nat.{ℕ}
use mathlib.Core.Path.{◌≡◌, refl, ◌∙◌}
use mathlib.Core.List.{List, [], ◌∷◌, ◌++◌, append_assoc}
use mathlib.Core.Bool.{Bool, true, false}
use lib.Ieee.{Float}
use lib.ListN.{length}
use Rattle.answers.specs.Checks.{number_said, Check, length_check, pick, first_of, each_from}
use Rattle.answers.proofs.OneNumber.{OfNumber, each_of, one_number, one_number_last}
use Rattle.enumeration.specs.Enumerations.{selected_by}
use Rattle.indexing.specs.Calls.{past_end_check, empty_check, point_checks}
use Rattle.tables.specs.BookNumbers.{books_check, book_check}
use Rattle.tables.specs.Table.{places_in, table_checks, place_check, row_of, row_for, length_for}
use Rattle.tables.proofs.Seven.{table_of_7}
use Rattle.records.specs.Record.{record_check, book_in, place_in}
use Rattle.coefficients.specs.Coefficients.{usable_check, usable_checks}
use Rattle.quantizer.specs.Calls.{quantize_rest, quantize_checks}
use Rattle.runs.specs.Run.{coordinates_in}
use Rattle.runs.specs.Sending.{run_checks, records_length, send_rest, send_checks}
use Rattle.runs.proofs.Judging.{run_of_11}
use Rattle.rules.specs.Modes.{mode_check}
use Rattle.rules.specs.Layouts.{convert_checks}
use Rattle.rules.specs.Taking.{cell_for, page_check, foreign_check, cell_check, own_cell_check, cell_check_at, take_rest, take_checks}
use Rattle.rules.specs.Reading.{read_rest, read_checks, coefficient_rest, coefficient_checks}
use Rattle.rules.specs.Tallying.{tally_rest, tally_checks}
use Rattle.reporting.specs.Calls.{no_room, lines_fit, lines_rest, lines_checks}
use Rattle.channel.specs.Demand1.{condition, with_table, with_books, with_mode, no_place, point_conditions, quantize_conditions, send_conditions, take_conditions, convert_conditions, read_conditions, coefficient_conditions, tally_conditions, lines_conditions}

-- the same number is said by both, whatever the answer
pub record Alike (cs ds : List Check) : Type 0 where
  pub said : (answer : List ℕ) → number_said (first_of cs answer) ≡ number_said (first_of ds answer)

pub alike : (cs : List Check) → Alike cs cs
alike cs = record { said = λ answer. refl }

-- behind one check
behind : {cs ds : List Check} (c : Check) → Alike cs ds → Alike (c ∷ cs) (c ∷ ds)
behind {cs} {ds} c same = record { said = λ answer. go answer c.fails }
  where
    go : (answer : List ℕ) (b : Bool)
        → number_said (pick b (c.number ∷ c.values) (first_of cs answer)) ≡ number_said (pick b (c.number ∷ c.values) (first_of ds answer))
    go answer true = refl
    go answer false = same.said answer

-- behind checks of one number, and the last ones
grouped : {rest conditions : List Check} (n : ℕ) (cs : List Check) → OfNumber n cs → Alike rest conditions → Alike (cs ++ rest) (condition n cs ∷ conditions)
grouped {rest} n cs of same =
    record { said = λ answer. one_number answer n cs rest of ∙ (behind (condition n cs) same).said answer }

grouped_last : (n : ℕ) (cs : List Check) → OfNumber n cs → Alike cs (condition n cs ∷ [])
grouped_last n cs of = record { said = λ answer. one_number_last answer n cs of }

-- behind a table
by_table : {checks rest conditions : List Check} (t : List ℕ) → checks ≡ table_checks t ++ rest → Alike rest conditions → Alike checks (with_table t conditions)
by_table t is same = rw is (grouped 7 (table_checks t) (table_of_7 t) same)

-- the number of books before it
by_books : {checks rest conditions : List Check} (t : List ℕ) (books : ℕ) → checks ≡ table_checks t ++ rest → Alike rest conditions
    → Alike (books_check books ∷ checks) (with_books t books conditions)
by_books t books is same = behind (books_check books) (by_table t is same)

-- and a mode before that
by_mode : {checks rest conditions : List Check} (mode : ℕ) (t : List ℕ) (books : ℕ) → checks ≡ table_checks t ++ rest → Alike rest conditions
    → Alike (mode_check mode ∷ books_check books ∷ checks) (with_mode mode t books conditions)
by_mode mode t books is same = behind (mode_check mode) (by_books t books is same)

-- a book and a place are one condition
by_place : {rest conditions : List Check} (t : List ℕ) (books book p : ℕ) → Alike rest conditions
    → Alike (book_check books book ∷ place_check t p ∷ rest) (no_place t books book p ∷ conditions)
by_place t books book p same = grouped 8 (book_check books book ∷ place_check t p ∷ []) (refl, (refl, tt)) same

-- ---- the calls
pub point_alike : (v l k n b : ℕ) → Alike (point_checks v l k n b) (point_conditions v l k n b)
point_alike v l k n b = behind _ (behind _ (behind _ (behind _ (behind _ (grouped 6 (past_end_check n ((selected_by v).total l k) ∷ []) (refl, tt) (alike (empty_check (selected_by v) l k n ∷ [])))))))

module _ (t : List ℕ) where
  pub check_alike : Alike (table_checks t) (with_table t [])
  check_alike = grouped_last 7 (table_checks t) (table_of_7 t)

  module _ (books : ℕ) where
    -- what stands behind the table: a book, a page, a book and a place, a book and a page, or all of them
    booked : (book : ℕ) (rest : List Check) → (table_checks t ++ (book_check books book ∷ [])) ++ rest ≡ table_checks t ++ book_check books book ∷ rest
    booked book rest = append_assoc (table_checks t) (book_check books book ∷ []) rest

    paged : (pg : List ℕ) (rest : List Check) → (table_checks t ++ (page_check t books pg ∷ [])) ++ rest ≡ table_checks t ++ page_check t books pg ∷ rest
    paged pg rest = append_assoc (table_checks t) (page_check t books pg ∷ []) rest

    placed : (book p : ℕ) (rest : List Check)
        → ((table_checks t ++ (book_check books book ∷ [])) ++ (place_check t p ∷ [])) ++ rest ≡ table_checks t ++ book_check books book ∷ place_check t p ∷ rest
    placed book p rest = append_assoc (table_checks t ++ (book_check books book ∷ [])) (place_check t p ∷ []) rest ∙ booked book (place_check t p ∷ rest)

    tallied : (book : ℕ) (pg : List ℕ) (rest : List Check)
        → ((table_checks t ++ (book_check books book ∷ [])) ++ (page_check t books pg ∷ [])) ++ rest ≡ table_checks t ++ book_check books book ∷ page_check t books pg ∷ rest
    tallied book pg rest = append_assoc (table_checks t ++ (book_check books book ∷ [])) (page_check t books pg ∷ []) rest ∙ booked book (page_check t books pg ∷ rest)

    looked : (book : ℕ) (pg : List ℕ) (p : ℕ) (rest : List Check)
        → (((table_checks t ++ (book_check books book ∷ [])) ++ (place_check t p ∷ [])) ++ (page_check t books pg ∷ [])) ++ rest
        ≡ table_checks t ++ book_check books book ∷ place_check t p ∷ page_check t books pg ∷ rest
    looked book pg p rest =
        append_assoc ((table_checks t ++ (book_check books book ∷ [])) ++ (place_check t p ∷ [])) (page_check t books pg ∷ []) rest
        ∙ placed book p (page_check t books pg ∷ rest)

    pub quantize_alike : (book p : ℕ) (w : List Float) (b : ℕ)
        → Alike (quantize_checks t books book p w b) (with_books t books (quantize_conditions t books book p w b))
    quantize_alike book p w b =
        by_books t books (placed book p (quantize_rest (row_for t p) w b))
        (by_place t books book p
        (grouped 4 (length_check (length w) (length_for t p) ∷ record_check b ∷ []) (refl, (refl, tt))
        (grouped_last 11 (usable_checks w) (each_of (usable_check w) 11 0 (length w) (λ j. refl)))))

    pub send_alike : (book : ℕ) (run : List Float) (b : ℕ)
        → Alike (send_checks t books book run b) (with_books t books (send_conditions t books book run b))
    send_alike book run b =
        by_books t books (booked book (send_rest t run b))
        (behind (book_check books book)
        (grouped 4 (length_check (length run) (coordinates_in t) ∷ length_check b (records_length t) ∷ []) (refl, (refl, tt))
        (grouped_last 11 (run_checks t run) (run_of_11 t run))))

    pub take_alike : (pg x : List ℕ) → Alike (take_checks t books pg x) (with_books t books (take_conditions t books pg x))
    take_alike pg x =
        by_books t books (paged pg (take_rest t books pg x))
        (grouped 4 (page_check t books pg ∷ record_check (length x) ∷ []) (refl, (refl, tt))
        (by_place t books (book_in x) (place_in x) (alike (foreign_check t x ∷ own_cell_check t pg x ∷ []))))

    pub convert_alike : (pg held : List ℕ) → Alike (convert_checks t books pg held) (with_books t books (convert_conditions t books pg held))
    convert_alike pg held =
        by_books t books (paged pg (page_check t books held ∷ []))
        (grouped_last 4 (page_check t books pg ∷ page_check t books held ∷ []) (refl, (refl, tt)))

    module _ (mode book : ℕ) (pg : List ℕ) where
      pub read_alike : (p b : ℕ) → Alike (read_checks mode t books book pg p b) (with_mode mode t books (read_conditions t books book pg p b))
      read_alike p b =
          by_mode mode t books (looked book pg p (read_rest (row_for t p) book p (row_of t p) (cell_for t pg book p) b))
          (by_place t books book p
          (grouped 4 (page_check t books pg ∷ length_check b (length_for t p) ∷ []) (refl, (refl, tt))
          (alike (cell_check book p (row_of t p) (cell_for t pg book p) ∷ []))))

      pub coefficient_alike : (p i : ℕ)
          → Alike (coefficient_checks mode t books book pg p i) (with_mode mode t books (coefficient_conditions t books book pg p i))
      coefficient_alike p i =
          by_mode mode t books (looked book pg p (coefficient_rest (row_for t p) book p (row_of t p) (cell_for t pg book p) i))
          (by_place t books book p (alike (page_check t books pg ∷ coefficient_rest (row_for t p) book p (row_of t p) (cell_for t pg book p) i)))

      pub tally_alike : Alike (tally_checks mode t books book pg) (with_mode mode t books (tally_conditions t books book pg))
      tally_alike =
          by_mode mode t books (tallied book pg (tally_rest t pg book))
          (behind (book_check books book)
          (behind (page_check t books pg) (grouped_last 12 (tally_rest t pg book) (each_of (cell_check_at t pg book) 12 0 (places_in t) (λ j. refl)))))

      pub lines_alike : (p b : ℕ) → Alike (lines_checks mode t books book pg p b) (with_mode mode t books (lines_conditions t books book pg p b))
      lines_alike p b =
          by_mode mode t books (looked book pg p (lines_rest t pg book p b))
          (by_place t books book p
          (grouped 4 (page_check t books pg ∷ no_room b ∷ []) (refl, (refl, tt))
          (grouped_last 12 (each_from (cell_check_at t pg book) p (lines_fit t p b)) (each_of (cell_check_at t pg book) 12 p (lines_fit t p b) (λ j. refl)))))
