-- The steps of the sender, for any table.
use Prim.Native.Nat.{ℕ, ◌≤◌, ◌<◌}
use mathlib.Core.Bool.{Bool, true, false, not, ◌||◌}
use mathlib.Core.List.{List, [], ◌∷◌, ◌++◌}
use mathlib.Core.Logic.{◌⊎◌, inl, inr, ⊎_elim}
use mathlib.Core.Path.{◌≡◌, refl, sym, ap, ◌∙◌}
use native.Mathlib.Decide.{ℕ_discrete, dec_le}
use native.Mathlib.Nat.{le_refl, le_of_eq}
use native.Mathlib.Omega.{arith}
use borrow.Author.Tests.{eq-eqb, ne_eqb}
use lib.Dec.{lit<}
use lib.Ieee.{Float}
use lib.ListN.{length, take, replicate, length-replicate}
use lib.Seq.{take_all, length-take-le}
use Rattle.answers.proofs.InOrder.{numbered_then, says_passes, passes_leaves, passes_fails, fails_then, refusal_fails, refused_says, passed_says, passed_leaves}
use Rattle.answers.specs.Checks.{Check, first_of, leaves, each_from, pick, any_of, fails_of, wrong_length, Passes}
use Rattle.answers.specs.Refusals.{meaning, printed}
use Rattle.answers.specs.declared.Refusal.{Refusal}
use Rattle.tables.proofs.Good.{good_place}
use Rattle.tables.proofs.PlaceChecks.{book_numbered, passes_book}
use Rattle.tables.proofs.Seven.{room_tells}
use Rattle.tables.proofs.Walking.{first_place}
use Rattle.tables.specs.BookNumbers.{one_book, only_book, book_check, book_checks}
use Rattle.tables.specs.Table.{rows_of, wrong_size, table_room, places_in, row_check, table_checks, check_says, Good}
use Rattle.wording.specs.Text.{refused_text}
use Rattle.runs.proofs.Judging.{run_numbered}
use Rattle.runs.proofs.Positions.{before_to, ends_within}
use Rattle.runs.specs.Run.{coordinates_in}
use Rattle.runs.specs.Sending.{run_checks, records_length, send_rest, send_checks, records_of, send_says, send_leaves}
use Rattle.runs.specs.File.{run_of, run_room}
use Rattle.sender.specs.Prints.{sender_says, sender_prints}
use Rattle.sender.specs.Steps.{Steps}
use Rattle.sender.proofs.Run.{too_long}
use Rattle.sender.proofs.Named.{Eleven, run_names}

-- the checks of the table and its one book
abbrev opening : List ℕ → List Check
opening t = book_checks t one_book only_book

-- ---- a table of wrong size: 7 with row 0, whatever is checked behind its size
module _ (t : List ℕ) (wrong : wrong_size (length t) ≡ true) (cs : List Check) where
  abbrev sized : List Check
  sized = record { number = 7; values = 0 ∷ []; fails = wrong_size (length t) } ∷ cs

  wrong_says : (answer : List ℕ) → first_of sized answer ≡ 7 ∷ 0 ∷ []
  wrong_says answer = ap (λ (b : Bool). pick b (7 ∷ 0 ∷ []) (first_of cs answer)) wrong

  wrong_leaves : (made held : List ℕ) → leaves sized made held ≡ held
  wrong_leaves made held = ap (λ (b : Bool). pick b held (leaves cs made held)) wrong

  wrong_fails : any_of (fails_of sized) ≡ true
  wrong_fails = ap (λ (b : Bool). b || any_of (fails_of cs)) wrong

-- ---- what the program prints: the line of a refusal, or nothing
module _ (t bytes : List ℕ) where
  prints_line : {says : List ℕ} → says ≡ sender_says t bytes → any_of (fails_of (send_checks t one_book only_book (run_of bytes) (records_length t))) ≡ true
      → refused_text (printed says) ≡ sender_prints t bytes
  prints_line same fails =
      ap (λ (says : List ℕ). refused_text (printed says)) same ∙ sym (ap (λ (b : Bool). pick b (refused_text (printed (sender_says t bytes))) []) fails)

  prints_wrong : wrong_size (length t) ≡ true → refused_text (7 ∷ []) ≡ sender_prints t bytes
  prints_wrong wrong =
      let run = run_of bytes in
      let behind : ℕ → List Check = λ b. each_from (row_check t) 0 (rows_of t) ++ (book_check one_book only_book ∷ []) ++ send_rest t run b in
      prints_line (sym (wrong_says t wrong (behind (length (replicate (records_length t) 0))) (0 ∷ []))) (wrong_fails t wrong (behind (records_length t)))

  prints_checked : (r : Refusal) → meaning r ≡ check_says t → refused_text (printed (meaning r)) ≡ sender_prints t bytes
  prints_checked r says =
      let rest : ℕ → List Check = send_rest t (run_of bytes) in
      let told = refused_says (table_checks t) (book_check one_book only_book ∷ []) (places_in t ∷ []) (0 ∷ places_in t ∷ []) r says in
      let fails = refusal_fails (places_in t ∷ []) (opening t) r told in
      prints_line (refused_says (opening t) (rest (length (replicate (records_length t) 0))) (places_in t ∷ []) (0 ∷ []) r told)
      (fails_then (opening t) (rest (records_length t)) ∙ ap (λ (b : Bool). b || any_of (fails_of (rest (records_length t)))) fails)

  -- of a lent buffer only the length counts
  module _ (held : List ℕ) (room : length held ≡ records_length t) where
    prints_refused : (r : Refusal) → meaning r ≡ send_says t one_book only_book (run_of bytes) held → refused_text (printed (meaning r)) ≡ sender_prints t bytes
    prints_refused r says =
        let run = run_of bytes in
        prints_line (says ∙ ap (λ (b : ℕ). first_of (send_checks t one_book only_book run b) (0 ∷ [])) (room ∙ sym (length-replicate (records_length t) 0)))
        (ap (λ (b : ℕ). any_of (fails_of (send_checks t one_book only_book run b))) (sym room) ∙ refusal_fails [] (send_checks t one_book only_book run (length held)) r says)

    writes : 0 ∷ [] ≡ send_says t one_book only_book (run_of bytes) held → (send_leaves t one_book only_book (run_of bytes) held ≡ records_of t only_book (run_of bytes)) × (sender_prints t bytes ≡ [])
    writes says =
        let run = run_of bytes in
        let cs = send_checks t one_book only_book run (length held) in
        let numbered = numbered_then (opening t) (send_rest t run (length held)) (book_numbered t one_book only_book) (lit< tt, (lit< tt, run_numbered t run)) in
        let passes = says_passes [] [] cs numbered (sym says) in
        let none : any_of (fails_of (send_checks t one_book only_book run (records_length t))) ≡ false = ap (λ (b : ℕ). any_of (fails_of (send_checks t one_book only_book run b))) (sym room) ∙ passes_fails cs passes in
        (passes_leaves (records_of t only_book run) held cs passes, ap (λ (b : Bool). pick b (refused_text (printed (sender_says t bytes))) []) none)

-- ---- a good table
module _ (t : List ℕ) (good : Good t) where
  opened : Passes (opening t)
  opened = passes_book t one_book only_book (refl, good) (lit< tt)

  -- it has a coordinate at the least, and 65,536 at the most
  some_coordinates : 0 < coordinates_in t
  some_coordinates = let first = first_place t good in omega (arith, ends_within t 0 first, (good_place t 0 good first).1.length_from)

  few_coordinates : coordinates_in t ≤ 65536
  few_coordinates = before_to t good (places_in t) (le_refl (places_in t))

  -- a run of another length is refused 4, and leaves the buffer
  wrong_run : (run : List Float) (held : List ℕ) → wrong_length (length run) (coordinates_in t) ≡ true
      → (4 ∷ [] ≡ send_says t one_book only_book run held) × (held ≡ send_leaves t one_book only_book run held)
  wrong_run run held wrong =
      let rest = send_rest t run (length held) in
      let four : first_of rest (0 ∷ []) ≡ 4 ∷ [] = rw wrong refl in
      let kept : leaves rest (records_of t only_book run) held ≡ held = rw wrong refl in
      (sym four ∙ passed_says (opening t) rest (0 ∷ []) opened, sym kept ∙ passed_leaves (opening t) rest (records_of t only_book run) held opened)

  -- what is too long for the room is refused 4 either way
  enough : (bytes held : List ℕ)
      → (send_says t one_book only_book (run_of (take run_room bytes)) held ≡ send_says t one_book only_book (run_of bytes) held)
      × (send_leaves t one_book only_book (run_of (take run_room bytes)) held ≡ send_leaves t one_book only_book (run_of bytes) held)
  enough bytes held = go (dec_le (length bytes) run_room)
    where
      go : Dec (length bytes ≤ run_room)
          → (send_says t one_book only_book (run_of (take run_room bytes)) held ≡ send_says t one_book only_book (run_of bytes) held)
          × (send_leaves t one_book only_book (run_of (take run_room bytes)) held ≡ send_leaves t one_book only_book (run_of bytes) held)
      go (yes all) =
          let same = take_all run_room bytes all in
          (ap (λ (part : List ℕ). send_says t one_book only_book (run_of part) held) same, ap (λ (part : List ℕ). send_leaves t one_book only_book (run_of part) held) same)
      go (no long) =
          let n = coordinates_in t in
          let cut : run_room ≤ length (take run_room bytes) = le_of_eq (sym (length-take-le run_room bytes (omega arith))) in
          let part = wrong_run (run_of (take run_room bytes)) held (too_long (take run_room bytes) n cut some_coordinates few_coordinates) in
          let whole = wrong_run (run_of bytes) held (too_long bytes n (omega arith) some_coordinates few_coordinates) in
          (sym part.0 ∙ whole.0, sym part.1 ∙ whole.1)

  -- with the right buffer the run decides
  only : (run : List Float) (held : List ℕ) → length held ≡ records_length t → (r : Refusal) → meaning r ≡ send_says t one_book only_book run held
      → ((meaning r ≡ 4 ∷ []) × (length run ≡ coordinates_in t → ⊥)) ⊎ Eleven (meaning r)
  only run held room r says = go (ℕ_discrete (length run) (coordinates_in t))
    where
      go : Dec (length run ≡ coordinates_in t) → ((meaning r ≡ 4 ∷ []) × (length run ≡ coordinates_in t → ⊥)) ⊎ Eleven (meaning r)
      go (yes long) =
          let rest = send_rest t run (length held) in
          let decides : first_of rest (0 ∷ []) ≡ first_of (run_checks t run) (0 ∷ []) = rw (eq-eqb (length run) (coordinates_in t) long, eq-eqb (length held) (records_length t) room) refl in
          inr (run_names t run r (says ∙ sym (passed_says (opening t) rest (0 ∷ []) opened) ∙ decides))
      go (no other) = inl (says ∙ sym (wrong_run run held (ap not (ne_eqb (length run) (coordinates_in t) other))).0, other)

module _ (t : List ℕ) where
  -- ---- a table as far as it is read: all of it, or both are of wrong size
  read_checked : check_says (take table_room t) ≡ check_says t
  read_checked =
      ⊎_elim (λ all. ap check_says all)
      (λ both. wrong_says (take table_room t) both.0 (each_from (row_check (take table_room t)) 0 (rows_of (take table_room t))) (0 ∷ places_in (take table_room t) ∷ [])
      ∙ sym (wrong_says t both.1 (each_from (row_check t) 0 (rows_of t)) (0 ∷ places_in t ∷ [])))
      (room_tells t)

  module _ (run : List Float) (held : List ℕ) where
    behind : List ℕ → List Check
    behind u = each_from (row_check u) 0 (rows_of u) ++ (book_check one_book only_book ∷ []) ++ send_rest u run (length held)

    read_sent : (send_says (take table_room t) one_book only_book run held ≡ send_says t one_book only_book run held) × (send_leaves (take table_room t) one_book only_book run held ≡ send_leaves t one_book only_book run held)
    unfolding behind
    read_sent =
        let u = take table_room t in
        ⊎_elim (λ all. (ap (λ (v : List ℕ). send_says v one_book only_book run held) all, ap (λ (v : List ℕ). send_leaves v one_book only_book run held) all))
        (λ both. (wrong_says u both.0 (behind u) (0 ∷ []) ∙ sym (wrong_says t both.1 (behind t) (0 ∷ [])), wrong_leaves u both.0 (behind u) (records_of u only_book run) held ∙ sym (wrong_leaves t both.1 (behind t) (records_of t only_book run) held)))
        (room_tells t)

  read_printed : (bytes : List ℕ) → sender_prints (take table_room t) bytes ≡ sender_prints t bytes
  read_printed bytes =
      ⊎_elim (λ all. ap (λ (v : List ℕ). sender_prints v bytes) all)
      (λ both. sym (prints_wrong (take table_room t) bytes both.0) ∙ prints_wrong t bytes both.1)
      (room_tells t)

  pub steps : Steps t
  steps = record {
    table_checked = read_checked;
    table_sent = read_sent;
    table_printed = read_printed;
    bad_table_lem = prints_checked t;
    enough_read = enough t;
    refused_only_lem = only t;
    refused = prints_refused t;
    sent = writes t;
  }
