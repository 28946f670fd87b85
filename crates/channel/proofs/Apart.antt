-- Books apart: a call about a book looks at no other book's cells, and the cells of a book go by what claims a place in
-- that book.
use Prim.Native.Nat.{ℕ, ◌+◌, ◌<◌}
use mathlib.Core.Bool.{Bool, true, false, false≢true}
use mathlib.Core.List.{List, [], ◌∷◌, ◌++◌}
use mathlib.Core.Logic.{◌⊎◌, inl, inr}
use mathlib.Core.Path.{◌≡◌, refl, sym, subst, ap, ap₂, ◌∙◌}
use native.Mathlib.Decide.{dec_lt}
use native.Mathlib.Omega.{arith}
use borrow.Author.Tests.{leb-false}
use lib.ListN.{length}
use Rattle.answers.specs.Checks.{Check, pick, any_of, first_of, leaves, fails_of, each_from, Passes}
use Rattle.buffers.proofs.Joining.{joined_equal}
use Rattle.tables.specs.BookNumbers.{book_check, book_checks, place_checks, sharing_checks}
use Rattle.tables.specs.Table.{places_in, place_check, row_of, row_for}
use Rattle.records.specs.Record.{record_check, book_in, place_in}
use Rattle.layout.proofs.Books.{book_beyond, book_ext, same_cells}
use Rattle.layout.proofs.Cells.{empty_size}
use Rattle.layout.specs.Layout.{Cell, cells_of, page_length_check}
use Rattle.rules.specs.Judging.{judge, answer_number, shown}
use Rattle.rules.specs.Modes.{mode_check}
use Rattle.rules.specs.Reading.{told, carried_by, read_rest, coefficient_rest, look_checks}
use Rattle.rules.specs.Taking.{cell_for, bad_cell, cell_check, cell_check_at, page_check, page_checks, foreign_check, own_cell_check, take_rest, take_leaves, take_says, Received, empty, new_page, grown}
use Rattle.rules.specs.Tallying.{answer_at, tally_of, tally_rest, tally_says, whole_checks}
use Rattle.laws.proofs.Arrivals.{taken_cell, taken_size, shut_leaves}
use Rattle.laws.proofs.CellAfter.{cell_after, cell_after_lem, after_ready, passes_by}
use Rattle.laws.proofs.Claims.{Claims, is_claim, no_claim, next_cell}
use Rattle.laws.proofs.Pages.{Sized, page_size, ready_or_shut, whole_page, look_shared, look_place, look_size}
use Rattle.laws.proofs.Runs.{shut_after}
use Rattle.reporting.specs.Calls.{no_room, starting_with, lines_fit, lines_rest, lines_text, lines_answer, lines_says, lines_leaves}
use Rattle.reporting.specs.Listing.{line_at, line_in}
use Rattle.channel.specs.Apart.{claims_in, claiming_in, book_is, LooksAtItsOwn, SameBook, SameAnswers, Apart}
use Rattle.channel.proofs.Behind.{says_behind, leaves_behind, each_same, counts_same}

-- ---- two pages of one length that have the same bytes in a book
module _ (t : List ℕ) (books : ℕ) (pg pg' : List ℕ) (long : length pg ≡ length pg') where
  -- are refused alike
  paged : page_check t books pg ≡ page_check t books pg'
  paged = ap (λ (n : ℕ). page_length_check (cells_of (places_in t) books) n) long

  page_alike : page_checks t books pg ≡ page_checks t books pg'
  page_alike = ap (λ (c : Check). sharing_checks t books ++ (c ∷ [])) paged

  module _ (book : ℕ) (same : book_is t pg book ≡ book_is t pg' book) where
    -- and have the same cells in the book
    same_cell : Sized t books pg → book < books → (p : ℕ) → p < places_in t → cell_for t pg book p ≡ cell_for t pg' book p
    same_cell size k p h = same_cells (places_in t) books pg pg' size (sym long ∙ size) book k same p h

    -- so that 12 is judged alike at each place
    checks_same : (p n : ℕ) → ((i : ℕ) → i < p + n → cell_for t pg book i ≡ cell_for t pg' book i)
        → each_from (cell_check_at t pg book) p n ≡ each_from (cell_check_at t pg' book) p n
    checks_same p n cell = each_same (cell_check_at t pg book) (cell_check_at t pg' book) p n (λ i from to. ap (check_of i) (cell i to))
      where
        check_of : ℕ → Cell → Check
        check_of i c = record { number = 12; values = i ∷ []; fails = bad_cell book i (row_of t i) c }

    -- ---- take: what is said of a record, and what is left in the book
    record_says : (x : List ℕ) → book_in x ≡ book → take_says t books pg x ≡ take_says t books pg' x
    record_says x e =
        says_behind (page_checks t books pg) (take_rest t books pg x) (take_rest t books pg' x) (0 ∷ []) (0 ∷ [])
        (λ ready. says_behind before (own_cell_check t pg x ∷ []) (own_cell_check t pg' x ∷ []) (0 ∷ []) (0 ∷ []) (λ passes. ap own (cell ready passes)))
        ∙ ap (λ (cs : List Check). first_of (cs ++ take_rest t books pg' x) (0 ∷ [])) page_alike
      where
        before : List Check
        before = record_check (length x) ∷ book_check books (book_in x) ∷ place_check t (place_in x) ∷ foreign_check t x ∷ []

        own : Cell → List ℕ
        own c = first_of (cell_check (book_in x) (place_in x) (row_of t (place_in x)) c ∷ []) (0 ∷ [])

        cell : Passes (page_checks t books pg) → Passes before → cell_for t pg (book_in x) (place_in x) ≡ cell_for t pg' (book_in x) (place_in x)
        cell ready passes = rw e (same_cell (page_size t books pg ready) (rw e at (leb-false books (book_in x) passes.1.0)) (place_in x)
            (leb-false (places_in t) (place_in x) passes.1.1.0))

    left_in : (x : List ℕ) → book_is t (take_leaves t books pg x) book ≡ book_is t (take_leaves t books pg' x) book
    left_in x = go (ready_or_shut t books pg)
      where
        shut : any_of (fails_of (page_checks t books pg)) ≡ true → book_is t (take_leaves t books pg x) book ≡ book_is t (take_leaves t books pg' x) book
        shut e =
            ap (λ (page : List ℕ). book_is t page book) (shut_leaves t books pg e x)
            ∙ same
            ∙ sym (ap (λ (page : List ℕ). book_is t page book) (shut_leaves t books pg' (ap (λ (cs : List Check). any_of (fails_of cs)) (sym page_alike) ∙ e) x))

        taken : Passes (page_checks t books pg) → Passes (page_checks t books pg') → Dec (book < books)
            → book_is t (take_leaves t books pg x) book ≡ book_is t (take_leaves t books pg' x) book
        taken ready ready' (yes k) =
            let size = page_size t books pg ready in
            book_ext (places_in t) books (take_leaves t books pg x) (take_leaves t books pg' x)
            (taken_size t books pg ready x ∙ size) (taken_size t books pg' ready' x ∙ page_size t books pg' ready') book k
            (λ p h. taken_cell t books pg ready x book p k h ∙ ap (next_cell t books book p x) (same_cell size k p h) ∙ sym (taken_cell t books pg' ready' x book p k h))
        taken ready ready' (no none) =
            book_beyond (places_in t) books (take_leaves t books pg x) (taken_size t books pg ready x ∙ page_size t books pg ready) book (omega arith)
            ∙ sym (book_beyond (places_in t) books (take_leaves t books pg' x) (taken_size t books pg' ready' x ∙ page_size t books pg' ready') book (omega arith))

        go : Passes (page_checks t books pg) ⊎ (any_of (fails_of (page_checks t books pg)) ≡ true)
            → book_is t (take_leaves t books pg x) book ≡ book_is t (take_leaves t books pg' x) book
        go (inl ready) = taken ready (subst Passes page_alike ready) (dec_lt book books)
        go (inr e) = shut e

    -- ---- one place: read, coefficient and the lines from there on
    module _ (mode p : ℕ) where
      look_alike : look_checks mode t books book pg p ≡ look_checks mode t books book pg' p
      look_alike = ap (λ (c : Check). mode_check mode ∷ place_checks t books book p ++ (c ∷ [])) paged

      module _ (ready : Passes (look_checks mode t books book pg p)) where
        looked_cell : (q : ℕ) → q < places_in t → cell_for t pg book q ≡ cell_for t pg' book q
        looked_cell q h = same_cell (look_size mode t books book pg p ready) (look_shared mode t books book pg p ready).1 q h

        place_cell : cell_for t pg book p ≡ cell_for t pg' book p
        place_cell = looked_cell p (look_place mode t books book pg p ready).1

      -- what is said and left behind the checks of a place, where that goes by its cell
      place_says : (rest : Cell → List Check) (answer : Cell → List ℕ)
          → first_of (look_checks mode t books book pg p ++ rest (cell_for t pg book p)) (answer (cell_for t pg book p))
          ≡ first_of (look_checks mode t books book pg' p ++ rest (cell_for t pg' book p)) (answer (cell_for t pg' book p))
      place_says rest answer =
          says_behind (look_checks mode t books book pg p) (rest (cell_for t pg book p)) (rest (cell_for t pg' book p))
          (answer (cell_for t pg book p)) (answer (cell_for t pg' book p))
          (λ ready. ap (λ (c : Cell). first_of (rest c) (answer c)) (place_cell ready))
          ∙ ap (λ (cs : List Check). first_of (cs ++ rest (cell_for t pg' book p)) (answer (cell_for t pg' book p))) look_alike

      place_leaves : {A : Type 0} (rest : Cell → List Check) (made : Cell → A) (held : A)
          → leaves (look_checks mode t books book pg p ++ rest (cell_for t pg book p)) (made (cell_for t pg book p)) held
          ≡ leaves (look_checks mode t books book pg' p ++ rest (cell_for t pg' book p)) (made (cell_for t pg' book p)) held
      place_leaves rest made held =
          leaves_behind (look_checks mode t books book pg p) (rest (cell_for t pg book p)) (rest (cell_for t pg' book p))
          (made (cell_for t pg book p)) (made (cell_for t pg' book p)) held held refl
          (λ ready. ap (λ (c : Cell). leaves (rest c) (made c) held) (place_cell ready))
          ∙ ap (λ (cs : List Check). leaves (cs ++ rest (cell_for t pg' book p)) (made (cell_for t pg' book p)) held) look_alike

      -- the lines that fit into b bytes are those of places of the book
      module _ (b : ℕ) (ready : Passes (look_checks mode t books book pg p)) where
        fits : (i : ℕ) → i < p + lines_fit t p b → i < places_in t
        fits i h = omega (arith, (look_place mode t books book pg p ready).1)

        rest_same : lines_rest t pg book p b ≡ lines_rest t pg' book p b
        rest_same = ap (λ (cs : List Check). no_room b ∷ cs) (checks_same p (lines_fit t p b) (λ i to. looked_cell ready i (fits i to)))

        text_same : lines_text mode t pg book p b ≡ lines_text mode t pg' book p b
        text_same = joined_equal (line_at mode t pg book) (line_at mode t pg' book) p (lines_fit t p b)
            (λ i from to. ap (λ (c : Cell). line_in mode (row_for t i) i c) (looked_cell ready i (fits i to)))

      lines_said : (held : List ℕ) → lines_says mode t books book pg p held ≡ lines_says mode t books book pg' p held
      lines_said held =
          says_behind (look_checks mode t books book pg p) (lines_rest t pg book p (length held)) (lines_rest t pg' book p (length held))
          (lines_answer mode t pg book p (length held)) (lines_answer mode t pg' book p (length held))
          (λ ready. ap₂ (λ (cs : List Check) (text : List ℕ). first_of cs (0 ∷ (p + lines_fit t p (length held)) ∷ length text ∷ []))
          (rest_same (length held) ready) (text_same (length held) ready))
          ∙ ap (λ (cs : List Check). first_of (cs ++ lines_rest t pg' book p (length held)) (lines_answer mode t pg' book p (length held))) look_alike

      lines_left : (held : List ℕ) → lines_leaves mode t books book pg p held ≡ lines_leaves mode t books book pg' p held
      lines_left held =
          leaves_behind (look_checks mode t books book pg p) (lines_rest t pg book p (length held)) (lines_rest t pg' book p (length held))
          (starting_with (lines_text mode t pg book p (length held)) held) (starting_with (lines_text mode t pg' book p (length held)) held) held held refl
          (λ ready. ap₂ (λ (cs : List Check) (text : List ℕ). leaves cs (starting_with text held) held)
          (rest_same (length held) ready) (text_same (length held) ready))
          ∙ ap (λ (cs : List Check). leaves (cs ++ lines_rest t pg' book p (length held)) (starting_with (lines_text mode t pg' book p (length held)) held) held) look_alike

    -- ---- all places: tally
    tallied : (mode : ℕ) → tally_says mode t books book pg ≡ tally_says mode t books book pg'
    tallied mode =
        says_behind (whole_checks mode t books book pg) (tally_rest t pg book) (tally_rest t pg' book) (0 ∷ tally_of mode t pg book) (0 ∷ tally_of mode t pg' book)
        (λ ready. ap₂ (λ (cs : List Check) (counts : List ℕ). first_of cs (0 ∷ counts))
        (checks_same 0 (places_in t) (λ i to. cell ready i (omega arith)))
        (counts_same (answer_at mode t pg book) (answer_at mode t pg' book) (places_in t) (λ i h. ap (λ (c : Cell). answer_number (judge mode (row_for t i) c)) (cell ready i h))))
        ∙ ap (λ (c : Check). first_of ((mode_check mode ∷ book_checks t books book ++ (c ∷ [])) ++ tally_rest t pg' book) (0 ∷ tally_of mode t pg' book)) paged
      where
        cell : Passes (whole_checks mode t books book pg) → (i : ℕ) → i < places_in t → cell_for t pg book i ≡ cell_for t pg' book i
        cell ready i h =
            let whole = whole_page mode t books book pg ready in
            same_cell (page_size t books pg whole.0) whole.1 i h

-- no call looks at another book's cells
looks : LooksAtItsOwn
looks t books book pg pg' long same = record {
  take_says_lem = record_says t books pg pg' long book same;
  take_leaves_lem = left_in t books pg pg' long book same;
  read_says_lem = λ mode p out. place_says t books pg pg' long book same mode p (λ (c : Cell). read_rest (row_for t p) book p (row_of t p) c (length out))
      (λ (c : Cell). told (judge mode (row_for t p) c));
  read_leaves_lem = λ mode p out. place_leaves t books pg pg' long book same mode p (λ (c : Cell). read_rest (row_for t p) book p (row_of t p) c (length out))
      (λ (c : Cell). shown (row_for t p) (judge mode (row_for t p) c)) out;
  coefficient_says_lem = λ mode p i. place_says t books pg pg' long book same mode p (λ (c : Cell). coefficient_rest (row_for t p) book p (row_of t p) c i)
      (λ (c : Cell). told (judge mode (row_for t p) c));
  coefficient_carries_lem = λ mode p i. place_leaves t books pg pg' long book same mode p (λ (c : Cell). coefficient_rest (row_for t p) book p (row_of t p) c i)
      (λ (c : Cell). carried_by (row_for t p) (judge mode (row_for t p) c) i) [];
  tally_says_lem = tallied t books pg pg' long book same;
  lines_says_lem = lines_said t books pg pg' long book same;
  lines_leaves_lem = lines_left t books pg pg' long book same;
}

-- ---- from empty books on
-- a cell goes by what claims a place in its book
by_claiming : (t : List ℕ) (books book p : ℕ) (c : Cell) (xs : List (List ℕ))
    → cell_after t books book p c xs ≡ cell_after t books book p c (claiming_in t books book xs)
unfolding cell_after claiming_in
by_claiming t books book p c [] = refl
by_claiming t books book p c (x ∷ xs) =
    go (claims_in t books book x) refl (by_claiming t books book p (next_cell t books book p x c) xs) (by_claiming t books book p c xs)
  where
    go : (b : Bool) → claims_in t books book x ≡ b
        → cell_after t books book p (next_cell t books book p x c) xs ≡ cell_after t books book p (next_cell t books book p x c) (claiming_in t books book xs)
        → cell_after t books book p c xs ≡ cell_after t books book p c (claiming_in t books book xs)
        → cell_after t books book p (next_cell t books book p x c) xs
        ≡ cell_after t books book p c (pick b (x ∷ claiming_in t books book xs) (claiming_in t books book xs))
    go true e with_it without = with_it
    go false e with_it without =
        ap (λ (d : Cell). cell_after t books book p d xs) (passes_by t books book p x c (no_claim t books x book p (λ claim. false≢true (sym e ∙ own claim))))
        ∙ without
      where
        own : Claims t books x book p → claims_in t books book x ≡ true
        own claim = rw claim.named (is_claim t books x book p claim)

module _ (t : List ℕ) (books : ℕ) where
  -- all grown pages have one length
  grown_long : (xs : List (List ℕ)) → length (grown t books xs) ≡ length (new_page t books)
  grown_long xs = go (ready_or_shut t books (new_page t books))
    where
      go : Passes (page_checks t books (new_page t books)) ⊎ (any_of (fails_of (page_checks t books (new_page t books))) ≡ true)
          → length (grown t books xs) ≡ length (new_page t books)
      go (inl ready) = page_size t books (grown t books xs) (after_ready t books (empty t books) xs ready) ∙ sym (page_size t books (new_page t books) ready)
      go (inr shut) = ap (λ (s : Received). length s.page) (shut_after t books (empty t books) xs shut)

  grown_size : (xs : List (List ℕ)) → Sized t books (grown t books xs)
  grown_size xs = grown_long xs ∙ empty_size (cells_of (places_in t) books)

same_book : SameBook
same_book t books book xs ys same = go (ready_or_shut t books (new_page t books)) (dec_lt book books)
  where
    left : List (List ℕ) → List ℕ
    left zs = book_is t (grown t books zs) book

    stays : any_of (fails_of (page_checks t books (new_page t books))) ≡ true → (zs : List (List ℕ)) → left zs ≡ book_is t (new_page t books) book
    stays shut zs = ap (λ (s : Received). book_is t s.page book) (shut_after t books (empty t books) zs shut)

    cells : Passes (page_checks t books (new_page t books)) → book < books → (p : ℕ) → p < places_in t → cell_for t (grown t books xs) book p ≡ cell_for t (grown t books ys) book p
    cells ready k p h =
        let start = cell_for t (new_page t books) book p in
        cell_after_lem t books (empty t books) xs ready book p k h
        ∙ by_claiming t books book p start xs
        ∙ ap (cell_after t books book p start) same
        ∙ sym (by_claiming t books book p start ys)
        ∙ sym (cell_after_lem t books (empty t books) ys ready book p k h)

    go : Passes (page_checks t books (new_page t books)) ⊎ (any_of (fails_of (page_checks t books (new_page t books))) ≡ true) → Dec (book < books) → left xs ≡ left ys
    go (inl ready) (yes k) =
        book_ext (places_in t) books (grown t books xs) (grown t books ys) (grown_size t books xs) (grown_size t books ys) book k (cells ready k)
    go (inl ready) (no none) =
        book_beyond (places_in t) books (grown t books xs) (grown_size t books xs) book (omega arith)
        ∙ sym (book_beyond (places_in t) books (grown t books ys) (grown_size t books ys) book (omega arith))
    go (inr shut) inside = stays shut xs ∙ sym (stays shut ys)

same_answers : SameAnswers
same_answers t books book xs ys same =
    looks t books book (grown t books xs) (grown t books ys) (grown_long t books xs ∙ sym (grown_long t books ys)) (same_book t books book xs ys same)

pub apart : Apart
apart = record { looks = looks; same_book = same_book; same_answers = same_answers }
