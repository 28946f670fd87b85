-- Arrivals in any order: one take changes no cell but the one that its record claims, keeps the length of the page,
-- and decides of no other take whether it is refused; so two takes may change places, on any table, with any number of
-- books, and on any page.
use Prim.Native.Nat.{ℕ, ◌<◌}
use mathlib.Core.Path.{◌≡◌, refl, sym, ap, ◌∙◌}
use mathlib.Core.List.{List}
use mathlib.Core.Bool.{Bool, true, false}
use lib.Dec.{eqb}
use lib.ListN.{length}
use borrow.Author.Tests.{eqb-true, eqb-false, eq-eqb}
use Rattle.answers.specs.Checks.{pick, any_of, fails_of, Passes}
use Rattle.answers.proofs.InOrder.{fails_then, fails_leaves}
use Rattle.tables.specs.Table.{places_in, row_of}
use Rattle.records.specs.Record.{record_length, book_in, place_in, row_in}
use Rattle.layout.proofs.Books.{same_book, same_place, books_ext}
use Rattle.layout.proofs.Cells.{length_record, length_set_cell, cell_set_same, cell_set_other}
use Rattle.layout.specs.Layout.{Cell, cells_of, cell_at, set_cell}
use Rattle.layout.specs.declared.Layout.TheVariants as layouts
use Rattle.rules.specs.Taking.{is_of, claims, cell_number, cell_for, bad_cell, bad_at, page_checks, take_rest, take_checks, take_into, take_leaves, refusals, arrive_cell}
use Rattle.laws.proofs.CellRule.{length_arrives, bad_stays, arrives_two}
use Rattle.laws.proofs.Claims.{Claims, ClaimsOwn, claim?, claim_is, is_claim, no_claim, claims_own, cell_in_lem, next_cell, claimed_leaves, claimed_refusals, none_leaves, none_refusals}
use Rattle.laws.proofs.Pages.{page_passes, page_books, page_size}

-- a record that claims a place is of its book, of that place and of its row
pub claim_of : (t : List ℕ) (books : ℕ) (x : List ℕ) (book p : ℕ) → claims t books x book p ≡ true → is_of x book p (row_of t p) ≡ true
claim_of t books x book p e =
    let own = claim_is t books x book p e in
    rw (eq-eqb (book_in x) book own.of_book, eq-eqb (place_in x) p own.named, eq-eqb (row_in x) (row_of t p) own.of_row) refl

module _ (t : List ℕ) (books : ℕ) where
  abbrev cells : ℕ
  cells = cells_of (places_in t) books

  module _ (pg : List ℕ) (ready : Passes (page_checks t books pg)) (x : List ℕ) where
    abbrev named : ℕ
    named = cell_number t (book_in x) (place_in x)

    -- by whether it claims the place that it names
    module _ (own : ClaimsOwn t books x) where
      abbrev made : Cell
      made = arrive_cell (book_in x) (place_in x) (row_of t (place_in x)) x (cell_for t pg (book_in x) (place_in x))

      inside : named < cells
      inside = cell_in_lem t books (book_in x) (place_in x) own.in_books own.inside

      made_length : length made.bytes ≡ record_length
      made_length =
          length_arrives (book_in x) (place_in x) (row_of t (place_in x)) x (cell_for t pg (book_in x) (place_in x)) own.eight
          (length_record layouts.CellByCell cells pg (page_size t books pg ready) named inside)

      claimed_size : length (take_leaves t books pg x) ≡ length pg
      claimed_size =
          ap length (claimed_leaves t books pg ready x own)
          ∙ length_set_cell layouts.CellByCell cells pg (page_size t books pg ready) named inside made made_length

      claimed_cell : (book q : ℕ) → book < books → q < places_in t
          → cell_for t (take_leaves t books pg x) book q ≡ next_cell t books book q x (cell_for t pg book q)
      claimed_cell book q k h =
          ap (λ (page : List ℕ). cell_for t page book q) (claimed_leaves t books pg ready x own) ∙ go (eqb (book_in x) book) (eqb (place_in x) q) refl refl
        where
          other : (named ≡ cell_number t book q → ⊥) → (Claims t books x book q → ⊥)
              → cell_at (set_cell pg named made) (cell_number t book q) ≡ next_cell t books book q x (cell_for t pg book q)
          other apart none =
              cell_set_other layouts.CellByCell cells pg (page_size t books pg ready) named inside made made_length (cell_number t book q) (cell_in_lem t books book q k h) (λ s. apart (sym s))
              ∙ rw (no_claim t books x book q none) refl

          go : (a b : Bool) → eqb (book_in x) book ≡ a → eqb (place_in x) q ≡ b
              → cell_at (set_cell pg named made) (cell_number t book q) ≡ next_cell t books book q x (cell_for t pg book q)
          go true true e f =
              let of_book = eqb-true (book_in x) book e in
              let of_place = eqb-true (place_in x) q f in
              rw (← of_book, ← of_place)
              (cell_set_same layouts.CellByCell cells pg (page_size t books pg ready) named inside made made_length ∙ rw (is_claim t books x (book_in x) (place_in x) own) refl)
          go true false e f =
              let apart = eqb-false (place_in x) q f in
              other (λ s. apart (same_place (places_in t) (book_in x) (place_in x) book q own.inside h s)) (λ c. apart c.named)
          go false b e f =
              let apart = eqb-false (book_in x) book e in
              other (λ s. apart (same_book (places_in t) (book_in x) (place_in x) book q own.inside h s)) (λ c. apart c.of_book)

    -- the page keeps its length
    pub taken_size : length (take_leaves t books pg x) ≡ length pg
    taken_size = go (claim? t books x (book_in x) (place_in x))
      where
        go : Dec (ClaimsOwn t books x) → length (take_leaves t books pg x) ≡ length pg
        go (yes own) = claimed_size own
        go (no none) = ap length (none_leaves t books pg ready x none)

    -- the cell that is claimed goes by the page rule, and the others are as they were
    pub taken_cell : (book q : ℕ) → book < books → q < places_in t
        → cell_for t (take_leaves t books pg x) book q ≡ next_cell t books book q x (cell_for t pg book q)
    taken_cell book q k h = go (claim? t books x (book_in x) (place_in x))
      where
        go : Dec (ClaimsOwn t books x) → cell_for t (take_leaves t books pg x) book q ≡ next_cell t books book q x (cell_for t pg book q)
        go (yes own) = claimed_cell own book q k h
        go (no none) =
            ap (λ (page : List ℕ). cell_for t page book q) (none_leaves t books pg ready x none)
            ∙ rw (no_claim t books x book q (λ c. none (claims_own t books x book q c))) refl

    -- whether a cell is refused does not change
    pub bad_unmoved : (book q : ℕ) → book < books → q < places_in t → bad_at t (take_leaves t books pg x) book q ≡ bad_at t pg book q
    bad_unmoved book q k h = ap (bad_cell book q (row_of t q)) (taken_cell book q k h) ∙ go (claims t books x book q) refl
      where
        go : (b : Bool) → claims t books x book q ≡ b
            → bad_cell book q (row_of t q) (pick b (arrive_cell book q (row_of t q) x (cell_for t pg book q)) (cell_for t pg book q)) ≡ bad_at t pg book q
        go true e = bad_stays book q (row_of t q) x (cell_for t pg book q) (claim_of t books x book q e)
        go false e = refl

  -- and still takes records
  pub ready_after : (pg : List ℕ) → Passes (page_checks t books pg) → (x : List ℕ) → Passes (page_checks t books (take_leaves t books pg x))
  ready_after pg ready x =
      page_passes t books (take_leaves t books pg x) (page_books t books pg ready) (taken_size pg ready x ∙ page_size t books pg ready)

  module _ (pg : List ℕ) (ready : Passes (page_checks t books pg)) (x y : List ℕ) where
    ready_then : Passes (page_checks t books (take_leaves t books pg y))
    ready_then = ready_after pg ready y

    -- one take decides of no other whether it is refused
    pub refusals_unmoved : refusals t books (take_leaves t books pg y) x ≡ refusals t books pg x
    refusals_unmoved = go (claim? t books x (book_in x) (place_in x))
      where
        go : Dec (ClaimsOwn t books x) → refusals t books (take_leaves t books pg y) x ≡ refusals t books pg x
        go (yes own) =
            claimed_refusals t books (take_leaves t books pg y) ready_then x own
            ∙ ap (λ (b : Bool). pick {A = ℕ} b 1 0) (bad_unmoved pg ready y (book_in x) (place_in x) own.in_books own.inside)
            ∙ sym (claimed_refusals t books pg ready x own)
        go (no none) = none_refusals t books (take_leaves t books pg y) ready_then x none ∙ sym (none_refusals t books pg ready x none)

    -- a cell after both
    cell_two : (book q : ℕ) → book < books → q < places_in t
        → cell_for t (take_leaves t books (take_leaves t books pg y) x) book q ≡ next_cell t books book q x (next_cell t books book q y (cell_for t pg book q))
    cell_two book q k h = taken_cell (take_leaves t books pg y) ready_then x book q k h ∙ ap (next_cell t books book q x) (taken_cell pg ready y book q k h)

  next_two : (book q : ℕ) (x y : List ℕ) (c : Cell) → next_cell t books book q x (next_cell t books book q y c) ≡ next_cell t books book q y (next_cell t books book q x c)
  next_two book q x y c = go (claims t books x book q) (claims t books y book q) refl refl
    where
      r : ℕ
      r = row_of t q

      go : (a b : Bool) → claims t books x book q ≡ a → claims t books y book q ≡ b
          → pick a (arrive_cell book q r x (pick b (arrive_cell book q r y c) c)) (pick b (arrive_cell book q r y c) c)
          ≡ pick b (arrive_cell book q r y (pick a (arrive_cell book q r x c) c)) (pick a (arrive_cell book q r x c) c)
      go true true e f = arrives_two book q r x y c (claim_of t books x book q e) (claim_of t books y book q f)
      go true false e f = refl
      go false true e f = refl
      go false false e f = refl

  pub pages_two : (pg : List ℕ) → Passes (page_checks t books pg) → (x y : List ℕ)
      → take_leaves t books (take_leaves t books pg x) y ≡ take_leaves t books (take_leaves t books pg y) x
  pages_two pg ready x y =
      let then_x = ready_after pg ready x in
      let then_y = ready_after pg ready y in
      books_ext (places_in t) books (take_leaves t books (take_leaves t books pg x) y) (take_leaves t books (take_leaves t books pg y) x)
      (taken_size (take_leaves t books pg x) then_x y ∙ page_size t books (take_leaves t books pg x) then_x)
      (taken_size (take_leaves t books pg y) then_y x ∙ page_size t books (take_leaves t books pg y) then_y)
      (λ book q k h. cell_two pg ready y x book q k h ∙ next_two book q y x (cell_for t pg book q) ∙ sym (cell_two pg ready x y book q k h))

-- a number of books, a table or a page that is refused: every take is, and nothing changes
module _ (t : List ℕ) (books : ℕ) (pg : List ℕ) (shut : any_of (fails_of (page_checks t books pg)) ≡ true) where
  shut_fails : (x : List ℕ) → any_of (fails_of (take_checks t books pg x)) ≡ true
  shut_fails x = fails_then (page_checks t books pg) (take_rest t books pg x) ∙ rw shut refl

  pub shut_leaves : (x : List ℕ) → take_leaves t books pg x ≡ pg
  shut_leaves x = fails_leaves (take_into t pg x) pg (take_checks t books pg x) (shut_fails x)

  pub shut_refusals : (x : List ℕ) → refusals t books pg x ≡ 1
  unfolding refusals
  shut_refusals x = rw (shut_fails x) refl
