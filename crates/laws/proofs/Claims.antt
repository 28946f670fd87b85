-- What claims: a record of 8 bytes that names a book and a place of the table, and the row of that place, claims that
-- place in that book and no other; anything else claims none and is refused. And what one take makes of the page, by
-- that: the cell that is claimed goes by the page rule, and every other cell is as it was.
use Prim.Native.Nat.{ℕ, ◌<◌}
use mathlib.Core.Path.{◌≡◌, refl, sym, ap, ap₂, ◌∙◌}
use mathlib.Core.List.Memᴰ
use mathlib.Core.List.{List}
use mathlib.Core.Bool.{Bool, true, false, not, ◌&&◌, ◌||◌, false≢true}
use lib.Dec.{eqb}
use lib.ListN.{length}
use borrow.Author.Tests.{eqb-true, leb-false, lt-leb, eq-eqb}
use Rattle.answers.specs.Checks.{pick, any_of, fails_of, leaves, Passes}
use Rattle.answers.proofs.InOrder.{fails_then, fails_leaves, passes_fails, one_fails, passed_leaves}
use Rattle.tables.specs.BookNumbers.{no_such_book, book_check}
use Rattle.tables.specs.Table.{places_in, place_check, no_such_place, row_of}
use Rattle.records.specs.Record.{record_length, record_check, book_in, place_in, row_in}
use Rattle.layout.proofs.Books.{cell_below}
use Rattle.layout.proofs.Cells.{set_back}
use Rattle.layout.specs.Layout.{Cell, cells_of, set_cell}
use Rattle.layout.specs.declared.Layout.TheVariants as layouts
use Rattle.rules.specs.Taking.{claims, cell_number, cell_for, bad_at, take_cell, foreign_check, page_checks, take_rest, take_checks, take_into, take_leaves, refusals, arrive_cell}
use Rattle.laws.proofs.Pages.{page_size}

-- a claim, field by field
pub record Claims (t : List ℕ) (books : ℕ) (x : List ℕ) (book p : ℕ) : Type 0 where
  pub eight : length x ≡ record_length
  pub of_book : book_in x ≡ book
  pub named : place_in x ≡ p
  pub of_row : row_in x ≡ row_of t p
  pub in_books : book < books
  pub inside : p < places_in t

pub claim_is : (t : List ℕ) (books : ℕ) (x : List ℕ) (book p : ℕ) → claims t books x book p ≡ true → Claims t books x book p
unfolding claims
claim_is t books x book p e =
    go (eqb (length x) 8) (eqb (book_in x) book) (eqb (place_in x) p) (eqb (row_in x) (row_of t p)) (no_such_book books book) (no_such_place t p)
    refl refl refl refl refl refl e
  where
    go : (a b c d f g : Bool) → eqb (length x) 8 ≡ a → eqb (book_in x) book ≡ b → eqb (place_in x) p ≡ c → eqb (row_in x) (row_of t p) ≡ d
        → no_such_book books book ≡ f → no_such_place t p ≡ g → a && (b && c && d) && not f && not g ≡ true → Claims t books x book p
    go true true true true false false p1 p2 p3 p4 p5 p6 h = record {
      eight = eqb-true (length x) 8 p1;
      of_book = eqb-true (book_in x) book p2;
      named = eqb-true (place_in x) p p3;
      of_row = eqb-true (row_in x) (row_of t p) p4;
      in_books = leb-false books book p5;
      inside = leb-false (places_in t) p p6;
    }
    go true true true true false true p1 p2 p3 p4 p5 p6 h = absurd (false≢true h)
    go true true true true true g p1 p2 p3 p4 p5 p6 h = absurd (false≢true h)
    go true true true false f g p1 p2 p3 p4 p5 p6 h = absurd (false≢true h)
    go true true false d f g p1 p2 p3 p4 p5 p6 h = absurd (false≢true h)
    go true false c d f g p1 p2 p3 p4 p5 p6 h = absurd (false≢true h)
    go false b c d f g p1 p2 p3 p4 p5 p6 h = absurd (false≢true h)

pub is_claim : (t : List ℕ) (books : ℕ) (x : List ℕ) (book p : ℕ) → Claims t books x book p → claims t books x book p ≡ true
unfolding claims
is_claim t books x book p c =
    rw (
      eq-eqb (length x) 8 c.eight,
      eq-eqb (book_in x) book c.of_book,
      eq-eqb (place_in x) p c.named,
      eq-eqb (row_in x) (row_of t p) c.of_row,
      lt-leb books book c.in_books,
      lt-leb (places_in t) p c.inside,
    )
    refl

pub no_claim : (t : List ℕ) (books : ℕ) (x : List ℕ) (book p : ℕ) → (Claims t books x book p → ⊥) → claims t books x book p ≡ false
no_claim t books x book p none = go (claims t books x book p) refl
  where
    go : (b : Bool) → claims t books x book p ≡ b → claims t books x book p ≡ false
    go true e = absurd (none (claim_is t books x book p e))
    go false e = e

pub claim? : (t : List ℕ) (books : ℕ) (x : List ℕ) (book p : ℕ) → Dec (Claims t books x book p)
claim? t books x book p = go (claims t books x book p) refl
  where
    go : (b : Bool) → claims t books x book p ≡ b → Dec (Claims t books x book p)
    go true e = yes (claim_is t books x book p e)
    go false e = no (λ c. false≢true (sym e ∙ is_claim t books x book p c))

-- a record claims the place that it names, or none
abbrev pub ClaimsOwn : List ℕ → ℕ → List ℕ → Type 0
ClaimsOwn t books x = Claims t books x (book_in x) (place_in x)

pub claims_own : (t : List ℕ) (books : ℕ) (x : List ℕ) (book p : ℕ) → Claims t books x book p → ClaimsOwn t books x
claims_own t books x book p c = rw (c.of_book, c.named) c

-- the cell that is claimed is one of the page
pub cell_in_lem : (t : List ℕ) (books book p : ℕ) → book < books → p < places_in t → cell_number t book p < cells_of (places_in t) books
cell_in_lem t books book p h k = cell_below (places_in t) books book p h k

-- what taking x makes of the cell c of place p in the book
abbrev pub next_cell : List ℕ → ℕ → ℕ → ℕ → List ℕ → Cell → Cell
next_cell t books book p x c = pick (claims t books x book p) (arrive_cell book p (row_of t p) x c) c

-- a table, its books and a page that take records
module _ (t : List ℕ) (books : ℕ) (pg : List ℕ) (ready : Passes (page_checks t books pg)) (x : List ℕ) where
  leaves_rest : take_leaves t books pg x ≡ leaves (take_rest t books pg x) (take_into t pg x) pg
  leaves_rest = sym (passed_leaves (page_checks t books pg) (take_rest t books pg x) (take_into t pg x) pg ready)

  fails_rest : any_of (fails_of (take_checks t books pg x)) ≡ any_of (fails_of (take_rest t books pg x))
  fails_rest = fails_then (page_checks t books pg) (take_rest t books pg x) ∙ rw (passes_fails (page_checks t books pg) ready) refl

  -- a record that claims the place that it names
  module _ (c : ClaimsOwn t books x) where
    eight_bytes : (record_check (length x)).fails ≡ false
    eight_bytes = ap not (eq-eqb (length x) 8 c.eight)

    known_book : (book_check books (book_in x)).fails ≡ false
    known_book = lt-leb books (book_in x) c.in_books

    known_place : (place_check t (place_in x)).fails ≡ false
    known_place = lt-leb (places_in t) (place_in x) c.inside

    own_row : (foreign_check t x).fails ≡ false
    own_row = ap not (eq-eqb (row_in x) (row_of t (place_in x)) c.of_row)

    abbrev own : ℕ
    own = cell_number t (book_in x) (place_in x)

    abbrev own_cell : Cell
    own_cell = cell_for t pg (book_in x) (place_in x)

    pub claimed_leaves : take_leaves t books pg x
        ≡ set_cell pg (cell_number t (book_in x) (place_in x)) (arrive_cell (book_in x) (place_in x) (row_of t (place_in x)) x (cell_for t pg (book_in x) (place_in x)))
    claimed_leaves = leaves_rest ∙ rw (eight_bytes, known_book, known_place, own_row) (go (bad_at t pg (book_in x) (place_in x)))
      where
        go : (b : Bool) → pick b pg (set_cell pg own (take_cell x own_cell)) ≡ set_cell pg own (pick b own_cell (take_cell x own_cell))
        go true = sym (set_back layouts.CellByCell (cells_of (places_in t) books) pg (page_size t books pg ready) own (cell_in_lem t books (book_in x) (place_in x) c.in_books c.inside))
        go false = refl

    pub claimed_refusals : refusals t books pg x ≡ pick (bad_at t pg (book_in x) (place_in x)) 1 0
    unfolding refusals
    claimed_refusals =
        ap (λ (b : Bool). pick {A = ℕ} b 1 0) fails_rest
        ∙ rw (eight_bytes, known_book, known_place, own_row) (go (bad_at t pg (book_in x) (place_in x)))
      where
        go : (b : Bool) → pick {A = ℕ} (b || false) 1 0 ≡ pick b 1 0
        go true = refl
        go false = refl

  -- what claims none
  module _ (none : ClaimsOwn t books x → ⊥) where
    none_fails : any_of (fails_of (take_checks t books pg x)) ≡ true
    none_fails =
        fails_rest
        ∙ go (eqb (length x) 8) (no_such_book books (book_in x)) (no_such_place t p) (eqb (row_in x) (row_of t p)) refl refl refl refl
      where
        p : ℕ
        p = place_in x

        go : (a b c d : Bool) → eqb (length x) 8 ≡ a → no_such_book books (book_in x) ≡ b → no_such_place t p ≡ c → eqb (row_in x) (row_of t p) ≡ d
            → any_of (fails_of (take_rest t books pg x)) ≡ true
        go true true c d e f g h = one_fails (take_rest t books pg x) (book_check books (book_in x)) (search (Memᴰ.head, Memᴰ.tail)) f
        go true false true d e f g h = one_fails (take_rest t books pg x) (place_check t p) (search (Memᴰ.head, Memᴰ.tail)) g
        go true false false true e f g h =
            absurd
            (none
            (record {
              eight = eqb-true (length x) 8 e;
              of_book = refl;
              named = refl;
              of_row = eqb-true (row_in x) (row_of t p) h;
              in_books = leb-false books (book_in x) f;
              inside = leb-false (places_in t) p g;
            }))
        go true false false false e f g h = one_fails (take_rest t books pg x) (foreign_check t x) (search (Memᴰ.head, Memᴰ.tail)) (ap not h)
        go false b c d e f g h = one_fails (take_rest t books pg x) (record_check (length x)) (search (Memᴰ.head, Memᴰ.tail)) (ap not e)

    pub none_leaves : take_leaves t books pg x ≡ pg
    none_leaves = fails_leaves (take_into t pg x) pg (take_checks t books pg x) none_fails

    pub none_refusals : refusals t books pg x ≡ 1
    unfolding refusals
    none_refusals = rw none_fails refl
