-- The cells of a page by book and place: each is in the page, no two are the same, and together they are all of them;
-- and a book is itself a page, of its own cells.
use Prim.Native.Nat.{ℕ, zero, suc, ◌+◌, ◌*◌, ◌/◌, ◌%◌, ◌≤◌, ◌<◌}
use mathlib.Core.List.{List, []}
use mathlib.Core.Path.{◌≡◌, sym, ap, ◌∙◌}
use native.Mathlib.Nat.{div-add-mod', mod-lt, div-lt_iff_lt-mul, mul-le-mul, mul-le-mul_right, mul-zero, suc-mul}
use native.Mathlib.Omega.{arith}
use lib.Arith.{digits_lt, digits_div, digits_mod}
use lib.ListN.{length, get_or, drop, length-drop, drop_of_length-le}
use lib.Seq.{length-take-le, take-nil, get_or-take, get_or-drop, ext_get_or}
use Rattle.records.specs.Record.{record_length}
use Rattle.layout.specs.Layout.{cells_of, cell_of, page_length, state_offset, record_offset, state_from, record_from, cell_at, book_at}
use Rattle.layout.specs.declared.Layout.TheVariants as layouts
use Rattle.layout.proofs.Cells.{same_cell, record_byte, length_record, page_ext}
use Rattle.layout.proofs.Offsets.{state_inside, record_inside}

-- 16 books of 4,096 places have 65,536 cells
pub cells_to : (places books : ℕ) → places ≤ 4096 → books ≤ 16 → cells_of places books ≤ 65536
cells_to places books h k = mul-le-mul k h

module _ (places books : ℕ) where
  pub cell_below : (book p : ℕ) → book < books → p < places → cell_of places book p < cells_of places books
  cell_below book p h k = digits_lt h k

  -- a cell is that of a place of a book
  pub record Found (c : ℕ) : Type 0 where
    pub book : ℕ
    pub place : ℕ
    pub in_books : book < books
    pub in_book_lem : place < places
    pub is_cell : c ≡ cell_of places book place

  pub find : (c : ℕ) → c < cells_of places books → Found c
  find c h =
      let some = positive books places h in
      record {
        book = c / places;
        place = c % places;
        in_books = (div-lt_iff_lt-mul some).1 h;
        in_book_lem = mod-lt c some;
        is_cell = sym (div-add-mod' c places);
      }
    where
      -- a page that has a cell has places
      positive : (n m : ℕ) → c < n * m → 0 < m
      positive n zero h = absurd (omega (arith, mul-zero n))
      positive n (suc m) h = omega arith

-- of one only
module _ (places book p other q : ℕ) (h : p < places) (k : q < places) (same : cell_of places book p ≡ cell_of places other q) where
  pub same_book : book ≡ other
  same_book = sym (digits_div book h) ∙ ap (λ (c : ℕ). c / places) same ∙ digits_div other k

  pub same_place : p ≡ q
  same_place = sym (digits_mod book h) ∙ ap (λ (c : ℕ). c % places) same ∙ digits_mod other k

-- ---- a book as a page
module _ (places books : ℕ) (pg : List ℕ) (size : length pg ≡ page_length (cells_of places books)) (book : ℕ) (h : book < books) where
  abbrev first : ℕ
  first = page_length (cell_of places book 0)

  -- it ends before the page does
  ends_inside : first + page_length places ≤ page_length (cells_of places books)
  ends_inside = omega (arith, suc-mul book places, mul-le-mul_right places h)

  pub book_size : length (book_at places pg book) ≡ page_length places
  unfolding book_at
  book_size = length-take-le (page_length places) (drop first pg) (rw (length-drop first pg) (omega (arith, ends_inside)))

  book_byte : (j : ℕ) → j < page_length places → get_or (book_at places pg book) j 0 ≡ get_or pg (first + j) 0
  unfolding book_at
  book_byte j k = get_or-take (page_length places) (drop first pg) j 0 k ∙ get_or-drop first pg j 0

  pub book_cell : (p : ℕ) → p < places → cell_at (book_at places pg book) p ≡ cell_at pg (cell_of places book p)
  unfolding state_from
  book_cell p k = same_cell state bytes
    where
      state : state_from (book_at places pg book) (state_offset layouts.CellByCell 0 p) ≡ state_from pg (state_offset layouts.CellByCell 0 (cell_of places book p))
      state =
          book_byte (state_offset layouts.CellByCell 0 p) (state_inside layouts.CellByCell places p k)
          ∙ ap (λ (j : ℕ). get_or pg j 0) (omega arith)

      byte : (i : ℕ) → i < 8 → get_or (record_from (book_at places pg book) (record_offset layouts.CellByCell 0 p)) i 0 ≡ get_or (record_from pg (record_offset layouts.CellByCell 0 (cell_of places book p))) i 0
      byte i g =
          record_byte (book_at places pg book) (record_offset layouts.CellByCell 0 p) i g
          ∙ book_byte (record_offset layouts.CellByCell 0 p + i) (omega (arith, record_inside layouts.CellByCell places p k))
          ∙ ap (λ (j : ℕ). get_or pg j 0) (omega arith)
          ∙ sym (record_byte pg (record_offset layouts.CellByCell 0 (cell_of places book p)) i g)

      eight : length (record_from (book_at places pg book) (record_offset layouts.CellByCell 0 p)) ≡ record_length
      eight = length_record layouts.CellByCell places (book_at places pg book) book_size p k

      bytes : record_from (book_at places pg book) (record_offset layouts.CellByCell 0 p) ≡ record_from pg (record_offset layouts.CellByCell 0 (cell_of places book p))
      bytes = ext_get_or 0 (record_from (book_at places pg book) (record_offset layouts.CellByCell 0 p)) (record_from pg (record_offset layouts.CellByCell 0 (cell_of places book p)))
          (eight ∙ sym (length_record layouts.CellByCell (cells_of places books) pg size (cell_of places book p) (cell_below places books book p h k)))
          (λ i g. byte i (omega (arith, eight)))

-- a book that the page does not have has no bytes
pub book_beyond : (places books : ℕ) (pg : List ℕ) → length pg ≡ page_length (cells_of places books) → (book : ℕ) → books ≤ book → book_at places pg book ≡ []
unfolding book_at
book_beyond places books pg size book h =
    rw (drop_of_length-le pg {i = page_length (cell_of places book 0)} (omega (arith, size, mul-le-mul_right places h))) (take-nil (page_length places))

-- ---- pages of one size
module _ (places books : ℕ) (pg pg' : List ℕ) (size : length pg ≡ page_length (cells_of places books)) (size' : length pg' ≡ page_length (cells_of places books)) where
  -- books with the same cells are the same
  pub book_ext : (book : ℕ) → book < books → ((p : ℕ) → p < places → cell_at pg (cell_of places book p) ≡ cell_at pg' (cell_of places book p))
      → book_at places pg book ≡ book_at places pg' book
  book_ext book h same =
      page_ext layouts.CellByCell places (book_at places pg book) (book_at places pg' book) (book_size places books pg size book h) (book_size places books pg' size' book h)
      (λ p k. book_cell places books pg size book h p k ∙ same p k ∙ sym (book_cell places books pg' size' book h p k))

  -- and the same books have the same cells
  pub same_cells : (book : ℕ) → book < books → book_at places pg book ≡ book_at places pg' book → (p : ℕ) → p < places
      → cell_at pg (cell_of places book p) ≡ cell_at pg' (cell_of places book p)
  same_cells book h same p k =
      sym (book_cell places books pg size book h p k) ∙ ap (λ (bytes : List ℕ). cell_at bytes p) same ∙ book_cell places books pg' size' book h p k

  -- pages whose cells are the same in every book are the same
  pub books_ext : ((book p : ℕ) → book < books → p < places → cell_at pg (cell_of places book p) ≡ cell_at pg' (cell_of places book p)) → pg ≡ pg'
  books_ext same = page_ext layouts.CellByCell (cells_of places books) pg pg' size size' (λ c h. by_book c (find places books c h))
    where
      by_book : (c : ℕ) → Found places books c → cell_at pg c ≡ cell_at pg' c
      by_book c found = rw found.is_cell (same found.book found.place found.in_books found.in_book_lem)
