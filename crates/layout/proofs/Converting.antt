-- A page in another layout: it has the same length and the same cells; the way back gives the page itself, and so does
-- a way from a layout to itself; and a cell that is set in one is set in the other.
use Prim.Native.Nat.{ℕ, zero, suc, ◌+◌, ◌≤◌, ◌<◌}
use mathlib.Core.Bool.{Bool, true, false}
use mathlib.Core.List.{List}
use mathlib.Core.Path.{◌≡◌, refl, sym, ap, ◌∙◌}
use native.Mathlib.Decide.{dec_lt}
use native.Mathlib.Omega.{arith}
use lib.ListN.{length}
use borrow.Author.Tests.{eq-eqb}
use Rattle.answers.proofs.Lengths.{right_length}
use Rattle.records.specs.Record.{record_length}
use Rattle.layout.specs.Converting.{moved, converted, cell_by_cell}
use Rattle.layout.specs.Layout.{Cell, page_length, page_length_check, cell_in, set_in, cell_at, set_cell, empty_page}
use Rattle.layout.specs.declared.Layout.{Layout}
use Rattle.layout.specs.declared.Layout.TheVariants as layouts
use Rattle.layout.proofs.Cells.{same_cell, length_record, page_ext, set_size, cell_set_same, cell_set_other, is_set, empty_size, empty_cell_lem}

module _ (from to : Layout) (n : ℕ) (pg : List ℕ) where
  -- ---- a page of n cells
  module _ (size : length pg ≡ page_length n) where
    bytes_of : (c : ℕ) → c < n → length (cell_in from n pg c).bytes ≡ record_length
    bytes_of c h = length_record from n pg size c h

    moved_size : (m : ℕ) → m ≤ n → length (moved from to n pg m) ≡ page_length n
    unfolding moved
    moved_size zero h = empty_size n
    moved_size (suc m) h =
        set_size to n (moved from to n pg m) (moved_size m (omega arith)) m h (cell_in from n pg m) (bytes_of m h)

    moved_cell : (m : ℕ) → m ≤ n → (c : ℕ) → c < m → cell_in to n (moved from to n pg m) c ≡ cell_in from n pg c
    unfolding moved
    moved_cell zero h c k = absurd (omega arith)
    moved_cell (suc m) h c k = go (dec_lt c m) (moved_cell m (omega arith) c)
      where
        before : length (moved from to n pg m) ≡ page_length n
        before = moved_size m (omega arith)

        go : Dec (c < m) → (c < m → cell_in to n (moved from to n pg m) c ≡ cell_in from n pg c)
            → cell_in to n (set_in to n (moved from to n pg m) m (cell_in from n pg m)) c ≡ cell_in from n pg c
        go (yes g) earlier =
            cell_set_other to n (moved from to n pg m) before m h (cell_in from n pg m) (bytes_of m h) c (omega arith) (λ e. omega arith) ∙ earlier g
        go (no g) earlier =
            let last : c ≡ m = omega arith in
            rw last (cell_set_same to n (moved from to n pg m) before m h (cell_in from n pg m) (bytes_of m h))

    all_moved : converted from to n pg ≡ moved from to n pg n
    unfolding converted
    all_moved = rw (eq-eqb (length pg) (page_length n) size) refl

    pub converted_size : length (converted from to n pg) ≡ page_length n
    converted_size = ap length all_moved ∙ moved_size n (omega arith)

    pub converted_cell : (c : ℕ) → c < n → cell_in to n (converted from to n pg) c ≡ cell_in from n pg c
    converted_cell c h = ap (λ (q : List ℕ). cell_in to n q c) all_moved ∙ moved_cell n (omega arith) c h

    -- a page of that length with these cells is the converted one
    pub is_converted : (q : List ℕ) → length q ≡ page_length n → ((c : ℕ) → c < n → cell_in to n q c ≡ cell_in from n pg c) → q ≡ converted from to n pg
    is_converted q size' same = page_ext to n q (converted from to n pg) size' converted_size (λ c h. same c h ∙ sym (converted_cell c h))

  -- ---- anything else stays
  stays : (page_length_check n (length pg)).fails ≡ true → converted from to n pg ≡ pg
  unfolding converted
  stays wrong = rw wrong refl

  pub converted_length : length (converted from to n pg) ≡ length pg
  converted_length = go (page_length_check n (length pg)).fails refl
    where
      go : (wrong : Bool) → (page_length_check n (length pg)).fails ≡ wrong → length (converted from to n pg) ≡ length pg
      go true is = ap length (stays is)
      go false is = let size = right_length (length pg) (page_length n) is in converted_size size ∙ sym size

-- ---- from a layout to itself, of anything
pub converted_same : (layout : Layout) (n : ℕ) (pg : List ℕ) → converted layout layout n pg ≡ pg
converted_same layout n pg = go (page_length_check n (length pg)).fails refl
  where
    go : (wrong : Bool) → (page_length_check n (length pg)).fails ≡ wrong → converted layout layout n pg ≡ pg
    go true is = stays layout layout n pg is
    go false is = let size = right_length (length pg) (page_length n) is in sym (is_converted layout layout n pg size pg size (λ c h. refl))

-- ---- by way of another layout, of anything
pub converted_through : (from by to : Layout) (n : ℕ) (pg : List ℕ) → converted by to n (converted from by n pg) ≡ converted from to n pg
converted_through from by to n pg = go (page_length_check n (length pg)).fails refl
  where
    go : (wrong : Bool) → (page_length_check n (length pg)).fails ≡ wrong → converted by to n (converted from by n pg) ≡ converted from to n pg
    go true is = ap (converted by to n) (stays from by n pg is) ∙ stays by to n pg is ∙ sym (stays from to n pg is)
    go false is =
        let size = right_length (length pg) (page_length n) is in
        let q = converted from by n pg in
        let q_size = converted_size from by n pg size in
        is_converted from to n pg size (converted by to n q) (converted_size by to n q q_size)
        (λ c h. converted_cell by to n q q_size c h ∙ converted_cell from by n pg size c h)

-- ---- so the way back gives the page itself
pub converted_back : (from to : Layout) (n : ℕ) (pg : List ℕ) → converted to from n (converted from to n pg) ≡ pg
converted_back from to n pg = converted_through from to from n pg ∙ converted_same from n pg

-- ---- a cell that is set in a page of n cells
module _ (from to : Layout) (n : ℕ) (pg : List ℕ) (size : length pg ≡ page_length n) (p : ℕ) (h : p < n) (c : Cell) (eight : length c.bytes ≡ record_length) where
  pub converted_set : converted from to n (set_in from n pg p c) ≡ set_in to n (converted from to n pg) p c
  converted_set =
      let q = set_in from n pg p c in
      let q_size = set_size from n pg size p h c eight in
      is_set to n (converted from to n pg) (converted_size from to n pg size) p h c eight (converted from to n q) (converted_size from to n q q_size)
      (converted_cell from to n q q_size p h ∙ cell_set_same from n pg size p h c eight)
      (λ o g apart. converted_cell from to n q q_size o g ∙ cell_set_other from n pg size p h c eight o g apart ∙ sym (converted_cell from to n pg size o g))

-- ---- an empty page is empty in each layout
pub empty_converted : (from to : Layout) (n : ℕ) → converted from to n (empty_page n) ≡ empty_page n
empty_converted from to n =
    sym (is_converted from to n (empty_page n) (empty_size n) (empty_page n) (empty_size n) (λ c h. empty_cell_lem to n c h ∙ sym (empty_cell_lem from n c h)))

-- ---- the first m cells are moved: they are the same, cell by cell
module _ (from to : Layout) (n : ℕ) (pg : List ℕ) where
  abbrev pub SameTo : ℕ → List ℕ → Type 0
  SameTo m other = (c : ℕ) → c < m → cell_at (cell_by_cell to n other) c ≡ cell_at (cell_by_cell from n pg) c

  module _ (size : length pg ≡ page_length n) where
    -- one more
    pub same_next : (m : ℕ) (other after : List ℕ) {state : ℕ} {bytes : List ℕ} → length other ≡ page_length n → m < n → SameTo m other
        → state ≡ (cell_at (cell_by_cell from n pg) m).state → bytes ≡ (cell_at (cell_by_cell from n pg) m).bytes
        → cell_by_cell to n after ≡ set_cell (cell_by_cell to n other) m (record { state = state; bytes = bytes }) → SameTo (m + 1) after
    same_next m other after other-size h same its_state its_bytes did c k =
        ap (λ (q : List ℕ). cell_at q c) (did ∙ ap (set_cell (cell_by_cell to n other) m) (same_cell its_state its_bytes)) ∙ go (dec_lt c m)
      where
        cells_size : length (cell_by_cell to n other) ≡ page_length n
        cells_size = converted_size to layouts.CellByCell n other other-size

        eight : length (cell_at (cell_by_cell from n pg) m).bytes ≡ record_length
        eight = length_record layouts.CellByCell n (cell_by_cell from n pg) (converted_size from layouts.CellByCell n pg size) m h

        go : Dec (c < m) → cell_at (set_cell (cell_by_cell to n other) m (cell_at (cell_by_cell from n pg) m)) c ≡ cell_at (cell_by_cell from n pg) c
        go (yes g) =
            cell_set_other layouts.CellByCell n (cell_by_cell to n other) cells_size m h (cell_at (cell_by_cell from n pg) m) eight c (omega arith) (λ e. omega arith)
            ∙ same c g
        go (no g) =
            let last : c ≡ m = omega arith in
            rw last (cell_set_same layouts.CellByCell n (cell_by_cell to n other) cells_size m h (cell_at (cell_by_cell from n pg) m) eight)

    -- all of them
    pub same_all : (other : List ℕ) → length other ≡ page_length n → SameTo n other → other ≡ converted from to n pg
    same_all other other-size same =
        let alike = page_ext layouts.CellByCell n (cell_by_cell to n other) (cell_by_cell from n pg) (converted_size to layouts.CellByCell n other other-size)
        (converted_size from layouts.CellByCell n pg size) same in
        sym (converted_back to layouts.CellByCell n other)
        ∙ ap (converted layouts.CellByCell to n) alike
        ∙ converted_through from layouts.CellByCell to n pg
