-- The cells of a page in any layout: a cell that was set is read back, the others are as they were, the page keeps its
-- length, and pages of one length with the same cells are the same. Argued from where states and records stand
-- (proofs/Offsets.antt).
use Prim.Native.Nat.{ℕ, ◌+◌, ◌≤◌, ◌<◌}
use mathlib.Core.Path.{◌≡◌, refl, sym, ap, ap₂, ◌∙◌}
use mathlib.Core.List.{List}
use mathlib.Core.Logic.{⊎_elim}
use native.Mathlib.Decide.{dec_lt}
use native.Mathlib.Omega.{arith}
use lib.ListN.{length, get_or, set, drop, length-drop, length-set, length-replicate, get_or-replicate}
use lib.Seq.{length-take-le, get_or-take, get_or-drop, get_or-set_same, get_or-set_other, ext_get_or}
use Rattle.buffers.proofs.Reading.{read_text, read_beside}
use Rattle.buffers.proofs.Writing.{written_length}
use Rattle.records.specs.Record.{record_length}
use Rattle.layout.specs.Layout.{Cell, page_length, state_offset, record_offset, state_from, record_from, stored, cell_in, set_in, empty_page, empty_cell}
use Rattle.layout.specs.declared.Layout.{Layout}
use Rattle.layout.proofs.Offsets.{Beside, state_inside, record_inside, states_apart, state_beside, not_a_state, records_apart, Stands, stands}

-- ---- a cell by its parts
pub same_cell : {c d : Cell} → c.state ≡ d.state → c.bytes ≡ d.bytes → c ≡ d
same_cell {c} {d} s b = ap₂ (λ (state : ℕ) (bytes : List ℕ). record { state = state; bytes = bytes }) s b

-- the length of an empty page
pub empty_size : (n : ℕ) → length (empty_page n) ≡ page_length n
empty_size n = length-replicate (page_length n) 0

-- byte i of the record that stands from a byte on
pub record_byte : (pg : List ℕ) (at i : ℕ) → i < 8 → get_or (record_from pg at) i 0 ≡ get_or pg (at + i) 0
unfolding record_from
record_byte pg at i h = get_or-take 8 (drop at pg) i 0 h ∙ get_or-drop at pg i 0

module _ (layout : Layout) (n : ℕ) where
  -- ---- a page of n cells
  pub length_record : (pg : List ℕ) → length pg ≡ page_length n → (p : ℕ) → p < n → length (record_from pg (record_offset layout n p)) ≡ record_length
  unfolding record_from
  length_record pg size p h =
      length-take-le 8 (drop (record_offset layout n p) pg)
      (rw (length-drop (record_offset layout n p) pg) (omega (arith, record_inside layout n p h)))

  -- two of them with the same cells
  pub page_ext : (pg pg' : List ℕ) → length pg ≡ page_length n → length pg' ≡ page_length n
      → ((p : ℕ) → p < n → cell_in layout n pg p ≡ cell_in layout n pg' p) → pg ≡ pg'
  unfolding state_from
  page_ext pg pg' size size' same = ext_get_or 0 pg pg' (size ∙ sym size') (λ j h. byte j (stands layout n j (omega arith)))
    where
      byte : (j : ℕ) → Stands layout n j → get_or pg j 0 ≡ get_or pg' j 0
      byte j s =
          let p = s.place in
          let at = record_offset layout n p in
          let cell = same p s.inside in
          ⊎_elim
          (λ is. rw is (ap (λ (c : Cell). c.state) cell))
          (λ is. rw is.2 (sym (record_byte pg at is.0 is.1) ∙ ap (λ (c : Cell). get_or c.bytes is.0 0) cell ∙ record_byte pg' at is.0 is.1))
          s.stands_as

  -- ---- a cell that was set
  module _ (pg : List ℕ) (size : length pg ≡ page_length n) (p : ℕ) (h : p < n) (c : Cell) (eight : length c.bytes ≡ record_length) where
    abbrev s : ℕ
    s = state_offset layout n p

    abbrev r : ℕ
    r = record_offset layout n p

    abbrev now_set : List ℕ
    now_set = set_in layout n pg p c

    room : r + 8 ≤ length (set pg s c.state)
    room = rw (length-set pg s c.state) (omega (arith, record_inside layout n p h))

    pub length_set_cell : length now_set ≡ length pg
    unfolding stored
    length_set_cell = written_length (set pg s c.state) c.bytes r 8 ∙ length-set pg s c.state

    -- beside the record, and not the state
    unmoved : (j : ℕ) → Beside layout n j p → (j ≡ s → ⊥) → get_or now_set j 0 ≡ get_or pg j 0
    unfolding stored
    unmoved j beside apart = read_beside (set pg s c.state) c.bytes r 8 eight 0 j beside ∙ get_or-set_other pg s j c.state 0 apart

    state_set : state_from now_set s ≡ c.state
    unfolding stored state_from
    state_set =
        read_beside (set pg s c.state) c.bytes r 8 eight 0 s (state_beside layout n p p h)
        ∙ get_or-set_same pg s c.state 0 (omega (arith, state_inside layout n p h))

    pub set_size : length now_set ≡ page_length n
    set_size = length_set_cell ∙ size

    record_set : record_from now_set r ≡ c.bytes
    unfolding stored
    record_set =
        let its = length_record now_set set_size p h in
        ext_get_or 0 (record_from now_set r) c.bytes (its ∙ sym eight)
        (λ i g. record_byte now_set r i (omega (arith, its)) ∙ read_text (set pg s c.state) c.bytes r 8 eight 0 room i (omega (arith, its)))

    pub cell_set_same : cell_in layout n now_set p ≡ c
    cell_set_same = same_cell state_set record_set

    module _ (q : ℕ) (g : q < n) (apart : q ≡ p → ⊥) where
      state_other : state_from now_set (state_offset layout n q) ≡ state_from pg (state_offset layout n q)
      unfolding state_from
      state_other = unmoved (state_offset layout n q) (state_beside layout n p q g) (states_apart layout n p q apart)

      record_other : record_from now_set (record_offset layout n q) ≡ record_from pg (record_offset layout n q)
      record_other =
          let its = length_record now_set set_size q g in
          ext_get_or 0 (record_from now_set (record_offset layout n q)) (record_from pg (record_offset layout n q))
          (its ∙ sym (length_record pg size q g)) (λ i k. byte i (omega (arith, its)))
        where
          byte : (i : ℕ) → i < 8
              → get_or (record_from now_set (record_offset layout n q)) i 0 ≡ get_or (record_from pg (record_offset layout n q)) i 0
          byte i k =
              record_byte now_set (record_offset layout n q) i k
              ∙ unmoved (record_offset layout n q + i) (records_apart layout n p q i k apart) (not_a_state layout n p q i h k)
              ∙ sym (record_byte pg (record_offset layout n q) i k)

      pub cell_set_other : cell_in layout n now_set q ≡ cell_in layout n pg q
      cell_set_other = same_cell state_other record_other

    -- so a page is the one with that cell set, if it has that cell there and the others are as they were
    pub is_set : (pg' : List ℕ) → length pg' ≡ page_length n → cell_in layout n pg' p ≡ c
        → ((q : ℕ) → q < n → (q ≡ p → ⊥) → cell_in layout n pg' q ≡ cell_in layout n pg q) → pg' ≡ now_set
    is_set pg' size' here there = page_ext pg' now_set size' set_size (λ q g. go q g (dec_lt q p) (dec_lt p q))
      where
        other : (q : ℕ) → q < n → (q ≡ p → ⊥) → cell_in layout n pg' q ≡ cell_in layout n now_set q
        other q g apart = there q g apart ∙ sym (cell_set_other q g apart)

        go : (q : ℕ) → q < n → Dec (q < p) → Dec (p < q) → cell_in layout n pg' q ≡ cell_in layout n now_set q
        go q g (yes before) d = other q g (λ e. omega arith)
        go q g (no a) (yes behind) = other q g (λ e. omega arith)
        go q g (no a) (no b) = let same : q ≡ p = omega arith in rw same (here ∙ sym cell_set_same)

  -- ---- a cell put back where it came from
  pub set_back : (pg : List ℕ) → length pg ≡ page_length n → (p : ℕ) → p < n → set_in layout n pg p (cell_in layout n pg p) ≡ pg
  set_back pg size p h = sym (is_set pg size p h (cell_in layout n pg p) (length_record pg size p h) pg size refl (λ q g apart. refl))

  -- ---- an empty page
  pub empty_cell_lem : (p : ℕ) → p < n → cell_in layout n (empty_page n) p ≡ empty_cell
  unfolding state_from
  empty_cell_lem p h =
      same_cell (get_or-replicate (page_length n) (state_offset layout n p) 0 0 (state_inside layout n p h))
      (ext_get_or 0 (record_from (empty_page n) (record_offset layout n p)) empty_cell.bytes its (λ i g. byte i (omega (arith, its))))
    where
      its : length (record_from (empty_page n) (record_offset layout n p)) ≡ record_length
      its = length_record (empty_page n) (empty_size n) p h

      byte : (i : ℕ) → i < 8 → get_or (record_from (empty_page n) (record_offset layout n p)) i 0 ≡ get_or empty_cell.bytes i 0
      byte i g =
          record_byte (empty_page n) (record_offset layout n p) i g
          ∙ get_or-replicate (page_length n) (record_offset layout n p + i) 0 0 (omega (arith, record_inside layout n p h))
          ∙ sym (get_or-replicate 8 i 0 0 g)
