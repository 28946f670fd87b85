-- The two layouts: both pages are the same cell by cell, so each call says the same of both, and leaves the same cell
-- by cell. Nothing here is argued of a call by itself.
use Prim.Native.Nat.{ℕ, ◌+◌}
use mathlib.Core.List.{List, [], ◌∷◌}
use mathlib.Core.Path.{◌≡◌, refl, sym, ap, ◌∙◌}
use lib.ListN.{length}
use Rattle.answers.proofs.InOrder.{passes_leaves, passes_apart, passes_then}
use Rattle.answers.specs.Checks.{Passes}
use Rattle.tables.specs.Table.{places_in}
use Rattle.layout.proofs.Converting.{converted_length, converted_back, converted_through, empty_converted}
use Rattle.layout.specs.Layout.{cells_of}
use Rattle.layout.specs.declared.Layout.{Layout}
use Rattle.layout.specs.declared.Layout.TheVariants as layouts
use Rattle.laws.proofs.Layouts.{cells_already, as_kept_lem}
use Rattle.laws.proofs.Pages.{Sized, page_books, page_size, page_passes, right_page}
use Rattle.rules.specs.Layouts.{turned, as_cells, as_kept, convert_checks, convert_leaves}
use Rattle.rules.specs.Reading.{read_says, read_leaves, coefficient_says, coefficient_carries}
use Rattle.rules.specs.Taking.{page_check, page_checks, take_says, take_leaves, refusals, arrive, after, collected, new_page, grown}
use Rattle.rules.specs.Tallying.{tally_says}
use Rattle.reporting.specs.Calls.{lines_says, lines_leaves}
use Rattle.channel.specs.Layouts.{taken_in, taken_all, AsConverted, Layouts}
use Rattle.channel.proofs.Calls.{demand_1}

module _ (from to : Layout) (t : List ℕ) (books : ℕ) (pg : List ℕ) where
  -- the page and its conversion, cell by cell
  same_cells : as_cells from t books pg ≡ as_cells to t books (turned from to t books pg)
  same_cells = sym (converted_through from to layouts.CellByCell (cells_of (places_in t) books) pg)

  -- what is left of both, each as it is kept
  same_kept : {left left' : List ℕ} → left ≡ left' → as_kept from t books left ≡ turned to from t books (as_kept to t books left')
  same_kept {left} {left'} same =
      ap (as_kept from t books) same ∙ sym (converted_through layouts.CellByCell to from (cells_of (places_in t) books) left')

  as_converted : AsConverted from to t books pg
  as_converted =
      record {
        take_says_lem = λ x. ap (λ (q : List ℕ). take_says t books q x) same_cells;
        take_leaves_lem = λ x. same_kept (ap (λ (q : List ℕ). take_leaves t books q x) same_cells);
        collect_refuses = λ bytes. ap (λ (q : List ℕ). (collected t books q bytes).refused) same_cells;
        collect_leaves = λ bytes. same_kept (ap (λ (q : List ℕ). (collected t books q bytes).page) same_cells);
        read_says_lem = λ mode book p out. ap (λ (q : List ℕ). read_says mode t books book q p out) same_cells;
        read_leaves_lem = λ mode book p out. ap (λ (q : List ℕ). read_leaves mode t books book q p out) same_cells;
        coefficient_says_lem = λ mode book p i. ap (λ (q : List ℕ). coefficient_says mode t books book q p i) same_cells;
        coefficient_carries_lem = λ mode book p i. ap (λ (q : List ℕ). coefficient_carries mode t books book q p i) same_cells;
        tally_says_lem = λ mode book. ap (λ (q : List ℕ). tally_says mode t books book q) same_cells;
        lines_says_lem = λ mode book p held. ap (λ (q : List ℕ). lines_says mode t books book q p held) same_cells;
        lines_leaves_lem = λ mode book p held. ap (λ (q : List ℕ). lines_leaves mode t books book q p held) same_cells;
      }

  converts : (h : List ℕ) → Passes (convert_checks t books pg h) → convert_leaves from to t books pg h ≡ turned from to t books pg
  converts h passes = passes_leaves (turned from to t books pg) h (convert_checks t books pg h) passes

undo : (from to : Layout) (t : List ℕ) (books : ℕ) (pg h h' : List ℕ) → Passes (convert_checks t books pg h) → length h' ≡ length pg
    → convert_leaves to from t books (convert_leaves from to t books pg h) h' ≡ pg
undo from to t books pg h h' passes same =
    let q = turned from to t books pg in
    let ready = (passes_apart (page_checks t books pg) (page_check t books h ∷ []) passes).0 in
    let size = page_size t books pg ready in
    let q_size : Sized t books q = converted_length from to (cells_of (places_in t) books) pg ∙ size in
    let Back_passes = passes_then (page_checks t books q) (page_check t books h' ∷ []) (page_passes t books q (page_books t books pg ready) q_size) (right_page t books h' (same ∙ size), tt) in
    ap (λ (p : List ℕ). convert_leaves to from t books p h') (converts from to t books pg h passes)
    ∙ converts to from t books q h' Back_passes
    ∙ converted_back from to (cells_of (places_in t) books) pg

-- takes in turn leave what they leave cell by cell, as it is kept; r is how many were refused before
all_taken : (layout : Layout) (t : List ℕ) (books : ℕ) (pg : List ℕ) (r : ℕ) (xs : List (List ℕ))
    → taken_all layout t books pg xs ≡ as_kept layout t books (after t books (record { page = as_cells layout t books pg; refused = r }) xs).page
unfolding taken_all after arrive
all_taken layout t books pg r [] = as_kept_lem layout t books pg refl
all_taken layout t books pg r (x ∷ xs) =
    let n = cells_of (places_in t) books in
    let left = take_leaves t books (as_cells layout t books pg) x in
    let more = r + refusals t books (as_cells layout t books pg) x in
    all_taken layout t books (taken_in layout t books pg x) more xs
    ∙ ap (λ (q : List ℕ). as_kept layout t books (after t books (record { page = q; refused = more }) xs).page) (converted_back layouts.CellByCell layout n left)

grows : (layout : Layout) (t : List ℕ) (books : ℕ) (xs : List (List ℕ)) → taken_all layout t books (new_page t books) xs ≡ as_kept layout t books (grown t books xs)
grows layout t books xs =
    all_taken layout t books (new_page t books) 0 xs
    ∙ ap (λ (q : List ℕ). as_kept layout t books (after t books (record { page = q; refused = 0 }) xs).page) (empty_converted layout layouts.CellByCell (cells_of (places_in t) books))

new_pages : (from to : Layout) (t : List ℕ) (books : ℕ) (xs : List (List ℕ))
    → taken_all to t books (new_page t books) xs ≡ turned from to t books (taken_all from t books (new_page t books) xs)
new_pages from to t books xs =
    let n = cells_of (places_in t) books in
    grows to t books xs
    ∙ sym (converted_through layouts.CellByCell from to n (grown t books xs))
    ∙ ap (turned from to t books) (sym (grows from t books xs))

pub layouts_kept : Layouts
layouts_kept = record {
  same_length = λ from to t books pg. converted_length from to (cells_of (places_in t) books) pg;
  back = λ from to t books pg. converted_back from to (cells_of (places_in t) books) pg;
  converts = converts;
  undo = undo;
  as_converted = as_converted;
  cells_already = cells_already;
  kept_already = cells_already;
  take_unchanged = λ layout t books pg x n e. sym (as_kept_lem layout t books pg (sym (demand_1.take_unchanged t books (as_cells layout t books pg) x n e)));
  new_page_lem = λ layout t books. empty_converted layout layouts.CellByCell (cells_of (places_in t) books);
  grows = grows;
  new_pages = new_pages;
}
