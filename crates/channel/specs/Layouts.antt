-- The two layouts (docs/RULES.md, "States first"), over values: a page in the other layout and back is the page itself,
-- and each call on a page answers as the same call on the converted page, refusals and what they name included, and
-- leaves the conversion of what that call leaves. What a call says and leaves is what its contract says: of the page
-- cell by cell. t is any table, `books` any number of books, pg any page, of any length.
use Rattle.std.specs.Prelude.{ℕ, List, [], ◌∷◌, ◌≡◌, ℤ, length}
use Rattle.answers.specs.Checks.{Passes}
use Rattle.layout.specs.declared.Layout.{Layout}
use Rattle.layout.specs.declared.Layout.TheVariants as layouts
use Rattle.rules.specs.Layouts.{turned, as_cells, as_kept, convert_checks, convert_leaves}
use Rattle.rules.specs.Reading.{read_says, read_leaves, coefficient_says, coefficient_carries}
use Rattle.rules.specs.Taking.{take_says, take_leaves, collected, new_page, grown}
use Rattle.rules.specs.Tallying.{tally_says}
use Rattle.reporting.specs.Calls.{lines_says, lines_leaves}
use Rattle.channel.specs.Demand1.{Unchanged}

-- what take and collect leave in a page that is kept in a layout
abbrev pub taken_in : Layout → List ℕ → ℕ → List ℕ → List ℕ → List ℕ
taken_in layout t books pg x = as_kept layout t books (take_leaves t books (as_cells layout t books pg) x)

abbrev pub collected_in : Layout → List ℕ → ℕ → List ℕ → List ℕ → List ℕ
collected_in layout t books pg bytes = as_kept layout t books (collected t books (as_cells layout t books pg) bytes).page

-- and takes in turn
unfoldable pub taken_all : Layout → List ℕ → ℕ → List ℕ → List (List ℕ) → List ℕ
taken_all layout t books pg [] = pg
taken_all layout t books pg (x ∷ xs) = taken_all layout t books (taken_in layout t books pg x) xs

-- each call on pg, which is kept in the layout `from`, and the same call on pg turned into the layout `to`
pub record AsConverted (from to : Layout) (t : List ℕ) (books : ℕ) (pg : List ℕ) : Type 0 where
  pub take_says_lem : (x : List ℕ) → take_says t books (as_cells from t books pg) x ≡ take_says t books (as_cells to t books (turned from to t books pg)) x
  pub take_leaves_lem : (x : List ℕ) → taken_in from t books pg x ≡ turned to from t books (taken_in to t books (turned from to t books pg) x)
  pub collect_refuses : (bytes : List ℕ)
      → (collected t books (as_cells from t books pg) bytes).refused ≡ (collected t books (as_cells to t books (turned from to t books pg)) bytes).refused
  pub collect_leaves : (bytes : List ℕ)
      → collected_in from t books pg bytes ≡ turned to from t books (collected_in to t books (turned from to t books pg) bytes)
  pub read_says_lem : (mode book p : ℕ) (out : List ℤ)
      → read_says mode t books book (as_cells from t books pg) p out ≡ read_says mode t books book (as_cells to t books (turned from to t books pg)) p out
  pub read_leaves_lem : (mode book p : ℕ) (out : List ℤ)
      → read_leaves mode t books book (as_cells from t books pg) p out ≡ read_leaves mode t books book (as_cells to t books (turned from to t books pg)) p out
  pub coefficient_says_lem : (mode book p i : ℕ) → coefficient_says mode t books book (as_cells from t books pg) p i
      ≡ coefficient_says mode t books book (as_cells to t books (turned from to t books pg)) p i
  pub coefficient_carries_lem : (mode book p i : ℕ) → coefficient_carries mode t books book (as_cells from t books pg) p i
      ≡ coefficient_carries mode t books book (as_cells to t books (turned from to t books pg)) p i
  pub tally_says_lem : (mode book : ℕ)
      → tally_says mode t books book (as_cells from t books pg) ≡ tally_says mode t books book (as_cells to t books (turned from to t books pg))
  pub lines_says_lem : (mode book p : ℕ) (held : List ℕ)
      → lines_says mode t books book (as_cells from t books pg) p held ≡ lines_says mode t books book (as_cells to t books (turned from to t books pg)) p held
  pub lines_leaves_lem : (mode book p : ℕ) (held : List ℕ)
      → lines_leaves mode t books book (as_cells from t books pg) p held
      ≡ lines_leaves mode t books book (as_cells to t books (turned from to t books pg)) p held

pub record Layouts : Type 0 where
  -- a page turned into another layout has the length that it had, and turned back it is the page that it was
  pub same_length : (from to : Layout) (t : List ℕ) (books : ℕ) (pg : List ℕ) → length (turned from to t books pg) ≡ length pg
  pub back : (from to : Layout) (t : List ℕ) (books : ℕ) (pg : List ℕ) → turned to from t books (turned from to t books pg) ≡ pg
  -- so the conversions undo each other; h and h' are what the other pages held
  pub converts : (from to : Layout) (t : List ℕ) (books : ℕ) (pg h : List ℕ) → Passes (convert_checks t books pg h)
      → convert_leaves from to t books pg h ≡ turned from to t books pg
  pub undo : (from to : Layout) (t : List ℕ) (books : ℕ) (pg h h' : List ℕ) → Passes (convert_checks t books pg h) → length h' ≡ length pg
      → convert_leaves to from t books (convert_leaves from to t books pg h) h' ≡ pg
  pub as_converted : (from to : Layout) (t : List ℕ) (books : ℕ) (pg : List ℕ) → AsConverted from to t books pg
  -- cell by cell a call says and leaves what its definition says of the page itself
  pub cells_already : (t : List ℕ) (books : ℕ) (pg : List ℕ) → as_cells layouts.CellByCell t books pg ≡ pg
  pub kept_already : (t : List ℕ) (books : ℕ) (pg : List ℕ) → as_kept layouts.CellByCell t books pg ≡ pg
  -- a refused take changes nothing, in each layout
  pub take_unchanged : (layout : Layout) (t : List ℕ) (books : ℕ) (pg x : List ℕ)
      → Unchanged (take_says t books (as_cells layout t books pg) x) (taken_in layout t books pg x) pg
  -- all zeros are an empty page in each layout; and what grows from one, take by take, is the page that grows cell by
  -- cell, as it is kept in that layout
  pub new_page_lem : (layout : Layout) (t : List ℕ) (books : ℕ) → as_cells layout t books (new_page t books) ≡ new_page t books
  pub grows : (layout : Layout) (t : List ℕ) (books : ℕ) (xs : List (List ℕ))
      → taken_all layout t books (new_page t books) xs ≡ as_kept layout t books (grown t books xs)
  -- so of two new pages, one in each layout, that the same is taken into, each is the conversion of the other
  pub new_pages : (from to : Layout) (t : List ℕ) (books : ℕ) (xs : List (List ℕ))
      → taken_all to t books (new_page t books) xs ≡ turned from to t books (taken_all from t books (new_page t books) xs)
