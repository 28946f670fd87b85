-- A page in the other layout (docs/RULES.md, "States first"): every cell is moved as it is, whatever its state. pg is
-- the bytes of a page, n how many cells it is to have; both any.
use Rattle.std.specs.Prelude.{ℕ, zero, suc, List, length}
use Rattle.answers.specs.Checks.{pick}
use Rattle.layout.specs.Layout.{page_length_check, cell_in, set_in, empty_page}
use Rattle.layout.specs.declared.Layout.{Layout}
use Rattle.layout.specs.declared.Layout.TheVariants as layouts

-- the first cells of a page, so many of them, each moved from where one layout has it to where the other has it
unfoldable pub moved : Layout → Layout → ℕ → List ℕ → ℕ → List ℕ
moved from to n pg zero = empty_page n
moved from to n pg (suc m) = set_in to n (moved from to n pg m) m (cell_in from n pg m)

-- all of them; what has not the length of a page of n cells stays as it is
unfoldable pub converted : Layout → Layout → ℕ → List ℕ → List ℕ
converted from to n pg = pick (page_length_check n (length pg)).fails pg (moved from to n pg n)

-- a page that is kept in a layout, cell by cell
abbrev pub cell_by_cell : Layout → ℕ → List ℕ → List ℕ
cell_by_cell layout n pg = converted layout layouts.CellByCell n pg
