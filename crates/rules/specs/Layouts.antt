-- Pages that are kept in a layout (docs/RULES.md, "States first"). The rules speak of a page cell by cell. So a call
-- that is lent a page in a layout says what the rules say of that page cell by cell, and leaves what they leave, in the
-- layout. t is the table's bytes, `books` the number of books, pg the page's bytes; all of them any.
use Rattle.std.specs.Prelude.{ℕ, List, [], ◌∷◌, ◌++◌}
use Rattle.answers.specs.Checks.{Check, first_of, leaves}
use Rattle.tables.specs.Table.{places_in}
use Rattle.layout.specs.Converting.{converted}
use Rattle.layout.specs.Layout.{cells_of}
use Rattle.layout.specs.declared.Layout.{Layout}
use Rattle.layout.specs.declared.Layout.TheVariants as layouts
use Rattle.rules.specs.Taking.{page_check, page_checks}

-- a page of the table's books, from one layout into another
abbrev pub turned : Layout → Layout → List ℕ → ℕ → List ℕ → List ℕ
turned from to t books pg = converted from to (cells_of (places_in t) books) pg

-- a page that is kept in a layout, cell by cell; and one that is cell by cell, as it is kept in a layout
abbrev pub as_cells : Layout → List ℕ → ℕ → List ℕ → List ℕ
as_cells layout t books pg = turned layout layouts.CellByCell t books pg

abbrev pub as_kept : Layout → List ℕ → ℕ → List ℕ → List ℕ
as_kept layout t books pg = turned layouts.CellByCell layout t books pg

-- ---- the calls that convert a page
-- 17, 7, 4, where 4 is given for either page; the other page holds `held`
abbrev pub convert_checks : List ℕ → ℕ → List ℕ → List ℕ → List Check
convert_checks t books pg held = page_checks t books pg ++ (page_check t books held ∷ [])

-- what they are to say, and what they leave in the other page; "state bytes are copied without judgement"
abbrev pub convert_says : List ℕ → ℕ → List ℕ → List ℕ → List ℕ
convert_says t books pg held = first_of (convert_checks t books pg held) (0 ∷ [])

abbrev pub convert_leaves : Layout → Layout → List ℕ → ℕ → List ℕ → List ℕ → List ℕ
convert_leaves from to t books pg held = leaves (convert_checks t books pg held) (turned from to t books pg) held
