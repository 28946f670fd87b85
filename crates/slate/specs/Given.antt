-- What the layout program, in C, is given (docs/RULES.md, "Calls for C"). l and k are any whole numbers; t
-- is the table's bytes, `books` the number of books, pg the page's bytes, x those of a record; all of them any.
use Rattle.std.specs.Prelude.{ℕ, List}
use Rattle.answers.specs.Checks.{number_said, leaves}
use Rattle.counts.specs.Counts.{N}
use Rattle.tables.specs.Usable.{shell_checks}
use Rattle.layout.specs.declared.Layout.TheVariants as layouts
use Rattle.rules.specs.Layouts.{as_cells, as_kept, convert_says}
use Rattle.rules.specs.Taking.{take_says, take_leaves}

-- "the version of the header", include/aldrynja.h, and of the formats that its calls take: raised when a program
-- that was built for the version before would be given something else
abbrev pub version : ℕ
version = 6

-- "count gives N, or 0 where count is refused"
abbrev pub count_gives : ℕ → ℕ → ℕ
count_gives l k = leaves (shell_checks l k (N l k)) (N l k) 0

-- "take gives 0 where the record is taken, and otherwise the number of the refusal without the row": the number
-- that the call take says first; pg is kept states first
abbrev pub take_gives : List ℕ → ℕ → List ℕ → List ℕ → ℕ
take_gives t books pg x = number_said (take_says t books (as_cells layouts.StatesFirst t books pg) x)

-- and what take leaves in that page
abbrev pub take_keeps : List ℕ → ℕ → List ℕ → List ℕ → List ℕ
take_keeps t books pg x = as_kept layouts.StatesFirst t books (take_leaves t books (as_cells layouts.StatesFirst t books pg) x)

-- "a conversion gives 0, or the number of its refusal without the row"; the other page holds `held`
abbrev pub convert_gives : List ℕ → ℕ → List ℕ → List ℕ → ℕ
convert_gives t books pg held = number_said (convert_says t books pg held)
