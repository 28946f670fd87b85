-- What a numbering of the points of a shell is, and what is asked of it. m is the shell and its enumeration as the
-- code hands them over, n an index.
use Rattle.std.specs.Prelude.{ℕ, ◌≤◌, ◌<◌, ◌≡◌, List, Bool, true, false, ℤ, Result, Ok, Err}
use Rattle.counts.specs.Counts.{range_start}
use Rattle.counts.specs.Fields.{size_of}
use Rattle.counts.specs.declared.Field.{Field}
use Rattle.enumeration.specs.Enumeration.{Enumeration}
use Rattle.enumeration.specs.Reading.{range_of}
use Rattle.tables.specs.Row.{length_of, selector_of}
use Rattle.ranges.specs.declared.inner.usable.Shell.{Shell}
use Rattle.selectors.specs.Selected.{selected_of, enumeration_named, field_in}
use Rattle.selectors.specs.declared.inner.Selected.{Selected}
use Rattle.selectors.specs.declared.inner.Selected.TheVariants as selected
use Rattle.product.specs.declared.inner.range.Found.{Found}
use Rattle.numbering.specs.declared.inner.Numbering.{Numbering}
use Rattle.numbering.specs.declared.inner.Missed.{Missed}
use Rattle.numbering.specs.declared.inner.Missed.TheVariants as missed

-- the enumeration that numbers the points
unfoldable pub enumeration_in : Numbering → Enumeration
enumeration_in m = enumeration_named m.selected

abbrev pub ByProduct : Numbering → Field → Type 0
ByProduct m f = m.selected ≡ selected.Product f

abbrev pub ByMagnitude : Numbering → Type 0
ByMagnitude m = m.selected ≡ selected.Magnitude

abbrev pub total_in : Numbering → ℕ
total_in m = (enumeration_in m).total m.length.0 m.radius.0

abbrev pub index_in : Numbering → List ℤ → ℕ
index_in m x = (enumeration_in m).index x

abbrev pub point_in : Numbering → ℕ → List ℤ
point_in m n = (enumeration_in m).point m.length.0 m.radius.0 n

abbrev pub names_in : Numbering → ℕ → Bool
names_in m n = (enumeration_in m).names m.length.0 m.radius.0 n

-- the numbering of the shell of radius k in a row
pub record IsOfRow (m : Numbering) (row : List ℕ) (k : ℕ) : Type 0 where
  pub is_length : m.length.0 ≡ length_of row
  pub is_radius : m.radius.0 ≡ k
  pub is_selected : m.selected ≡ selected_of (selector_of row)

-- the shell of a numbering, with the field by which its indices are counted
pub record IsShellOf (m : Numbering) (shell : Shell) : Type 0 where
  pub is_field : shell.field ≡ field_in m.selected
  pub is_length : shell.length ≡ m.length
  pub is_radius : shell.radius ≡ m.radius

-- n names a point
pub record Names (m : Numbering) (n : ℕ) : Type 0 where
  pub below : n < total_in m
  pub named : names_in m n ≡ true

-- nothing to tell of where an index stands
abbrev pub nowhere : Found
nowhere = record { s = 0; start = 0 }

-- where n stands: by pattern, shape and signs in the range for s, which starts there
abbrev pub found_by : Selected → ℕ → ℕ → ℕ → Found
found_by (selected.Product f) l k n = record { s = range_of (size_of f) l k n; start = range_start (size_of f) (range_of (size_of f) l k n) l k }
found_by selected.Magnitude l k n = nowhere

pub record IsFound (m : Numbering) (n : ℕ) (found : Found) : Type 0 where
  pub stands : found ≡ found_by m.selected m.length.0 m.radius.0 n

-- what a search for n is to answer
abbrev pub Seeks : Numbering → ℕ → Result Found Missed → Type 0
Seeks m n (Ok found) = (n < total_in m) × (names_in m n ≡ true) × IsFound m n found
Seeks m n (Err missed.Empty) = (n < total_in m) × (names_in m n ≡ false)
Seeks m n (Err (missed.Past total)) = (total_in m ≤ n) × (total ≡ total_in m)

-- `found` is where n stands in the shell of radius k in a row
abbrev pub FoundIn : List ℕ → ℕ → ℕ → Found → Type 0
FoundIn row k n found = found ≡ found_by (selected_of (selector_of row)) (length_of row) k n
