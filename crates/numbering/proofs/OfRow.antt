-- The numbering of a row's shell: what is asked of it is what the row's enumeration says.
use Prim.Native.Nat.{ℕ}
use mathlib.Core.List.{List}
use mathlib.Core.Path.{◌≡◌, sym, ap, ap₂, ◌∙◌}
use Rattle.enumeration.specs.Enumeration.{Enumeration}
use Rattle.tables.specs.Row.{length_of, selector_of, enumeration_of, shell_total}
use Rattle.tables.specs.Usable.{IsUsable}
use Rattle.numbering.specs.Numbered.{enumeration_in, total_in, point_in, names_in, IsOfRow, found_by, IsFound, FoundIn}
use Rattle.product.specs.declared.inner.range.Found.{Found}
use Rattle.numbering.specs.declared.inner.Numbering.{Numbering}
use Rattle.selectors.specs.Selected.{selected_of, enumeration_named}
use Rattle.selectors.specs.declared.inner.Selected.{Selected}
use Rattle.selectors.proofs.Named.{named_by}

module _ {m : Numbering} {row : List ℕ} {k : ℕ} (of_row : IsOfRow m row k) where
  pub enumeration_of_lem : enumeration_in m ≡ enumeration_of row
  unfolding enumeration_in enumeration_of
  enumeration_of_lem = ap enumeration_named of_row.is_selected ∙ named_by (selector_of row)

  pub total_of : total_in m ≡ shell_total row k
  total_of =
      ap (λ (e : Enumeration). e.total m.length.0 m.radius.0) enumeration_of_lem
      ∙ ap₂ (enumeration_of row).total of_row.is_length of_row.is_radius

  pub point_of_lem : (n : ℕ) → point_in m n ≡ (enumeration_of row).point (length_of row) k n
  point_of_lem n =
      ap (λ (e : Enumeration). e.point m.length.0 m.radius.0 n) enumeration_of_lem
      ∙ ap₂ (λ (l r : ℕ). (enumeration_of row).point l r n) of_row.is_length of_row.is_radius

  pub names_of : names_in m ≡ (enumeration_of row).names (length_of row) k
  names_of =
      ap (λ (e : Enumeration). e.names m.length.0 m.radius.0) enumeration_of_lem
      ∙ ap₂ (enumeration_of row).names of_row.is_length of_row.is_radius

  -- where an index stands in the shell is where it stands in the row
  stands_same : (n : ℕ) → found_by m.selected m.length.0 m.radius.0 n ≡ found_by (selected_of (selector_of row)) (length_of row) k n
  stands_same n =
      ap₂ (λ (i j : ℕ). found_by m.selected i j n) of_row.is_length of_row.is_radius
      ∙ ap (λ (s : Selected). found_by s (length_of row) k n) of_row.is_selected

  pub found_of : {n : ℕ} {found : Found} → IsFound m n found → FoundIn row k n found
  found_of {n} is_found = is_found.stands ∙ stands_same n

  pub found_at : {n : ℕ} {found : Found} → FoundIn row k n found → IsFound m n found
  found_at {n} is_found = record { stands = is_found ∙ sym (stands_same n) }

-- the shell of a row is usable by what the row's enumeration counts
pub row_usable : (row : List ℕ) (k : ℕ) {s : Selected} → s ≡ selected_of (selector_of row) → IsUsable (length_of row) k (shell_total row k)
    → IsUsable (length_of row) k ((enumeration_named s).total (length_of row) k)
unfolding enumeration_of
row_usable row k e usable =
    let same = ap enumeration_named e ∙ named_by (selector_of row) in
    rw (ap (λ (f : Enumeration). f.total (length_of row) k) same) usable
