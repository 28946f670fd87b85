-- What is asked of a numbering is asked of the enumeration that is selected; by pattern, shape and signs, in the shell
-- whose field it counts by.
use Prim.Native.Nat.{ℕ, ◌<◌}
use mathlib.Core.Path.{◌≡◌, refl, sym, ap, ap₂, ◌∙◌}
use mathlib.Core.Bool.{Bool, true}
use mathlib.Core.List.{List}
use native.Mathlib.Omega.{arith}
use lib.IntN.{ℤ}
use Rattle.counts.specs.Counts.{range_start}
use Rattle.counts.specs.Fields.{size_of, field_total}
use Rattle.counts.specs.declared.Field.{Field}
use Rattle.counts.specs.declared.Field.TheVariants as field
use Rattle.counts.specs.declared.Length.{Length}
use Rattle.counts.specs.declared.Radius.{Radius}
use Rattle.counts.proofs.Fields.{is_field}
use Rattle.enumeration.specs.Enumeration.{Enumeration}
use Rattle.enumeration.specs.Point.{OnShell}
use Rattle.enumeration.specs.Reading.{range_of, product_point, product_names}
use Rattle.enumeration.proofs.Product.{exact_names}
use Rattle.product.specs.Components.{IsIndexOf}
use Rattle.product.specs.declared.inner.range.Found.{Found}
use Rattle.ranges.specs.declared.inner.usable.Shell.{Shell}
use Rattle.selectors.specs.Selected.{enumeration_named, field_in}
use Rattle.selectors.specs.declared.inner.Selected.{Selected}
use Rattle.selectors.specs.declared.inner.Selected.TheVariants as selected
use Rattle.selectors.proofs.Named.{total_named_lem}
use Rattle.tables.specs.Usable.{IsUsable}
use Rattle.numbering.specs.Numbered.{ByProduct, IsShellOf, enumeration_in, total_in, index_in, point_in, names_in, Names, found_by, IsFound}
use Rattle.numbering.specs.declared.inner.Numbering.{Numbering}

-- the shell is usable by what the enumeration counts
pub usable_in : (m : Numbering) → IsUsable m.length.0 m.radius.0 (total_in m)
unfolding enumeration_in
usable_in m = m.usable

-- the total is that of the shape field
pub total_in_field : (m : Numbering) → total_in m ≡ field_total (size_of (field_in m.selected)) m.length.0 m.radius.0
unfolding enumeration_in
total_in_field m = total_named_lem m.selected m.length.0 m.radius.0

-- so the shell is usable by the total that the field makes, as the code has found the field
pub usable_by_field : (m : Numbering) {f : Field} → f ≡ field_in m.selected → IsUsable m.length.0 m.radius.0 (field_total (size_of f) m.length.0 m.radius.0)
usable_by_field m e = rw e (rw (total_in_field m) at (usable_in m))

range_is : (F : ℕ → ℕ → ℕ) (l k n s start : ℕ) → s ≡ range_of F l k n → start ≡ range_start F s l k
    → ◌≡◌ {A = Found} (record { s = s; start = start }) (record { s = range_of F l k n; start = range_start F (range_of F l k n) l k })
range_is F l k n s start e f = rw (f, e)

module _ {s : Selected} (m : Numbering) (e : m.selected ≡ s) where
  named : enumeration_in m ≡ enumeration_named s
  unfolding enumeration_in
  named = ap enumeration_named e

  pub total_by : total_in m ≡ (enumeration_named s).total m.length.0 m.radius.0
  total_by = ap (λ (f : Enumeration). f.total m.length.0 m.radius.0) named

  pub usable_by : IsUsable m.length.0 m.radius.0 ((enumeration_named s).total m.length.0 m.radius.0)
  usable_by = rw total_by at (usable_in m)

  pub names_by : {b : Bool} (n : ℕ) → b ≡ (enumeration_named s).names m.length.0 m.radius.0 n → b ≡ names_in m n
  names_by n is = is ∙ sym (ap (λ (f : Enumeration). f.names m.length.0 m.radius.0 n) named)

  pub index_by : {r : ℕ} (x : List ℤ) → r ≡ (enumeration_named s).index x → r ≡ index_in m x
  index_by x is = is ∙ sym (ap (λ (f : Enumeration). f.index x) named)

  pub point_by : {q : List ℤ} (n : ℕ) → q ≡ (enumeration_named s).point m.length.0 m.radius.0 n → q ≡ point_in m n
  point_by n is = is ∙ sym (ap (λ (f : Enumeration). f.point m.length.0 m.radius.0 n) named)

  pub found_by_lem : {found : Found} (n : ℕ) → found ≡ found_by s m.length.0 m.radius.0 n → IsFound m n found
  found_by_lem n is = record { stands = is ∙ sym (ap (λ (v : Selected). found_by v m.length.0 m.radius.0 n) e) }

  pub stands_by : {found : Found} (n : ℕ) → IsFound m n found → found ≡ found_by s m.length.0 m.radius.0 n
  stands_by n is = is.stands ∙ ap (λ (v : Selected). found_by v m.length.0 m.radius.0 n) e

-- where the field is exact every index names a point
pub names_exact : (m : Numbering) → ByProduct m field.Exact → (n : ℕ) → n < total_in m → true ≡ names_in m n
names_exact m e n below =
    names_by m e n (sym (exact_names (is_field field.Exact) m.length.0 m.radius.0 n (omega (arith, below, total_by m e))))

-- the shell with the field that the indices are counted by
module _ (m : Numbering) (shell : Shell) (is : IsShellOf m shell) where
  abbrev F : ℕ → ℕ → ℕ
  F = size_of shell.field

  abbrev l : ℕ
  l = shell.length.0

  abbrev k : ℕ
  k = shell.radius.0

  pub same_length : l ≡ m.length.0
  same_length = ap (λ (length : Length). length.0) is.is_length

  same_radius : k ≡ m.radius.0
  same_radius = ap (λ (radius : Radius). radius.0) is.is_radius

  pub on_shell : {x : List ℤ} → OnShell m.length.0 m.radius.0 x → OnShell l k x
  on_shell on = record { of_length = on.of_length ∙ sym same_length; of_radius = on.of_radius ∙ sym same_radius }

  pub total_of_shell : total_in m ≡ field_total F l k
  total_of_shell =
      total_in_field m
      ∙ ap (λ (f : Field). field_total (size_of f) m.length.0 m.radius.0) (sym is.is_field)
      ∙ sym (ap₂ (field_total F) same_length same_radius)

  -- by pattern, shape and signs: what the code asks of it
  module _ {f : Field} (e : ByProduct m f) where
    pub by_shell : ByProduct m shell.field
    by_shell = e ∙ ap selected.Product (sym (is.is_field ∙ ap field_in e))

    pub names_shell : {b : Bool} (n : ℕ) → b ≡ product_names F l k n → b ≡ names_in m n
    names_shell n named = names_by m by_shell n (named ∙ ap₂ (λ (i j : ℕ). product_names F i j n) same_length same_radius)

    pub point_shell : {q : List ℤ} (n : ℕ) → q ≡ product_point F l k n → q ≡ point_in m n
    point_shell n written = point_by m by_shell n (written ∙ ap₂ (λ (i j : ℕ). product_point F i j n) same_length same_radius)

    found_same : (n : ℕ) → found_by (selected.Product shell.field) l k n ≡ found_by (selected.Product shell.field) m.length.0 m.radius.0 n
    found_same n = ap₂ (λ (i j : ℕ). found_by (selected.Product shell.field) i j n) same_length same_radius

    pub found_shell : (n : ℕ) (found : Found) → found.s ≡ range_of F l k n → found.start ≡ range_start F found.s l k → IsFound m n found
    found_shell n found range start = found_by_lem m by_shell n (range_is F l k n found.s found.start range start ∙ found_same n)

    -- what was found is the range
    range_shell : (n : ℕ) (found : Found) → IsFound m n found → (found.s ≡ range_of F l k n) × (found.start ≡ range_start F found.s l k)
    range_shell n found is_found =
        let stands = stands_by m by_shell n is_found ∙ sym (found_same n) in
        (ap (λ (g : Found). g.s) stands, rw stands)

    pub index_shell : (n : ℕ) (found : Found) → n < total_in m → IsFound m n found → IsIndexOf shell n found
    index_shell n found below is_found =
        let range = range_shell n found is_found in
        record { index_below = rw total_of_shell at below; range_s = range.0; range_start_lem = range.1 }

    pub names_there : (n : ℕ) → Names m n → product_names F l k n ≡ true
    names_there n names = names_shell n refl ∙ names.named
