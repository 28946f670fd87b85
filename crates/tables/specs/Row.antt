-- A row of the pairing table, as the table of docs/RULES.md, "Pairing table", gives it: its fields, and the faults
-- that make it bad. `row` is the bytes of the row.
use Rattle.std.specs.Prelude.{ℕ, zero, suc, ◌+◌, ◌≤◌, ◌<◌, ◌≡◌, List, [], ◌∷◌, Bool, false, not, ◌||◌, eqb, leb, ltb, length, get_or}
use Rattle.answers.specs.Checks.{pick, any_of}
use Rattle.octets.specs.Octets.{from_high}
use Rattle.enumeration.specs.Enumeration.{Enumeration}
use Rattle.enumeration.specs.Enumerations.{selected_by, selects_none}
use Rattle.tables.specs.Usable.{length_outside, unusable_shell, IsUsable}

-- so many bytes a row: records of one fixed size
abbrev pub row_length : ℕ
row_length = 16

-- byte j
unfoldable pub byte_of : List ℕ → ℕ → ℕ
byte_of row j = get_or row j 0

-- a number of two bytes, high byte first, from byte j on
abbrev pub pair_of : List ℕ → ℕ → ℕ
pair_of row j = from_high (byte_of row j ∷ byte_of row (1 + j) ∷ [])

-- 0: length
abbrev pub length_of : List ℕ → ℕ
length_of row = byte_of row 0

-- 1: number of radii
abbrev pub radii_of : List ℕ → ℕ
radii_of row = byte_of row 1

-- 2 to 9: radii; a radius number is a position among them
abbrev pub radius_at : List ℕ → ℕ → ℕ
radius_at row n = byte_of row (2 + n)

-- 10 to 11: step
abbrev pub step_of : List ℕ → ℕ
step_of row = pair_of row 10

-- 12 to 13: places in this row
abbrev pub places_of : List ℕ → ℕ
places_of row = pair_of row 12

-- 14: selector
abbrev pub selector_of : List ℕ → ℕ
selector_of row = byte_of row 14

-- the row's own enumeration, which numbers the points of its shells
unfoldable pub enumeration_of : List ℕ → Enumeration
enumeration_of row = selected_by (selector_of row)

-- the total of the shell of a radius
abbrev pub shell_total : List ℕ → ℕ → ℕ
shell_total row k = (enumeration_of row).total (length_of row) k

-- number of radii, 1 to 8
abbrev pub radii_outside : ℕ → Bool
radii_outside n = any_of (ltb n 1 ∷ ltb 8 n ∷ [])

-- each usable
abbrev pub unusable_radius : List ℕ → ℕ → Bool
unusable_radius row k = unusable_shell (length_of row) k (shell_total row k)

-- above this radius, and no other, each radius is unusable
abbrev pub IsLargest : List ℕ → ℕ → Type 0
IsLargest row most = (k : ℕ) → ltb most k ≡ unusable_radius row k

-- first 0, each larger than the one before
abbrev pub out_of_order : List ℕ → ℕ → Bool
out_of_order row zero = not (eqb (radius_at row 0) 0)
out_of_order row (suc n) = leb (radius_at row (suc n)) (radius_at row n)

-- a radius is out of order or unusable; positions beyond the number are 0
unfoldable pub bad_radius : List ℕ → ℕ → Bool
bad_radius row n =
    pick (ltb n (radii_of row)) (any_of (out_of_order row n ∷ unusable_radius row (radius_at row n) ∷ [])) (not (eqb (radius_at row n) 0))

-- one of the first n positions is at fault
unfoldable pub bad_radii : List ℕ → ℕ → Bool
bad_radii row zero = false
bad_radii row (suc n) = bad_radii row n || bad_radius row n

-- step, 1 to 65,535: two bytes hold no more
abbrev pub bad_step : List ℕ → Bool
bad_step row = ltb (step_of row) 1

-- places in this row, at least 1
abbrev pub no_places : List ℕ → Bool
no_places row = ltb (places_of row) 1

-- 15: zero
abbrev pub not_zero : List ℕ → ℕ → Bool
not_zero row j = not (eqb (byte_of row j) 0)

-- the faults of what stands behind the radii
abbrev pub tail_faults : List ℕ → List Bool
tail_faults row = bad_step row ∷ no_places row ∷ selects_none (selector_of row) ∷ not_zero row 15 ∷ []

-- a row that is bad by itself
unfoldable pub bad_row : List ℕ → Bool
bad_row row = any_of (length_outside (length_of row) ∷ radii_outside (radii_of row) ∷ bad_radii row 8 ∷ tail_faults row)

-- a row that is not bad, field by field: proofs/GoodRow.antt shows that it is just this
pub record GoodRow (row : List ℕ) : Type 0 where
  pub length_from : 1 ≤ length_of row
  pub length_to : length_of row ≤ 16
  pub radii_from : 1 ≤ radii_of row
  pub radii_to : radii_of row ≤ 8
  pub first_radius : radius_at row 0 ≡ 0
  pub radius_rises : (n : ℕ) → suc n < radii_of row → radius_at row n < radius_at row (suc n)
  pub radius_usable : (n : ℕ) → n < radii_of row → IsUsable (length_of row) (radius_at row n) (shell_total row (radius_at row n))
  pub radius_unused : (n : ℕ) → radii_of row ≤ n → n < 8 → radius_at row n ≡ 0
  pub step_from : 1 ≤ step_of row
  pub places_from : 1 ≤ places_of row
  pub selector_to : selector_of row ≤ 2
  pub zero_15 : byte_of row 15 ≡ 0

-- the bytes of a good row, as a function is lent them
pub record IsRow (row : List ℕ) : Type 0 where
  pub sixteen : length row ≡ row_length
  pub row_good : GoodRow row
