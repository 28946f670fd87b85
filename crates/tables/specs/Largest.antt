-- The largest radius of a usable shell, stored by length: 16 numbers for either shape field, which proofs/Largest.antt
-- holds to the total; and the shells that a field of bits loses.
use Rattle.std.specs.Prelude.{ℕ, ◌-◌, ◌≤◌, ◌≡◌, Bool, ◌&&◌, List, [], ◌∷◌, eqb, get_or}
use Rattle.answers.specs.Checks.{any_of}
use Rattle.counts.specs.Counts.{N}
use Rattle.counts.specs.Fields.{bit_field, field_total}
use Rattle.counts.specs.declared.Field.{Field}
use Rattle.counts.specs.declared.Field.TheVariants as field
use Rattle.tables.specs.Usable.{most_points, too_many}

-- lengths 1 to 16, by N; there is no length 0
abbrev pub largest_radii : List ℕ
largest_radii = 0 ∷ 32 ∷ 32 ∷ 32 ∷ 32 ∷ 32 ∷ 32 ∷ 32 ∷ 32 ∷ 27 ∷ 22 ∷ 18 ∷ 16 ∷ 15 ∷ 13 ∷ 12 ∷ 12 ∷ []

-- how many radii a field of bits loses: with lengths 9, 10, 13 and 16 the largest one
abbrev pub lost_radii : List ℕ
lost_radii = 0 ∷ 0 ∷ 0 ∷ 0 ∷ 0 ∷ 0 ∷ 0 ∷ 0 ∷ 0 ∷ 1 ∷ 1 ∷ 0 ∷ 0 ∷ 1 ∷ 0 ∷ 0 ∷ 1 ∷ []

abbrev pub largest_radius : Field → ℕ → ℕ
largest_radius field.Exact l = get_or largest_radii l 0
largest_radius field.Bits l = get_or largest_radii l 0 - get_or lost_radii l 0

-- the shells that a field of bits makes unusable
unfoldable pub lost : ℕ → ℕ → Bool
lost l k = any_of ((eqb l 9 && eqb k 27) ∷ (eqb l 10 && eqb k 22) ∷ (eqb l 13 && eqb k 15) ∷ (eqb l 16 && eqb k 12) ∷ [])

-- of the shells that N makes usable, a field of bits loses those and no other
abbrev pub OnlyLost : Type 0
OnlyLost = (l k : ℕ) → 1 ≤ l → l ≤ 16 → k ≤ 32 → N l k ≤ most_points → too_many (field_total bit_field l k) ≡ lost l k
