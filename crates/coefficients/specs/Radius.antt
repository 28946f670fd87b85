-- The choice of the radius (docs/RULES.md, "Quantizing into a record"): the radius k with the least |A - k x step|;
-- on a tie, the smaller. `row` is the bytes of a row, a the sum A of the magnitudes.
use Rattle.std.specs.Prelude.{ℕ, ◌-◌, ◌*◌, List}
use Rattle.floats.specs.Nearest.{gap}
use Rattle.tables.specs.Row.{radii_of, radius_at, step_of}
use Rattle.shares.specs.Best.{first_best, smaller}

-- |A - k x step| for the radius of a radius number
abbrev pub miss_by : List ℕ → ℕ → ℕ → ℕ
miss_by row a number = gap a (radius_at row number * step_of row)

-- the radius number that is chosen: the radii of a row rise, so that the smaller of two is the one of the lower
-- number
unfoldable pub chosen_radius_number : List ℕ → ℕ → ℕ
chosen_radius_number row a = first_best smaller (miss_by row a) (radii_of row - 1)

abbrev pub chosen_radius : List ℕ → ℕ → ℕ
chosen_radius row a = radius_at row (chosen_radius_number row a)
