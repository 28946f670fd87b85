-- What the coefficients xs become in a row of the table (docs/RULES.md, "Quantizing into a record"). `row` is the
-- bytes of the row.
use Rattle.std.specs.Prelude.{ℕ, List, Float, ℤ}
use Rattle.tables.specs.Row.{enumeration_of}
use Rattle.records.specs.Record.{record_of}
use Rattle.records.specs.declared.inner.Named.{Named}
use Rattle.coefficients.specs.Points.{total_of, point_of}
use Rattle.coefficients.specs.Radius.{chosen_radius_number, chosen_radius}

-- the radius number, the radius, the point and the codeword
abbrev pub radius_number_for : List ℕ → List Float → ℕ
radius_number_for row xs = chosen_radius_number row (total_of xs)

abbrev pub radius_for : List ℕ → List Float → ℕ
radius_for row xs = chosen_radius row (total_of xs)

abbrev pub point_for : List ℕ → List Float → List ℤ
point_for row xs = point_of (radius_for row xs) xs

abbrev pub codeword_for : List ℕ → List Float → ℕ
codeword_for row xs = (enumeration_of row).index (point_for row xs)

-- the record, which names a book, a place in it and the number of the row
abbrev pub record_named : Named → List ℕ → List Float → List ℕ
record_named named row xs = record_of named.book named.place named.row (radius_number_for row xs) (codeword_for row xs)
