-- The record that quantize writes: its radius number is one of the row, its point is on the shell of that radius,
-- its codeword is the index of the point and below the total, and each field fits its bytes, so that the record
-- holds what was put into it.
use Prim.Native.Nat.{ℕ, ◌<◌}
use mathlib.Core.Path.{◌≡◌}
use mathlib.Core.List.{List}
use native.Mathlib.Omega.{arith}
use native.Mathlib.Nat.{le_refl, lt_of_lt_of_le}
use lib.Ieee.{Float}
use lib.ListN.{length}
use Rattle.enumeration.specs.Point.{OnShell}
use Rattle.tables.specs.Row.{radii_of, shell_total, GoodRow}
use Rattle.tables.specs.Table.{rows_of, places_in, Good, row_of, row_for, length_for}
use Rattle.tables.specs.Usable.{IsUsable}
use Rattle.tables.proofs.Good.{right_size, good_total, good_place}
use Rattle.tables.proofs.GoodRow.{row_lawful}
use Rattle.records.specs.Record.{record_of, Holds}
use Rattle.records.proofs.Fields.{record_holds}
use Rattle.coefficients.specs.Points.{total_of}
use Rattle.coefficients.proofs.Points.{point_on_shell}
use Rattle.coefficients.proofs.Radii.{number_below, some_total}
use Rattle.coding.specs.Coded.{radius_number_for, radius_for, point_for, codeword_for}
use Rattle.quantizer.specs.Calls.{record_for}

module _ (t : List ℕ) (book p : ℕ) (xs : List Float) (good : Good t) (few : book < 16) (h : p < places_in t) (long : length xs ≡ length_for t p) where
  row_good : GoodRow (row_for t p)
  row_good = (good_place t p good h).1

  -- the radius number is one of the row, and its shell is usable
  pub number_in : radius_number_for (row_for t p) xs < radii_of (row_for t p)
  number_in = number_below (row_for t p) row_good (total_of xs)

  pub shell_usable : IsUsable (length_for t p) (radius_for (row_for t p) xs) (shell_total (row_for t p) (radius_for (row_for t p) xs))
  shell_usable = row_good.radius_usable (radius_number_for (row_for t p) xs) number_in

  pub point_in_lem : OnShell (length_for t p) (radius_for (row_for t p) xs) (point_for (row_for t p) xs)
  point_in_lem = rw (← long) (point_on_shell (radius_for (row_for t p) xs) xs (some_total (row_for t p) row_good (total_of xs)))

  pub codeword_below : codeword_for (row_for t p) xs < shell_total (row_for t p) (radius_for (row_for t p) xs)
  codeword_below = (row_lawful (row_for t p)).index_below (length_for t p) (radius_for (row_for t p) xs) (point_for (row_for t p) xs) point_in_lem

  -- a record with that radius number and any codeword below the total holds its fields
  pub fields_held : (codeword : ℕ) → codeword < shell_total (row_for t p) (radius_for (row_for t p) xs)
      → Holds (record_of book p (row_of t p) (radius_number_for (row_for t p) xs) codeword) book p (row_of t p) (radius_number_for (row_for t p) xs) codeword
  fields_held codeword below =
      record_holds book p (row_of t p) (radius_number_for (row_for t p) xs) codeword (record {
        book_fits = few;
        place_fits = omega (arith, h, good_total t good (rows_of t) (le_refl (rows_of t)));
        row_fits = omega (arith, (good_place t p good h).0, (right_size t good).rows_to);
        radius_number_fits = omega (arith, number_in, row_good.radii_to);
        codeword_fits = lt_of_lt_of_le below shell_usable.points_to;
      })

  pub record_written : Holds (record_for t book p xs) book p (row_of t p) (radius_number_for (row_for t p) xs) (codeword_for (row_for t p) xs)
  record_written = fields_held (codeword_for (row_for t p) xs) codeword_below
