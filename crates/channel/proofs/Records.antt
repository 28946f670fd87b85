-- Demand 2, of records: what quantize writes where it accepts.
use Prim.Native.Nat.{ℕ}
use mathlib.Core.List.{List}
use lib.Ieee.{Float, nan}
use lib.ListN.{get_or}
use Rattle.floats.proofs.Nearest.{whole_nearest}
use Rattle.tables.specs.Row.{GoodRow}
use Rattle.tables.specs.Table.{row_for}
use Rattle.tables.proofs.Good.{good_place}
use Rattle.tables.proofs.Places.{row_holds}
use Rattle.coding.specs.Coded.{radius_for, point_for}
use Rattle.quantizer.specs.Calls.{record_for}
use Rattle.coefficients.specs.Points.{total_of, IsPointOf}
use Rattle.coefficients.proofs.Points.{point_is, point_only, zero_stays, point_nearest}
use Rattle.coefficients.proofs.Radii.{least_miss, smaller_on_tie, some_total}
use Rattle.quantizer.proofs.Written.{number_in, point_in_lem, record_written}
use Rattle.channel.specs.Demand2.{Quantizes, QuantizeWrites}
use Rattle.channel.proofs.Accepted.{Accepted, accepts}

module _ (t : List ℕ) (books book p : ℕ) (w : List Float) (out : List ℕ) (a : Accepted t books book p w out) where
  row : GoodRow (row_for t p)
  row = (good_place t p a.good a.inside).1

  its_point : IsPointOf (radius_for (row_for t p) w) w (point_for (row_for t p) w)
  its_point = point_is (radius_for (row_for t p) w) w (some_total (row_for t p) row (total_of w))

  written : Quantizes t book p w (record_for t book p w)
  written = record {
    fields = record_written t book p w a.good a.few a.inside a.long;
    its_row = row_holds t p a.inside;
    nearest = λ i h. whole_nearest (get_or w i nan);
    in_row = number_in t book p w a.good a.few a.inside a.long;
    least = least_miss (row_for t p) row (total_of w);
    first = smaller_on_tie (row_for t p) row (total_of w);
    on_shell = point_in_lem t book p w a.good a.few a.inside a.long;
    point = its_point;
    only_point = λ q is. point_only (radius_for (row_for t p) w) w q (point_for (row_for t p) w) is its_point;
    zeros = λ i h none. zero_stays (radius_for (row_for t p) w) w i h (some_total (row_for t p) row (total_of w)) none;
    none_nearer = λ above. point_nearest (radius_for (row_for t p) w) w above (some_total (row_for t p) row (total_of w) above);
  }

pub quantize_writes : QuantizeWrites
quantize_writes t books book p w out says = let a = accepts t books book p w out says in rw a.leaves (written t books book p w out a)
