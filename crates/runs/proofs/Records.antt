-- The records of a run: each has 8 bytes, and so all of them together 8 for each place.
use Prim.Native.Nat.{ℕ}
use mathlib.Core.List.{List}
use mathlib.Core.Path.{◌≡◌}
use lib.Ieee.{Float}
use lib.ListN.{length}
use Rattle.buffers.proofs.Joining.{joined_length}
use Rattle.tables.specs.Table.{places_in, row_of, row_for}
use Rattle.records.proofs.Fields.{record_length_lem}
use Rattle.records.specs.Record.{record_length}
use Rattle.coding.specs.Coded.{radius_number_for, codeword_for}
use Rattle.runs.specs.Run.{vector_for}
use Rattle.runs.specs.Sending.{records_length, record_at, records_of}

module _ (t : List ℕ) (book : ℕ) (run : List Float) where
  pub record_eight : (p : ℕ) → length (record_at t book run p) ≡ record_length
  record_eight p = record_length_lem book p (row_of t p) (radius_number_for (row_for t p) (vector_for t run p)) (codeword_for (row_for t p) (vector_for t run p))

  pub records_length_lem : length (records_of t book run) ≡ records_length t
  records_length_lem = joined_length (record_at t book run) record_length record_eight 0 (places_in t)
