-- The records of places, one after the other, in a buffer.
use Prim.Native.Nat.{ℕ, ◌+◌, ◌*◌}
use mathlib.Core.List.{List}
use mathlib.Core.Path.{◌≡◌, ◌∙◌}
use native.Mathlib.Nat.{zero-add}
use native.Mathlib.Omega.{arith}
use lib.Ieee.{Float}
use lib.ListN.{length}
use Rattle.buffers.proofs.Joining.{joined_none, joined_more}
use Rattle.buffers.proofs.Writing.{wrote_none, all_written}
use Rattle.buffers.specs.Joined.{joined}
use Rattle.buffers.specs.Written.{Wrote}
use Rattle.tables.specs.Table.{places_in, row_of, row_for}
use Rattle.records.specs.Record.{record_length, record_of}
use Rattle.coding.specs.Coded.{radius_number_for, codeword_for}
use Rattle.runs.proofs.Records.{records_length_lem}
use Rattle.runs.specs.Run.{vector_for}
use Rattle.runs.specs.Sending.{records_length, record_at, records_of}

module _ (t : List ℕ) (book : ℕ) (run : List Float) where
  -- those of the places before p are written
  abbrev pub RecordsTo : ℕ → List ℕ → List ℕ → Type 0
  RecordsTo p held holds = Wrote held 0 (joined (record_at t book run) 0 p) (record_length * p) (record_length * p) holds

  pub begins_records : (held : List ℕ) → RecordsTo 0 held held
  begins_records held = rw (joined_none (record_at t book run) 0) (wrote_none held 0)

  -- `row` is what is lent of the row of place p, n its number, and v what is lent of the run
  pub record_more : {held x y row : List ℕ} {v : List Float} {n : ℕ} (p : ℕ) → n ≡ row_of t p → row ≡ row_for t p → v ≡ vector_for t run p → RecordsTo p held x
      → Wrote x (record_length * p) (record_of book p n (radius_number_for row v) (codeword_for row v)) record_length (record_length * p + record_length) y
      → RecordsTo (p + 1) held y
  record_more {x = x} {y = y} p is_number is_row is-vector so_far one =
      let next : Wrote x (record_length * p) (record_at t book run (0 + p)) record_length (record_length * p + record_length) y = rw (zero-add p) (rw (is-vector, is_row, is_number) at one) in
      let all = joined_more (record_at t book run) 0 p so_far next in
      record { ends = omega (arith, all.ends); made = all.made; to = omega arith }

  -- all are written: the buffer holds them and nothing else
  pub all_records : {held holds : List ℕ} {p : ℕ} → p ≡ places_in t → length held ≡ records_length t → RecordsTo p held holds → holds ≡ records_of t book run
  all_records {held} all room so_far =
      let size = records_length_lem t book run in
      (rw all at so_far).made ∙ all_written held (records_of t book run) (length (records_of t book run)) (omega arith) (omega arith)
