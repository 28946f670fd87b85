-- What it means that send accepts a run: the table is good with its books, the book is one of them, every place's
-- coefficients are such as quantize accepts, and the lent buffer has the records.
use Prim.Native.Nat.{ℕ, ◌*◌, ◌<◌}
use mathlib.Core.Path.{◌≡◌, refl, sym, ◌∙◌}
use mathlib.Core.List.{List, [], ◌∷◌}
use native.Mathlib.Nat.{zero-add}
use native.Mathlib.Omega.{arith}
use borrow.Author.Tests.{eq-eqb}
use lib.Dec.{lit<}
use lib.Ieee.{Float}
use lib.ListN.{length, take, drop, replicate}
use Rattle.answers.specs.Checks.{Check, Passes}
use Rattle.answers.proofs.Each.{passes_each}
use Rattle.answers.proofs.InOrder.{Numbered, numbered_then, says_passes, passes_apart, passes_then, passes_says, passes_leaves}
use Rattle.answers.proofs.Lengths.{right_length}
use Rattle.buffers.proofs.Joining.{joined_part}
use Rattle.tables.specs.BookNumbers.{most_books, GoodBooks, book_checks, place_checks}
use Rattle.tables.specs.Table.{places_in, Good, row_for, length_for}
use Rattle.tables.proofs.PlaceChecks.{sharing_good, book_numbered, book_passes, book_below, passes_place}
use Rattle.records.specs.Record.{record_length}
use Rattle.coefficients.specs.Coefficients.{usable_check, AllUsable}
use Rattle.quantizer.specs.Calls.{quantize_rest, quantize_checks, quantize_says, quantize_leaves}
use Rattle.runs.specs.Run.{coordinates_in, vector_for}
use Rattle.runs.specs.Sending.{send_rest, send_checks, record_at, records_of, send_says, send_leaves}
use Rattle.runs.proofs.Judging.{run_numbered, run_usable}
use Rattle.runs.proofs.Positions.{vector_length}
use Rattle.runs.proofs.Records.{record_eight, records_length_lem}
use Rattle.channel.specs.Demand3.{Sent}
use Rattle.channel.specs.Sending.{sent_point, SendWrites}

pub record AcceptedRun (t : List ℕ) (books book : ℕ) (run : List Float) (held : List ℕ) : Type 0 where
  pub with_book : Passes (book_checks t books book)
  pub shared : GoodBooks t books
  pub in_books : book < books
  pub few : book < most_books
  pub good : Good t
  pub long : (p : ℕ) → p < places_in t → length (vector_for t run p) ≡ length_for t p
  pub usable : (p : ℕ) → p < places_in t → AllUsable (vector_for t run p)
  pub leaves : send_leaves t books book run held ≡ records_of t book run

module _ (t : List ℕ) (books book : ℕ) (run : List Float) (held : List ℕ) where
  pub accepts_run : send_says t books book run held ≡ 0 ∷ [] → AcceptedRun t books book run held
  accepts_run says =
      let b = length held in
      let numbered : Numbered (send_rest t run b) = (lit< tt, (lit< tt, run_numbered t run)) in
      let checks = send_checks t books book run b in
      let passes = says_passes [] [] checks (numbered_then (book_checks t books book) (send_rest t run b) (book_numbered t books book) numbered) says in
      let both = passes_apart (book_checks t books book) (send_rest t run b) passes in
      let shared = book_passes t books book both.0 in
      let long = right_length (length run) (coordinates_in t) both.1.0 in
      record {
        with_book = both.0;
        shared = shared.0;
        in_books = shared.1;
        few = book_below t books book both.0;
        good = sharing_good t books shared.0;
        long = vector_length t run long;
        usable = run_usable t run long both.1.1.1;
        leaves = passes_leaves (records_of t book run) held checks passes;
      }

  module _ (a : AcceptedRun t books book run held) where
    -- so quantize accepts the coefficients of each place
    module _ (p : ℕ) (h : p < places_in t) (lent : List ℕ) (eight : length lent ≡ record_length) where
      abbrev checks : List Check
      checks = quantize_checks t books book p (vector_for t run p) (length lent)

      place_passes : Passes (quantize_checks t books book p (vector_for t run p) (length lent))
      place_passes =
          let w = vector_for t run p in
          passes_then (place_checks t books book p) (quantize_rest (row_for t p) w (length lent)) (passes_place t books book p a.with_book h) (
            rw (eq-eqb (length w) (length_for t p) (a.long p h)) refl,
            (rw (eq-eqb (length lent) record_length eight) refl, passes_each (usable_check w) 0 (length w) (λ i from below. a.usable p h i (omega arith))),
          )

      place_says : quantize_says t books book p (vector_for t run p) lent ≡ 0 ∷ []
      place_says = passes_says (0 ∷ []) checks place_passes

      place_leaves : quantize_leaves t books book p (vector_for t run p) lent ≡ record_at t book run p
      place_leaves = passes_leaves (record_at t book run p) lent checks place_passes

    -- its record is that part of the buffer
    part_written : (p : ℕ) → p < places_in t → take record_length (drop (record_length * p) (send_leaves t books book run held)) ≡ record_at t book run p
    part_written p h =
        rw a.leaves (rw (zero-add p) at (joined_part (record_at t book run) record_length (record_eight t book run) 0 (places_in t) p h))

    -- and is sent for its place
    pub place_sent : (p : ℕ) → p < places_in t → Sent t books book p (vector_for t run p) (record_at t book run p) (sent_point t run p)
    place_sent p h =
        let lent : List ℕ = replicate record_length 0 in
        record { lent = lent; accepted = place_says p h lent refl; written = place_leaves p h lent refl; point = refl }

pub send_writes : SendWrites
send_writes t books book run held says =
    let a = accepts_run t books book run held says in
    record {
      size = rw a.leaves (records_length_lem t book run);
      quantized = λ p h lent eight.
          (place_says t books book run held a p h lent eight, part_written t books book run held a p h ∙ sym (place_leaves t books book run held a p h lent eight));
    }
