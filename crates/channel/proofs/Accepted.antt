-- What it means that quantize accepts coefficients: the table is good with its books, the book is one of them, the
-- place is in the table, the vector has the row's length, and the lent buffer has the record.
use Prim.Native.Nat.{ℕ, ◌<◌}
use mathlib.Core.Path.{◌≡◌}
use mathlib.Core.List.{List, [], ◌∷◌}
use lib.Dec.{lit<}
use lib.Ieee.{Float}
use lib.ListN.{length}
use Rattle.answers.proofs.Each.{each_numbered}
use Rattle.answers.proofs.InOrder.{numbered_then, says_passes, passes_apart, passes_leaves}
use Rattle.answers.proofs.Lengths.{right_length}
use Rattle.tables.specs.BookNumbers.{most_books, GoodBooks, place_checks}
use Rattle.tables.specs.Table.{places_in, Good, row_for, length_for}
use Rattle.tables.proofs.PlaceChecks.{sharing_good, book_passes, book_below, place_numbered, place_passes}
use Rattle.coefficients.specs.Coefficients.{usable_check}
use Rattle.quantizer.specs.Calls.{quantize_rest, quantize_checks, record_for, quantize_says, quantize_leaves}

pub record Accepted (t : List ℕ) (books book p : ℕ) (w : List Float) (lent : List ℕ) : Type 0 where
  pub shared : GoodBooks t books
  pub in_books : book < books
  pub few : book < most_books
  pub good : Good t
  pub inside : p < places_in t
  pub long : length w ≡ length_for t p
  pub leaves : quantize_leaves t books book p w lent ≡ record_for t book p w

pub accepts : (t : List ℕ) (books book p : ℕ) (w : List Float) (lent : List ℕ) → quantize_says t books book p w lent ≡ 0 ∷ []
    → Accepted t books book p w lent
accepts t books book p w lent says =
    let checks = quantize_checks t books book p w (length lent) in
    let rest = quantize_rest (row_for t p) w (length lent) in
    let numbered = numbered_then (place_checks t books book p) rest (place_numbered t books book p) (lit< tt, (lit< tt, each_numbered (usable_check w) 0 (length w) (λ i. lit< tt))) in
    let passes = says_passes [] [] checks numbered says in
    let both = passes_apart (place_checks t books book p) rest passes in
    let place = place_passes t books book p both.0 in
    let shared = book_passes t books book place.0 in
    record {
      shared = shared.0;
      in_books = shared.1;
      few = book_below t books book place.0;
      good = sharing_good t books shared.0;
      inside = place.1;
      long = right_length (length w) (length_for t p) both.1.0;
      leaves = passes_leaves (record_for t book p w) lent checks passes;
    }
