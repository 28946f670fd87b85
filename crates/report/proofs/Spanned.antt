-- A place of a span, on the way through the rows: where its cell is looked for, and what stands there.
use Prim.Native.Nat.{ℕ, ◌<◌}
use mathlib.Core.Bool.{Bool}
use mathlib.Core.List.{List}
use mathlib.Core.Path.{◌≡◌}
use native.Mathlib.Omega.{arith}
use Rattle.tables.specs.Table.{places_in}
use Rattle.tables.specs.Way.{AtRow}
use Rattle.records.specs.declared.inner.Named.{Named}
use Rattle.cells.specs.Spots.{Locatable, IsSpot, SpotIn, cell_there, bad_there}
use Rattle.cells.specs.declared.inner.spot.Spot.{Spot}
use Rattle.rules.specs.Taking.{cell_for, bad_at}
use Rattle.places.proofs.Opening.{locatable, spot_in, cell_there_lem, bad_there_lem}
use Rattle.report.specs.Bounds.{page_spanned, Spans}
use Rattle.report.specs.declared.inner.block.Span.{Span}

module _ {t page : List ℕ} {span : Span} (spans : Spans t page span) {p : ℕ} (h : p < span.to) where
  pub inside : p < places_in t
  inside = omega (arith, spans.to_places, spans.is_places)

  module _ {row end : ℕ} (at_row : AtRow t row end p) where
    abbrev named : Named
    named = record { book = span.book; place = p; row = row }

    pub its_spot : Locatable span.places span.books named
    its_spot = locatable t span.books spans.shared spans.is_places named spans.in_books inside

    module _ {spot : Spot} (located : IsSpot span.layout span.places span.books named spot) where
      pub its_cell : SpotIn page spot
      its_cell = spot_in t span.books spans.shared spans.is_places named spans.in_books inside located page spans.size

      pub its_bytes : cell_there page spot ≡ cell_for t (page_spanned t page span) span.book p
      its_bytes = cell_there_lem t span.books spans.shared spans.is_places named spans.in_books inside located page

      pub found_is : {b : Bool} → bad_there page spot ≡ b → bad_at t (page_spanned t page span) span.book p ≡ b
      found_is = bad_there_lem t span.books spans.shared spans.is_places named spans.in_books inside located at_row page
