-- Demand 3 c and d: the record that quantize wrote, and that record with some of its sign bits changed, are sound
-- where nothing else came for their place.
use Prim.Native.Nat.{ℕ, ◌/◌, ◌^◌, ◌<◌}
use mathlib.Core.Path.{◌≡◌, refl, sym, ap, ◌∙◌, subst}
use mathlib.Core.List.{List, Memᴰ}
use lib.Ieee.{Float}
use lib.IntN.{ℤ}
use Rattle.counts.specs.Fields.{size_of, IsField}
use Rattle.counts.specs.declared.Field.{Field}
use Rattle.counts.proofs.Fields.{is_field}
use Rattle.enumeration.specs.Enumeration.{Enumeration}
use Rattle.enumeration.specs.Enumerations.{by_field}
use Rattle.enumeration.specs.Point.{OnShell, nonzeros_in}
use Rattle.enumeration.specs.Product.{product_index}
use Rattle.enumeration.specs.Reading.{product_point}
use Rattle.enumeration.specs.Signs.{flipped}
use Rattle.enumeration.proofs.Product.{index_below, index_names_lem, point_of_index, point_on_shell, index_of_point}
use Rattle.enumeration.proofs.Flips.{sign_theorem}
use Rattle.tables.specs.Row.{enumeration_of}
use Rattle.tables.specs.Table.{places_in, row_of, row_for, length_for, enumeration_for}
use Rattle.tables.proofs.GoodRow.{row_lawful}
use Rattle.records.specs.Record.{record_of, Holds}
use Rattle.coding.specs.Coded.{radius_number_for, radius_for, point_for}
use Rattle.quantizer.specs.Calls.{record_for}
use Rattle.quantizer.proofs.Written.{number_in, point_in_lem, fields_held}
use Rattle.rules.specs.Taking.{grown, AllEqual}
use Rattle.laws.proofs.Claims.{is_claim}
use Rattle.channel.specs.Demand3.{OnlyCame, SoundWith, ShownAsSent, with_codeword, OnlySignsChange}
use Rattle.channel.proofs.Accepted.{Accepted, accepts}
use Rattle.channel.proofs.Arrived.{arrived_sound}
use Rattle.channel.proofs.Numbering.{signs_lowest_lem}

-- a record of a place of the table claims it; where all that claim it are equal to it, that is what came
all_of : (t : List ℕ) (books book p number codeword : ℕ) → book < books → p < places_in t → Holds (record_of book p (row_of t p) number codeword) book p (row_of t p) number codeword
    → (xs : List (List ℕ)) → Memᴰ (record_of book p (row_of t p) number codeword) xs → AllEqual t books xs book p (record_of book p (row_of t p) number codeword)
    → OnlyCame t books xs book p (record_of book p (row_of t p) number codeword)
unfolding record_of
all_of t books book p number codeword in_books inside holds xs among equal = record {
  among = among;
  claiming = is_claim t books (record_of book p (row_of t p) number codeword) book p (record { eight = refl; of_book = holds.holds_book; named = holds.holds_place; of_row = holds.holds_row; in_books = in_books; inside = inside });
  equal = equal;
}

-- a point whose codeword has other sign bits, whatever the shape field: it is on its shell, and the codeword is its
-- index
turned : (F : ℕ → ℕ → ℕ) → IsField F → (l k : ℕ) (q : List ℤ) → OnShell l k q
    → (codeword : ℕ) → product_index F q / 2 ^ nonzeros_in q ≡ codeword / 2 ^ nonzeros_in q
    → OnShell l k (flipped (product_index F q) codeword q) × (product_index F (flipped (product_index F q) codeword q) ≡ codeword)
turned F field l k q on codeword same =
    let n = product_index F q in
    let back = point_of_index F field l k q on in
    let changed = sign_theorem F field l k n codeword (index_below F field l k q on) (index_names_lem F field l k q on) (rw back same) in
    let is : product_point F l k codeword ≡ flipped n codeword q = rw back at changed.2 in (
      rw is at (point_on_shell F field l k codeword changed.0 changed.1),
      rw is at (index_of_point F field l k codeword changed.0 changed.1),
    )

-- a record with the radius number that quantize chose, and any codeword
module _ (t : List ℕ) (books book p : ℕ) (w : List Float) (lent : List ℕ) (a : Accepted t books book p w lent) where
  abbrev l : ℕ
  l = length_for t p

  abbrev k : ℕ
  k = radius_for (row_for t p) w

  abbrev point : List ℤ
  point = point_for (row_for t p) w

  abbrev made : ℕ → List ℕ
  made codeword = record_of book p (row_of t p) (radius_number_for (row_for t p) w) codeword

  -- it came, and nothing else did for its place
  abbrev Came : ℕ → List (List ℕ) → Type 0
  Came codeword xs = Memᴰ (made codeword) xs × AllEqual t books xs book p (made codeword)

  -- so it is sound, if the codeword is the index of a point of the shell
  came_sound : (q : List ℤ) → OnShell l k q → (xs : List (List ℕ)) → Came ((enumeration_of (row_for t p)).index q) xs → SoundWith t books book (grown t books xs) p q
  came_sound q on xs came =
      let number = radius_number_for (row_for t p) w in
      let codeword = (enumeration_of (row_for t p)).index q in
      let holds = fields_held t book p w a.good a.few a.inside a.long codeword ((row_lawful (row_for t p)).index_below l k q on) in
      arrived_sound t books a.shared book p a.in_books a.inside number (number_in t book p w a.good a.few a.inside a.long) q on (made codeword) holds xs
      (all_of t books book p number codeword a.in_books a.inside holds xs came.0 came.1)

  on_shell : OnShell l k point
  on_shell = point_in_lem t book p w a.good a.few a.inside a.long

  abbrev e : Enumeration
  e = enumeration_for t p

  turned_sound : (f : Field) → e ≡ by_field (size_of f) → (codeword : ℕ) → e.index point / 2 ^ nonzeros_in point ≡ codeword / 2 ^ nonzeros_in point → (xs : List (List ℕ))
      → Came codeword xs → SoundWith t books book (grown t books xs) p (flipped (e.index point) codeword point)
  turned_sound f lowest codeword same xs came =
      let other = flipped (product_index (size_of f) point) codeword point in
      let is = turned (size_of f) (is_field f) l k point on_shell codeword (rw lowest at same) in
      let index : e.index other ≡ codeword = ap (λ (f : Enumeration). f.index other) lowest ∙ is.1 in
      rw lowest (came_sound other is.0 xs (rw index came))

pub shown_as_sent : ShownAsSent
shown_as_sent t books book p w r q sent xs among equal =
    let a = accepts t books book p w sent.lent sent.accepted in
    let is : r ≡ record_for t book p w = sym sent.written ∙ a.leaves in
    rw sent.point at
    (came_sound t books book p w sent.lent a (point_for (row_for t p) w) (on_shell t books book p w sent.lent a) xs
    (subst (λ (u : List ℕ). Memᴰ u xs) is among, λ x m f. equal x m f ∙ is))

pub only_signs_change : OnlySignsChange
unfolding record_of
only_signs_change t books book p w r q sent lowest codeword same xs among equal =
    let a = accepts t books book p w sent.lent sent.accepted in
    let is : with_codeword r codeword ≡ with_codeword (record_for t book p w) codeword = ap (λ (u : List ℕ). with_codeword u codeword) (sym sent.written ∙ a.leaves) in
    let by = signs_lowest_lem (row_for t p) lowest in
    rw sent.point at
    (turned_sound t books book p w sent.lent a by.0 by.1 codeword (rw sent.point same) xs
    (subst (λ (u : List ℕ). Memᴰ u xs) is among, λ x m f. equal x m f ∙ is))
