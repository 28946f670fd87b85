-- What the code asks for and gives when it codes a vector at a radius above 0, and what it gives at radius 0.
use Prim.Native.Nat.{ℕ, ◌^◌, ◌<◌}
use mathlib.Core.Path.{◌≡◌, refl, sym, ap, ◌∙◌}
use mathlib.Core.List.{List}
use native.Mathlib.Omega.{arith}
use native.Mathlib.Nat.{le_trans, le_of_eq}
use lib.Ieee.{Float, nan}
use lib.IntN.{ℤ}
use lib.ListN.{length, get_or, length-map}
use Rattle.enumeration.specs.Enumeration.{Enumeration}
use Rattle.enumeration.specs.Point.{sum_of, OnShell}
use Rattle.enumeration.proofs.Laws.{zero_index}
use Rattle.floats.specs.Nearest.{nearest_whole}
use Rattle.floats.proofs.Limit.{whole_bound}
use Rattle.tables.specs.Row.{length_of, radius_at, enumeration_of, GoodRow}
use Rattle.tables.proofs.GoodRow.{row_lawful}
use Rattle.shares.specs.Shares.{AllUpTo, Sharable, shared}
use Rattle.shares.proofs.Mapped.{read_map}
use Rattle.shares.proofs.Sharing.{shared_length, shared_up_to}
use Rattle.numbering.specs.Numbered.{IsOfRow, index_in}
use Rattle.numbering.specs.declared.inner.Numbering.{Numbering}
use Rattle.numbering.proofs.OfRow.{enumeration_of_lem}
use Rattle.coefficients.specs.Coefficients.{AllUsable}
use Rattle.coefficients.specs.Points.{magnitudes_of, total_of, signed_by, point_of}
use Rattle.coefficients.specs.Radius.{chosen_radius_number}
use Rattle.coefficients.proofs.Points.{point_on_shell}
use Rattle.coefficients.proofs.Radii.{some_total}
use Rattle.coding.specs.Bounds.{Codable}
use Rattle.coding.specs.Coded.{radius_number_for, radius_for, codeword_for}

-- the magnitudes of usable coefficients
pub magnitudes_up_to : (xs : List Float) → AllUsable xs → AllUpTo (2 ^ 23) (magnitudes_of xs)
magnitudes_up_to xs usable i h =
    let below : i < length xs = omega (arith, length-map xs nearest_whole) in
    le_trans (le_of_eq (read_map nearest_whole xs i nan 0 below)) (whole_bound (get_or xs i nan) (usable i below))

module _ {m : Numbering} {total : ℕ} {xs : List Float} {magnitudes : List ℕ} (c : Codable m total xs magnitudes) where
  same_length : length magnitudes ≡ length xs
  same_length = ap length c.is_magnitudes ∙ length-map xs nearest_whole

  some_magnitude : 0 < m.radius.0 → 0 < total_of xs
  some_magnitude h = omega (arith, c.some, c.is_total)

  pub sharable : {rests : List ℕ} → length rests ≡ length xs → Sharable m.radius.0 total magnitudes rests
  sharable same = record {
    above_0 = c.above_0;
    up_to_32 = m.usable.radius_to;
    is_total = c.is_total ∙ ap sum_of (sym c.is_magnitudes);
    some = c.some;
    up_to_16 = omega (arith, same_length, c.of_length, m.usable.length_to);
    all_up_to = rw c.is_magnitudes (magnitudes_up_to xs c.all_usable);
    has_room = same ∙ sym same_length;
  }

  -- `shares` are the magnitudes of the point, and `point` is made of them
  module _ {shares : List ℕ} (is_shares : shares ≡ shared m.radius.0 magnitudes) where
    shares_are : shares ≡ shared m.radius.0 (magnitudes_of xs)
    shares_are = is_shares ∙ ap (shared m.radius.0) c.is_magnitudes

    pub signable : (held : List ℤ) → length held ≡ length xs → AllUpTo 32 shares × (length shares ≡ length xs) × (length held ≡ length xs)
    signable held same = (
      rw shares_are (λ i h. le_trans (shared_up_to m.radius.0 (magnitudes_of xs) some_magnitude i h) m.usable.radius_to),
      ap length shares_are ∙ shared_length m.radius.0 (magnitudes_of xs) ∙ length-map xs nearest_whole,
      same,
    )

    module _ {point : List ℤ} (is_Signed : point ≡ signed_by xs shares) where
      pub is_point : point ≡ point_of m.radius.0 xs
      is_point = is_Signed ∙ ap (signed_by xs) shares_are

      pub indexable : OnShell m.length.0 m.radius.0 point
      indexable =
          let on : OnShell (length xs) m.radius.0 (point_of m.radius.0 xs) = point_on_shell m.radius.0 xs some_magnitude in
          rw (is_point, ← c.of_length) on

-- the index of the point of a radius, in equal enumerations
same_index : {e e' : Enumeration} {k k' : ℕ} (xs : List Float) → e ≡ e' → k ≡ k' → e.index (point_of k xs) ≡ e'.index (point_of k' xs)
same_index xs same-enumeration same-radius = rw (same-enumeration, same-radius) refl

-- the radius number that is chosen in a row, and its numbering
module _ (xs : List Float) {row : List ℕ} {total number : ℕ} {m : Numbering} (is_total : total ≡ total_of xs) (is_number : number ≡ chosen_radius_number row total)
    (of_row : IsOfRow m row (radius_at row number)) where
  pub number_is : number ≡ radius_number_for row xs
  number_is = is_number ∙ ap (chosen_radius_number row) is_total

  radius_is : m.radius.0 ≡ radius_for row xs
  radius_is = of_row.is_radius ∙ ap (radius_at row) number_is

  pub codeword_is : index_in m (point_of m.radius.0 xs) ≡ codeword_for row xs
  codeword_is = same_index xs (enumeration_of_lem of_row) radius_is

  -- at radius 0 the point is zero, and its index 0
  pub zero_coded : m.radius.0 ≡ 0 → 0 ≡ codeword_for row xs
  zero_coded none =
      let on : OnShell (length xs) 0 (point_of 0 xs) = point_on_shell 0 xs (λ h. absurd (omega arith)) in
      let coded = same_index {e = enumeration_of row} xs refl (sym radius_is ∙ none) in
      sym (coded ∙ zero_index (row_lawful row) (length xs) (point_of 0 xs) on)

  pub codable : {magnitudes : List ℕ} → GoodRow row → AllUsable xs → length xs ≡ length_of row → (m.radius.0 ≡ 0 → ⊥) → magnitudes ≡ magnitudes_of xs
      → Codable m total xs magnitudes
  codable good usable long some is_magnitudes =
      let above : 0 < m.radius.0 = omega arith in
      record {
        above_0 = above;
        some = some_total row good total (rw (of_row.is_radius, is_number) at above);
        of_length = long ∙ sym of_row.is_length;
        all_usable = usable;
        is_total = is_total;
        is_magnitudes = is_magnitudes;
      }
