-- The whole case, computed; and the theorems applied to it.
use Prim.Native.Nat.{ℕ, zero, suc, ◌<◌}
use mathlib.Core.Path.{◌≡◌, refl, sym, ap, ◌∙◌}
use mathlib.Core.List.Memᴰ
use mathlib.Core.List.{List, [], ◌∷◌}
use mathlib.Core.Bool.{Bool, true, false, not, ◌&&◌, ◌||◌, false≢true}
use mathlib.Core.Logic.{inl, inr, ⊎_elim}
use lib.Ieee.{to_bits, round, lt}
use lib.Dec.{lit<}
use lib.ListN.{replicate}
use native.Mathlib.Omega.{arith}
use Rattle.counts.specs.Counts.{N, binomial, D, S, B, sum_after, range_size, range_start}
use Rattle.counts.specs.Fields.{field_total}
use Rattle.counts.specs.Distance.{distance}
use Rattle.counts.specs.Width.{width, bits_from}
use Rattle.enumeration.specs.Product.{pattern_index, shape_offset, shape_index, sign_index, index_from, product_index}
use Rattle.enumeration.specs.Among.{first_among, left_among}
use Rattle.enumeration.specs.Reading.{range_from, range_of, pattern_of, shape_of, signs_of, point_from, point_within, product_point, names_within, product_names}
use Rattle.floats.specs.Exact.{over256}
use Rattle.floats.specs.Nearest.{nearest_whole}
use Rattle.floats.specs.Units.{of_pattern, units_of, unusable_coefficient, negative}
use Rattle.tables.specs.Example.{whole_case}
use Rattle.enumeration.specs.Enumerations.{selected_by}
use Rattle.tables.specs.Row.{byte_of, enumeration_of, bad_radius, bad_radii, bad_row}
use Rattle.tables.specs.Table.{row_at, places_before, rows_before}
use Rattle.shares.specs.Best.{first_best}
use Rattle.shares.specs.Shares.{largest, give, shared}
use Rattle.records.specs.Record.{record_of, same_bytes}
use Rattle.records.proofs.Same.{bytes_same}
use Rattle.coefficients.specs.Example.{vector}
use Rattle.coefficients.specs.Radius.{chosen_radius_number}
use Rattle.layout.specs.Layout.{state_from, record_from, stored}
use Rattle.rules.specs.Example.{of, first, other}
use Rattle.rules.specs.Taking.{claims, bad_cell, take_cell, arrive, after, grown, AllEqual}
use Rattle.rules.specs.Judging.{judge_codeword, judge_record, judge}
use Rattle.channel.specs.Demand3.{SoundWith, Bytes, PageSent}
use Rattle.channel.specs.Witness.{sent, turned, arrivals, Witness}
use Rattle.channel.proofs.Sent.{shown_as_sent, only_signs_change}

-- a test of a whole list: what claims p in the one book has the bytes of r
only_claims : List ℕ → ℕ → List ℕ → List (List ℕ) → Bool
only_claims t p r [] = true
only_claims t p r (x ∷ xs) = (not (claims t 1 x 0 p) || same_bytes x r) && only_claims t p r xs

each_equal : (t : List ℕ) (p : ℕ) (r : List ℕ) (xs : List (List ℕ)) → only_claims t p r xs ≡ true → AllEqual t 1 xs 0 p r
unfolding only_claims
each_equal t p r [] e x m f = absurd (Memᴰ.not-nil m)
each_equal t p r (y ∷ ys) e x m f = ⊎_elim (λ same. same ∙ here (claims t 1 y 0 p) (same_bytes y r) refl refl e (sym (ap (λ (u : List ℕ). claims t 1 u 0 p) same) ∙ f)) (λ n. each_equal t p r ys (rest (not (claims t 1 y 0 p) || same_bytes y r) e) x n f) (Memᴰ.cases_cons m)
  where
    rest : (b : Bool) → b && only_claims t p r ys ≡ true → only_claims t p r ys ≡ true
    rest true h = h
    rest false h = absurd (false≢true h)

    here : (a b : Bool) → claims t 1 y 0 p ≡ a → same_bytes y r ≡ b → (not a || b) && only_claims t p r ys ≡ true → claims t 1 y 0 p ≡ true → y ≡ r
    here a true ea eb h g = bytes_same y r eb
    here true false ea eb h g = absurd (false≢true h)
    here false false ea eb h g = absurd (false≢true (sym ea ∙ g))

each_byte : (n : ℕ) → n < 256 → Bytes (n ∷ [])
each_byte n h zero = h
each_byte n h (suc i) = lit< tt

-- both places of the table
each_sent : PageSent whole_case 1 (λ b p. vector) (λ b p. of p 0 1 5) (λ b p. sent)
unfolding to_bits lt N binomial D S B sum_after range_size range_start field_total pattern_index shape_offset shape_index sign_index index_from product_index nearest_whole of_pattern units_of unusable_coefficient negative byte_of selected_by enumeration_of bad_radius bad_radii bad_row row_at places_before rows_before first_best largest give shared record_of chosen_radius_number
each_sent zero zero k h = record { lent = replicate 8 9; accepted = refl; written = refl; point = refl }
each_sent zero (suc zero) k h = record { lent = replicate 8 9; accepted = refl; written = refl; point = refl }
each_sent zero (suc (suc p)) k h = absurd (omega arith)
each_sent (suc b) p k h = absurd (omega arith)

pub witness : Witness
unfolding only_claims claims to_bits round lt N binomial D S B sum_after range_size range_start field_total distance width bits_from pattern_index shape_offset shape_index sign_index index_from product_index range_from range_of pattern_of first_among left_among shape_of signs_of point_from point_within product_point names_within product_names over256 nearest_whole of_pattern units_of unusable_coefficient negative byte_of selected_by enumeration_of bad_radius bad_radii bad_row row_at places_before rows_before first_best largest give shared record_of chosen_radius_number state_from record_from stored bad_cell take_cell arrive after judge_codeword judge_record judge
witness = record {
  is_sent = record { lent = replicate 8 9; accepted = refl; written = refl; point = refl };
  is_read = record {
    among = Memᴰ.tail (Memᴰ.tail (Memᴰ.head refl));
    equal = each_equal whole_case 0 first (arrivals first) refl;
    says = refl;
    says_plain = refl;
    leaves = refl;
    leaves_plain = refl;
  };
  its_value = refl;
  low_bits = refl;
  signs_are_lowest = refl;
  is_changed = refl;
  is_turned = refl;
  turned_read = record {
    among = Memᴰ.tail (Memᴰ.tail (Memᴰ.head refl));
    equal = each_equal whole_case 0 other (arrivals other) refl;
    says = refl;
    says_plain = refl;
    leaves = refl;
    leaves_plain = refl;
  };
  shows_sound = inl refl;
  shows_plain = inl refl;
  shows_mended = inr (0, refl);
  any_byte = each_byte;
  page_sent = each_sent;
}

pub sound_here : SoundWith whole_case 1 0 (grown whole_case 1 (arrivals first)) 0 sent
sound_here = shown_as_sent whole_case 1 0 0 vector first sent witness.is_sent (arrivals first) witness.is_read.among witness.is_read.equal

pub turned_here : SoundWith whole_case 1 0 (grown whole_case 1 (arrivals other)) 0 turned
turned_here =
    rw witness.is_turned at
    (only_signs_change whole_case 1 0 0 vector first sent witness.is_sent witness.signs_are_lowest 7 witness.low_bits (arrivals other) witness.turned_read.among
    witness.turned_read.equal)
