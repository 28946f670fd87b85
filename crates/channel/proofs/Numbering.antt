-- Demand 2, of indices and points: the laws of the enumeration that a selector selects, by any enumeration's laws, and
-- that the calls index and point undo each other in every usable shell.
use Prim.Native.Nat.{ℕ, suc, ◌*◌, ◌^◌, ◌≤◌, ◌<◌}
use mathlib.Core.Path.{◌≡◌, refl, sym, ap, ◌∙◌}
use mathlib.Core.List.{List, [], ◌∷◌, ◌++◌}
use mathlib.Core.Bool.{true, false, false≢true}
use native.Mathlib.Nat.{sub-zero}
use lib.Dec.{eqb}
use lib.IntN.{ℤ}
use lib.ListN.{length}
use borrow.Author.Tests.{le-ltb, lt-leb, eq-eqb}
use Rattle.answers.specs.Checks.{Check, Passes}
use Rattle.answers.proofs.InOrder.{passed_says}
use Rattle.counts.specs.Counts.{D, S, B, most_nonzero, sum_after, range_size, range_start}
use Rattle.counts.specs.Fields.{bit_field, size_of, field_total}
use Rattle.counts.specs.Width.{width}
use Rattle.counts.specs.declared.Field.{Field}
use Rattle.counts.specs.declared.Field.TheVariants as field
use Rattle.counts.proofs.Fields.{is_field}
use Rattle.counts.proofs.Ranges.{range_multiple}
use Rattle.counts.proofs.Volume.{volume_from_1}
use Rattle.tables.proofs.Lost.{only_lost}
use Rattle.tables.specs.Row.{selector_of, enumeration_of}
use Rattle.tables.specs.Usable.{most_points, IsUsable}
use Rattle.enumeration.specs.Enumeration.{Enumeration}
use Rattle.enumeration.specs.Enumerations.{by_field, selected_by, selects_none}
use Rattle.enumeration.specs.Point.{OnShell, nonzeros_in, radius_of}
use Rattle.enumeration.specs.Reading.{bit}
use Rattle.enumeration.specs.Signs.{signs_lowest}
use Rattle.enumeration.proofs.Bits as bits
use Rattle.enumeration.proofs.Product.{weigh_below, weigh_names}
use Rattle.enumeration.proofs.Selected as selected
use Rattle.enumeration.proofs.Selected.{selected_lawful, selected_full, selected_total}
use Rattle.enumeration.proofs.SelectedExample.{selected_example}
use Rattle.enumeration.proofs.Values.{offsets_agree}
use Rattle.indexing.specs.Calls.{selected_checks, index_rest, index_says, point_rest, point_says, point_leaves}
use Rattle.channel.specs.Demand2.{NumbersPoints, AllNamed, InBits, Enumerations, CountsSum, BitOfCoordinate, CallsUndo}
use Rattle.channel.proofs.Refusing.{says_through, leaves_through}

pub counts_sum : CountsSum
counts_sum = volume_from_1

pub bit_of_coordinate : BitOfCoordinate
bit_of_coordinate v lowest before c after h =
    let by = selected.signs_lowest_lem v lowest in
    ap (λ (e : Enumeration). eqb (bit (nonzeros_in after) (e.index (before ++ c ∷ after))) 1) by.1
    ∙ bits.bit_of_coordinate (size_of by.0) (is_field by.0) before c after h

all_named : (v : ℕ) → v ≤ 1 → (l k : ℕ) → AllNamed v l k
all_named v h l k = let many = selected_total v h l k in record { many = many; named = λ n below. selected_full v h l k n (rw many below) }

in_bits : (l k : ℕ) → InBits l k
unfolding selected_by bit_field field_total range_start range_size B
in_bits l k = record {
  many = ap (sum_after (λ s. D s l * 2 ^ width (S s (suc k)) * 2 ^ s) 0) (sub-zero (most_nonzero l (suc k)));
  made = λ s pattern shape sign some most p h g. (
    weigh_below bit_field (is_field field.Bits) s l (suc k) pattern shape sign (λ q. some) most p h g,
    weigh_names bit_field (is_field field.Bits) s l (suc k) pattern shape sign (λ q. some) most p h g,
  );
}

pub enumerations : Enumerations
enumerations = record {
  selector_0 = selected_example.selector_0;
  selector_1 = selected_example.selector_1;
  selector_2 = selected_example.selector_2;
  all_named = all_named;
  in_bits = in_bits;
  lost = only_lost;
  one_at_0 = λ v. (selected_lawful v).one_at_0;
  ranges = λ f. range_multiple (size_of f);
  offsets = offsets_agree;
}

pub numbering : (v l k : ℕ) → NumbersPoints v l k
numbering v l k = let lawful = selected_lawful v in record {
  there = λ x on. (lawful.index_below l k x on, lawful.index_names_lem l k x on, lawful.point_of_index l k x on);
  back = λ n below named. (lawful.point_on_shell l k n below named, lawful.index_of_point l k n below named);
  none = λ n empty x on is. false≢true (sym empty ∙ ap ((selected_by v).names l k) (sym is) ∙ lawful.index_names_lem l k x on);
}

-- a row with the signs lowest in the index is numbered by pattern, shape and signs
pub signs_lowest_lem : (row : List ℕ) → signs_lowest (selector_of row) ≡ true → (f : Field) × (enumeration_of row ≡ by_field (size_of f))
unfolding enumeration_of
signs_lowest_lem row e = selected.signs_lowest_lem (selector_of row) e

-- ---- a usable shell
module _ (v l k : ℕ) (selects : selects_none v ≡ false) (usable : IsUsable l k ((selected_by v).total l k)) where
  shell_passes : Passes (selected_checks v l k)
  shell_passes = (
    selects,
    (rw (le-ltb l 1 usable.length_from, le-ltb 16 l usable.length_to) refl, (le-ltb 32 k usable.radius_to, (le-ltb most_points ((selected_by v).total l k) usable.points_to, tt))),
  )

  index_said : (x : List ℤ) → OnShell l k x → index_says v l k x ≡ 0 ∷ (selected_by v).index x ∷ []
  index_said x on =
      says_through (selected_checks v l k) (index_rest l k x) (0 ∷ (selected_by v).index x ∷ []) shell_passes
      (rw (eq-eqb (length x) l on.of_length) refl, (rw (eq-eqb (radius_of x) k on.of_radius) refl, tt))

  -- an index below the total, with a lent buffer of the right length
  module _ (n : ℕ) (out : List ℤ) (below : n < (selected_by v).total l k) (long : length out ≡ l) where
    rest : List Check
    rest = point_rest (selected_by v) l k n (length out)

    none_said : (selected_by v).names l k n ≡ false → point_says v l k n out ≡ 15 ∷ []
    unfolding rest
    none_said empty =
        sym (passed_says (selected_checks v l k) rest (0 ∷ []) shell_passes)
        ∙ rw (eq-eqb (length out) l long, lt-leb ((selected_by v).total l k) n below, empty) refl

    module _ (named : (selected_by v).names l k n ≡ true) where
      point_passes : Passes rest
      unfolding rest
      point_passes = (rw (eq-eqb (length out) l long) refl, (lt-leb ((selected_by v).total l k) n below, (rw named refl, tt)))

      point_said : point_says v l k n out ≡ 0 ∷ []
      unfolding rest
      point_said = says_through (selected_checks v l k) rest (0 ∷ []) shell_passes point_passes

      point_left_lem : point_leaves v l k n out ≡ (selected_by v).point l k n
      unfolding rest
      point_left_lem = leaves_through (selected_checks v l k) rest ((selected_by v).point l k n) out shell_passes point_passes

  pub calls_undo : CallsUndo v l k
  calls_undo = record {
    there = λ x out on long.
        let n = (selected_by v).index x in
        let its = (numbering v l k).there x on in
        (index_said x on, point_said n out its.0 long its.1, point_left_lem n out its.0 long its.1 ∙ its.2);
    back = λ n out below named long.
        let its = (numbering v l k).back n below named in (
          point_said n out below long named,
          rw (point_left_lem n out below long named)
              (index_said ((selected_by v).point l k n) its.0 ∙ ap (λ (i : ℕ). 0 ∷ i ∷ []) its.1),
        );
    none = λ n out below empty long. none_said n out below long empty;
  }
