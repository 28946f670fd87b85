-- A row is in range, field by field, exactly when it is not bad by itself; and its enumeration is lawful.
use Prim.Native.Nat.{ℕ, zero, suc, ◌≤◌, ◌<◌}
use mathlib.Core.Path.{◌≡◌, refl, sym, ◌∙◌}
use mathlib.Core.List.{List, [], ◌∷◌}
use mathlib.Core.Bool.{false, not}
use mathlib.Core.Logic.{◌↔◌}
use native.Mathlib.Omega.{arith}
use native.Mathlib.Decide.{dec_lt}
use lib.Dec.{eqb, ltb}
use borrow.Author.Tests.{ltb-false, leb-false, eqb-true, not-false, lt-ltb, le-ltb, lt-leb, eq-eqb}
use Rattle.answers.specs.Checks.{any_of, NoneOf, fails_of}
use Rattle.answers.proofs.InOrder.{none_of}
use Rattle.enumeration.proofs.Selected.{selected_lawful}
use Rattle.enumeration.specs.Enumeration.{Lawful}
use Rattle.tables.specs.Usable.{length_outside, most_points, shell_checks, IsUsable}
use Rattle.tables.proofs.Usable.{length_inside, passes_usable}
use Rattle.tables.specs.Row.{byte_of, length_of, radii_of, radius_at, step_of, places_of, selector_of, enumeration_of, radii_outside, shell_total, unusable_radius, out_of_order, bad_radius, bad_radii, tail_faults, bad_row, GoodRow}
use Rattle.tables.proofs.Faults.{unused_says, used_says, radius_at_lem}

pub is_zero : (n : ℕ) → not (eqb n 0) ≡ false → n ≡ 0
is_zero n e = eqb-true n 0 (not-false (eqb n 0) e)

-- a position that is not at fault
module _ (row : List ℕ) (n : ℕ) (e : bad_radius row n ≡ false) where
  unused : radii_of row ≤ n → radius_at row n ≡ 0
  unused h = is_zero (radius_at row n) (unused_says row n h ∙ e)

  used : n < radii_of row → NoneOf (out_of_order row n ∷ unusable_radius row (radius_at row n) ∷ [])
  unfolding bad_radius
  used h =
      let fault : any_of (out_of_order row n ∷ unusable_radius row (radius_at row n) ∷ []) ≡ false = rw (lt-ltb n (radii_of row) h) at e in
      none_of (out_of_order row n ∷ unusable_radius row (radius_at row n) ∷ []) fault

  usable : n < radii_of row → IsUsable (length_of row) (radius_at row n) (shell_total row (radius_at row n))
  usable h =
      let l = length_of row in
      let k = radius_at row n in
      passes_usable l k (shell_total row k) (none_of (fails_of (shell_checks l k (shell_total row k))) (used h).1.0)

row_in_range : (row : List ℕ) → bad_row row ≡ false → GoodRow row
unfolding bad_row
row_in_range row e =
    let l = length_of row in
    let n = radii_of row in
    let none = none_of (length_outside l ∷ radii_outside n ∷ bad_radii row 8 ∷ tail_faults row) e in
    let inside = length_inside l none.0 in
    let number = none_of (ltb n 1 ∷ ltb 8 n ∷ []) none.1.0 in
    let from : 1 ≤ n = ltb-false n 1 number.0 in
    let to : n ≤ 8 = ltb-false 8 n number.1.0 in
    let at : (i : ℕ) → i < 8 → bad_radius row i ≡ false = λ i h. radius_at_lem row i 8 h none.1.1.0 in
    record {
      length_from = inside.0;
      length_to = inside.1;
      radii_from = from;
      radii_to = to;
      first_radius = is_zero (radius_at row 0) (used row 0 (at 0 (omega arith)) from).0;
      radius_rises = λ i h. leb-false (radius_at row (suc i)) (radius_at row i) (used row (suc i) (at (suc i) (omega arith)) h).0;
      radius_usable = λ i h. usable row i (at i (omega arith)) h;
      radius_unused = λ i h g. unused row i (at i g) h;
      step_from = ltb-false (step_of row) 1 none.1.1.1.0;
      places_from = ltb-false (places_of row) 1 none.1.1.1.1.0;
      selector_to = ltb-false 2 (selector_of row) none.1.1.1.1.1.0;
      zero_15 = is_zero (byte_of row 15) none.1.1.1.1.1.1.0;
    }

-- and the other way round
module _ (row : List ℕ) (good : GoodRow row) where
  in_order : (n : ℕ) → n < radii_of row → out_of_order row n ≡ false
  in_order zero h = rw (eq-eqb (radius_at row 0) 0 good.first_radius)
  in_order (suc n) h = lt-leb (radius_at row (suc n)) (radius_at row n) (good.radius_rises n h)

  all_usable : (n : ℕ) → n < radii_of row → unusable_radius row (radius_at row n) ≡ false
  all_usable n h =
      let l = length_of row in
      let k = radius_at row n in
      let u = good.radius_usable n h in
      rw (le-ltb l 1 u.length_from, le-ltb 16 l u.length_to, le-ltb 32 k u.radius_to, le-ltb most_points (shell_total row k) u.points_to)

  position_good : (n : ℕ) → n < 8 → bad_radius row n ≡ false
  position_good n g = go (dec_lt n (radii_of row))
    where
      go : Dec (n < radii_of row) → bad_radius row n ≡ false
      go (yes h) = sym (used_says row n h (in_order n h)) ∙ all_usable n h
      go (no h) = sym (unused_says row n (omega arith)) ∙ rw (eq-eqb (radius_at row n) 0 (good.radius_unused n (omega arith) g))

  radii_good : (n : ℕ) → n ≤ 8 → bad_radii row n ≡ false
  unfolding bad_radii
  radii_good zero h = refl
  radii_good (suc n) h = rw (radii_good n (omega arith)) (position_good n h)

  row_not_bad : bad_row row ≡ false
  unfolding bad_row
  row_not_bad =
      rw (
        le-ltb (length_of row) 1 good.length_from,
        le-ltb 16 (length_of row) good.length_to,
        le-ltb (radii_of row) 1 good.radii_from,
        le-ltb 8 (radii_of row) good.radii_to,
        radii_good 8 (omega arith),
        le-ltb (step_of row) 1 good.step_from,
        le-ltb (places_of row) 1 good.places_from,
        le-ltb 2 (selector_of row) good.selector_to,
        eq-eqb (byte_of row 15) 0 good.zero_15,
      )

pub good_exactly : (row : List ℕ) → (bad_row row ≡ false) ↔ GoodRow row
good_exactly row = (row_in_range row, row_not_bad row)

-- the enumeration of a row is lawful
pub row_lawful : (row : List ℕ) → Lawful (enumeration_of row)
unfolding enumeration_of
row_lawful row = selected_lawful (selector_of row)
