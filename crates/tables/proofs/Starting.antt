-- Where the rows begin, written one after the other; and by that, whether a row is not the row of a place.
use Prim.Native.Nat.{ℕ, suc, ◌≤◌, ◌<◌}
use mathlib.Core.Bool.{true, not}
use mathlib.Core.List.{List}
use mathlib.Core.Path.{◌≡◌, refl, ap, ◌∙◌}
use native.Mathlib.Decide.{dec_lt, dec_le}
use native.Mathlib.Omega.{arith}
use lib.Dec.{eqb, leb}
use lib.ListN.{length, get_or, set}
use lib.Seq.{get_or-set_same, get_or-set_other}
use borrow.Author.Tests.{lt-leb, le-leb, eq-eqb, ne_eqb}
use Rattle.tables.proofs.Good.{right_size}
use Rattle.tables.proofs.Places.{row_below, row_holds, row_only}
use Rattle.tables.proofs.Walking.{none_before}
use Rattle.tables.specs.Table.{rows_of, places_before, places_in, row_of}
use Rattle.tables.specs.Way.{StartsTo, Starts}

-- row 0 begins at place 0
pub starts_first : (t starts : List ℕ) → 0 < length starts → StartsTo t 0 (set starts 0 0)
starts_first t starts some r h =
    let same : r ≡ 0 = omega arith in
    rw same (get_or-set_same starts 0 0 0 some ∙ none_before t)

-- the next row begins where n ends
pub starts_next : (t starts : List ℕ) (n v : ℕ) → suc n < length starts → StartsTo t n starts → v ≡ places_before t (suc n)
    → StartsTo t (suc n) (set starts (suc n) v)
starts_next t starts n v room before is r h = go (dec_le r n)
  where
    go : Dec (r ≤ n) → get_or (set starts (suc n) v) r 0 ≡ places_before t r
    go (yes below) = get_or-set_other starts (suc n) r v 0 (λ e. omega arith) ∙ before r below
    go (no above) =
        let same : r ≡ suc n = omega arith in
        rw same (get_or-set_same starts (suc n) v 0 room ∙ is)

-- 33 numbers have room for where each row begins, and for the end
pub start_inside : {t starts : List ℕ} → Starts t starts → (r : ℕ) → r ≤ rows_of t → r < length starts
start_inside {t} is r h = omega (arith, is.room, (right_size t is.good).rows_to)

module _ {t starts : List ℕ} (is : Starts t starts) (r p : ℕ) (inside : p < places_in t) where
  -- a row that is not in the table
  pub row_past : rows_of t ≤ r → true ≡ not (eqb r (row_of t p))
  row_past past = rw (ne_eqb r (row_of t p) (λ e. omega (arith, row_below t p inside))) refl

  -- a row that begins behind the place
  pub row_behind : r < rows_of t → p < get_or starts r 0 → true ≡ not (eqb r (row_of t p))
  row_behind in_table behind =
      let begins = is.each r (omega arith) in
      rw (ne_eqb r (row_of t p) (λ e. omega (arith, begins, ap (places_before t) e, (row_holds t p inside).from))) refl

  -- one that does not
  module _ (in_table : r < rows_of t) (from : get_or starts r 0 ≤ p) where
    pub row_or_before : leb (get_or starts (suc r) 0) p ≡ not (eqb r (row_of t p))
    row_or_before =
        let begins = is.each r (omega arith) in
        let ends = is.each (suc r) in_table in
        rw ends (go (dec_lt p (places_before t (suc r))) (rw begins at from))
      where
        go : Dec (p < places_before t (suc r)) → places_before t r ≤ p → leb (places_before t (suc r)) p ≡ not (eqb r (row_of t p))
        go (yes to) from' =
            rw (lt-leb (places_before t (suc r)) p to, eq-eqb r (row_of t p) (row_only t p r inside (record { from = from'; to = to }))) refl
        go (no past) from' =
            rw (
              le-leb (places_before t (suc r)) p (omega arith),
              ne_eqb r (row_of t p) (λ e. omega (arith, ap (λ (n : ℕ). places_before t (suc n)) e, (row_holds t p inside).to)),
            )
            refl
