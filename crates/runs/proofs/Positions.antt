-- Where the coordinates of each place stand in a run.
use Prim.Native.Nat.{ℕ, zero, suc, ◌+◌, ◌-◌, ◌*◌, ◌≤◌, ◌<◌}
use mathlib.Core.List.{List}
use mathlib.Core.Path.{◌≡◌, refl}
use native.Mathlib.Nat.{add-zero, zero-mul}
use native.Mathlib.Omega.{arith}
use lib.Ieee.{Float}
use lib.ListN.{length, drop, length-drop}
use lib.Seq.{length-take-le}
use Rattle.tables.proofs.Good.{good_place, places_to}
use Rattle.tables.proofs.Places.{place_in}
use Rattle.tables.proofs.Rows.{total_next}
use Rattle.tables.specs.Row.{length_of, places_of}
use Rattle.tables.specs.Table.{rows_of, row_at, places_before, places_in, length_for, Good}
use Rattle.runs.specs.Run.{coordinates_before, coordinates_in, vector_for}

module _ (t : List ℕ) where
  pub none_before : coordinates_before t 0 ≡ 0
  unfolding coordinates_before
  none_before = refl

  pub before_next : (p : ℕ) → coordinates_before t (suc p) ≡ coordinates_before t p + length_for t p
  unfolding coordinates_before
  before_next p = refl

  -- more places have more coordinates
  pub before_grows : (p n : ℕ) → coordinates_before t p ≤ coordinates_before t (p + n)
  before_grows p zero = rw (add-zero p) (omega arith)
  before_grows p (suc n) =
      let on : p + suc n ≡ suc (p + n) = omega arith in
      rw on (omega (arith, before_grows p n, before_next (p + n)))

  -- the coordinates of place p end within those of all places
  pub ends_within : (p : ℕ) → p < places_in t → coordinates_before t p + length_for t p ≤ coordinates_in t
  ends_within p h = go (places_in t) h
    where
      go : (n : ℕ) → p < n → coordinates_before t p + length_for t p ≤ coordinates_before t n
      go zero below = absurd (omega arith)
      go (suc n) below =
          let e : suc n ≡ suc p + (n - p) = omega arith in
          rw e (omega (arith, before_grows (suc p) (n - p), before_next p))

  -- in a good table at most 16 for each place, so at most 65,536 in all
  pub before_to : Good t → (p : ℕ) → p ≤ places_in t → coordinates_before t p ≤ 65536
  before_to good p h = omega (arith, go p h, places_to t good)
    where
      go : (n : ℕ) → n ≤ places_in t → coordinates_before t n ≤ 16 * n
      go zero to = omega (arith, none_before)
      go (suc n) to = omega (arith, go n (omega arith), before_next n, (good_place t n good to).1.length_to)

  -- so the vector of a place has its length, in a run as long as all of them
  pub vector_length : (run : List Float) → length run ≡ coordinates_in t → (p : ℕ) → p < places_in t → length (vector_for t run p) ≡ length_for t p
  vector_length run long p h =
      length-take-le (length_for t p) (drop (coordinates_before t p) run)
      (rw (length-drop (coordinates_before t p) run) (omega (arith, ends_within p h)))

  -- the places of a row have as many coordinates as its length times its places
  pub row_coordinates : (r : ℕ) → r < rows_of t
      → coordinates_before t (places_before t (suc r)) ≡ coordinates_before t (places_before t r) + places_of (row_at t r) * length_of (row_at t r)
  row_coordinates r h = rw (total_next t r) (go (places_of (row_at t r)) (omega arith))
    where
      go : (n : ℕ) → n ≤ places_of (row_at t r) → coordinates_before t (places_before t r + n) ≡ coordinates_before t (places_before t r) + n * length_of (row_at t r)
      go zero to = rw (add-zero (places_before t r), zero-mul (length_of (row_at t r)), add-zero (coordinates_before t (places_before t r))) refl
      go (suc n) to =
          let on : places_before t r + suc n ≡ suc (places_before t r + n) = omega arith in
          let its = (place_in t r n h (omega arith)).1 in
          rw (on, before_next (places_before t r + n), go n (omega arith), its) (omega arith)
