-- What the tally says with books, a table, a book and a page that passed, place by place: the answers so far are
-- counted, and the checks that are left decide.
use Prim.Native.Nat.{ℕ, ◌+◌, ◌-◌, ◌≤◌, ◌<◌}
use mathlib.Core.Bool.{Bool, true, false}
use mathlib.Core.List.{List, [], ◌∷◌}
use mathlib.Core.Path.{◌≡◌, refl, sym, ap, ◌∙◌}
use native.Mathlib.Nat.{sub-zero}
use native.Mathlib.Numerals.{add-one}
use native.Mathlib.Omega.{arith}
use lib.ListN.{get_or, set}
use Rattle.answers.proofs.Each.{each_refused, each_passed, none_left}
use Rattle.answers.specs.Checks.{first_of, each_from}
use Rattle.tables.proofs.Good.{places_to}
use Rattle.tables.proofs.Walking.{its_row, walks_here, walks_on, placed_in, first_place}
use Rattle.tables.specs.Table.{places_in, row_of, row_at}
use Rattle.tables.specs.Way.{Placed, Walked, AtRow}
use Rattle.records.specs.declared.inner.Named.{Named}
use Rattle.layout.specs.declared.Layout.{Layout}
use Rattle.cells.specs.Spots.{Locatable, IsSpot, SpotIn, cell_there, bad_there}
use Rattle.cells.specs.declared.inner.spot.Spot.{Spot}
use Rattle.laws.proofs.Counts.{five_answers, counts_next, counts_to}
use Rattle.laws.proofs.Layouts.{as_sized}
use Rattle.laws.proofs.Pages.{page_books, page_good, page_size}
use Rattle.rules.specs.Judging.{judge, judge_at, answer_number}
use Rattle.rules.specs.Layouts.{as_cells}
use Rattle.rules.specs.Taking.{cell_for, bad_at, cell_check_at}
use Rattle.rules.specs.Tallying.{count_of, counts_of, answer_at, tally_of, tally_rest}
use Rattle.rules.specs.declared.Judged.{Judged}
use Rattle.places.proofs.Opening.{locatable, spot_in, cell_there_lem, bad_there_lem}
use Rattle.page.specs.Bounds.{Ready}

-- n places of the book are counted in this mode, on the way through the rows
pub record Tallying (mode : ℕ) (t pg : List ℕ) (book row end n : ℕ) (counts : List ℕ) : Type 0 where
  pub to : n ≤ places_in t
  pub on : Walked t row end n
  pub counted : counts ≡ counts_of (answer_at mode t pg book) n
  pub left : first_of (each_from (cell_check_at t pg book) n (places_in t - n)) (0 ∷ tally_of mode t pg book)
      ≡ first_of (tally_rest t pg book) (0 ∷ tally_of mode t pg book)

-- the way begins at place 0
pub place_0 : {t : List ℕ} {books : ℕ} {pg : List ℕ} {places row : ℕ} → Ready t books pg places → row ≡ row_of t 0 → Placed t 0 row
place_0 {t} {books} {pg} ready is_row = let good = page_good t books pg ready.passes in placed_in good (first_place t good) is_row

-- pg is the page cell by cell
module _ (layout : Layout) {t : List ℕ} {books : ℕ} (page : List ℕ) {places : ℕ} (ready : Ready t books (as_cells layout t books page) places) where
  abbrev pg : List ℕ
  pg = as_cells layout t books page

  module _ {mode book : ℕ} (in_books : book < books) where
    pub begins : {row end : ℕ} → AtRow t row end 0 → Tallying mode t pg book row end 0 (0 ∷ 0 ∷ 0 ∷ 0 ∷ 0 ∷ [])
    unfolding count_of
    begins at_row = record { to = omega arith; on = walks_here at_row; counted = refl; left = rw (sub-zero (places_in t)) refl }

    module _ {row end n : ℕ} {counts : List ℕ} (so_far : Tallying mode t pg book row end n counts) where
      -- every place is counted
      pub ends : places ≤ n → 0 ∷ get_or counts 0 0 ∷ get_or counts 1 0 ∷ get_or counts 2 0 ∷ get_or counts 3 0 ∷ get_or counts 4 0 ∷ []
          ≡ first_of (tally_rest t pg book) (0 ∷ tally_of mode t pg book)
      ends past =
          let all : n ≡ places_in t = omega (arith, ready.is_places, so_far.to) in
          rw (so_far.counted, all) refl ∙ sym (none_left (cell_check_at t pg book) (0 ∷ tally_of mode t pg book) n (places_in t) (omega arith)) ∙ so_far.left

      module _ (h : n < places) where
        pub inside : n < places_in t
        inside = omega (arith, ready.is_places)

        -- the number of a place, and a count, stay small
        pub place_fits : n + 1 ≤ 4096
        place_fits = omega (arith, inside, places_to t (page_good t books pg ready.passes))

        pub count_fits : (a : ℕ) → get_or counts a 0 ≤ 4096
        count_fits a = rw so_far.counted (omega (arith, counts_to (answer_at mode t pg book) n a, place_fits))

        module _ {row' end' : ℕ} (at_row : AtRow t row' end' n) where
          abbrev named : Named
          named = record { book = book; place = n; row = row' }

          pub its_spot : Locatable places books named
          its_spot = locatable t books (page_books t books pg ready.passes) ready.is_places named in_books inside

          module _ {spot : Spot} (located : IsSpot layout places books named spot) where
            pub its_cell : SpotIn page spot
            its_cell =
                spot_in t books (page_books t books pg ready.passes) ready.is_places named in_books inside located page
                (as_sized layout t books page (page_size t books pg ready.passes))

            its_bytes : cell_there page spot ≡ cell_for t pg book n
            its_bytes = cell_there_lem t books (page_books t books pg ready.passes) ready.is_places named in_books inside located page

            found_is : {b : Bool} → bad_there page spot ≡ b → bad_at t pg book n ≡ b
            found_is = bad_there_lem t books (page_books t books pg ready.passes) ready.is_places named in_books inside located at_row page

            pub tally_12 : bad_there page spot ≡ true → 12 ∷ n ∷ [] ≡ first_of (tally_rest t pg book) (0 ∷ tally_of mode t pg book)
            tally_12 bad = sym (each_refused (cell_check_at t pg book) (0 ∷ tally_of mode t pg book) n (places_in t) inside (found_is bad)) ∙ so_far.left

            module _ (fine : bad_there page spot ≡ false) {j : Judged}
                (judged : j ≡ judge mode (row_at t row') (cell_there page spot)) {a : ℕ} (is_number : a ≡ answer_number j) where
              answer_is : answer_at mode t pg book n ≡ a
              answer_is =
                  let same : j ≡ judge_at mode t pg book n =
                  judged ∙ ap (judge mode (row_at t row')) its_bytes ∙ ap (λ (r : ℕ). judge mode (row_at t r) (cell_for t pg book n)) (its_row at_row inside) in
                  sym (is_number ∙ ap answer_number same)

              pub counts_on : Tallying mode t pg book row' end' (n + 1) (set counts a (get_or counts a 0 + 1))
              counts_on = record {
                to = omega (arith, inside);
                on = walks_on at_row;
                counted =
                    rw (add-one n, add-one (get_or counts a 0), so_far.counted)
                    (counts_next (answer_at mode t pg book) n a answer_is (rw is_number (five_answers j)));
                left =
                    rw (add-one n)
                    (sym (each_passed (cell_check_at t pg book) (0 ∷ tally_of mode t pg book) n (places_in t) inside (found_is fine)) ∙ so_far.left);
              }
