-- A page that grew from an empty one: no arrival changes whether a cell is refused, so refusal 12 is never given
-- there; and no take of a record that claims a place is refused.
use Prim.Native.Nat.{ℕ, ◌<◌}
use mathlib.Core.Path.{◌≡◌, refl, ap, ◌∙◌}
use mathlib.Core.List.{List, [], ◌∷◌, Memᴰ}
use mathlib.Core.Bool.{false}
use native.Mathlib.Nat.{add-zero}
use Rattle.answers.specs.Checks.{Passes}
use Rattle.tables.specs.BookNumbers.{GoodBooks}
use Rattle.tables.specs.Table.{places_in, row_of}
use Rattle.records.specs.Record.{book_in, place_in}
use Rattle.layout.proofs.Cells.{empty_size, empty_cell_lem}
use Rattle.layout.specs.Layout.{cells_of}
use Rattle.layout.specs.declared.Layout.TheVariants as layouts
use Rattle.rules.specs.Taking.{cell_number, bad_cell, bad_at, page_checks, refusals, Received, arrive, after, new_page, empty, grown}
use Rattle.laws.proofs.Arrivals.{ready_after, bad_unmoved}
use Rattle.laws.proofs.CellAfter.{after_ready}
use Rattle.laws.proofs.Claims.{ClaimsOwn, cell_in_lem, claimed_refusals}
use Rattle.laws.proofs.Pages.{page_passes}

pub bad_after : (t : List ℕ) (books : ℕ) (s : Received) (xs : List (List ℕ)) → Passes (page_checks t books s.page) → (book p : ℕ)
    → book < books → p < places_in t → bad_at t (after t books s xs).page book p ≡ bad_at t s.page book p
unfolding after arrive
bad_after t books s [] ready book p k h = refl
bad_after t books s (x ∷ xs) ready book p k h =
    bad_after t books (arrive t books s x) xs (ready_after t books s.page ready x) book p k h ∙ bad_unmoved t books s.page ready x book p k h

-- where no cell is refused, no take of a record that claims a place is
claimed_after : (t : List ℕ) (books : ℕ) (s : Received) (xs : List (List ℕ)) → Passes (page_checks t books s.page)
    → ((book p : ℕ) → book < books → p < places_in t → bad_at t s.page book p ≡ false) → ((x : List ℕ) → Memᴰ x xs → ClaimsOwn t books x)
    → (after t books s xs).refused ≡ s.refused
unfolding after arrive
claimed_after t books s [] ready whole claiming = refl
claimed_after t books s (x ∷ xs) ready whole claiming =
    let own = claiming x (Memᴰ.head refl) in
    let none : refusals t books s.page x ≡ 0 = claimed_refusals t books s.page ready x own ∙ rw (whole (book_in x) (place_in x) own.in_books own.inside) refl in
    claimed_after t books (arrive t books s x) xs (ready_after t books s.page ready x)
    (λ book p k h. bad_unmoved t books s.page ready x book p k h ∙ whole book p k h)
    (λ y m. claiming y (Memᴰ.tail m))
    ∙ rw none (add-zero s.refused)

module _ (t : List ℕ) (books : ℕ) (good : GoodBooks t books) where
  pub empty_ready : Passes (page_checks t books (new_page t books))
  empty_ready = page_passes t books (new_page t books) good (empty_size (cells_of (places_in t) books))

  pub grown_ready : (xs : List (List ℕ)) → Passes (page_checks t books (grown t books xs))
  grown_ready xs = after_ready t books (empty t books) xs empty_ready

  empty_not_bad : (book p : ℕ) → book < books → p < places_in t → bad_at t (new_page t books) book p ≡ false
  unfolding bad_cell
  empty_not_bad book p k h = ap (bad_cell book p (row_of t p)) (empty_cell_lem layouts.CellByCell (cells_of (places_in t) books) (cell_number t book p) (cell_in_lem t books book p k h))

  pub grown_not_bad : (xs : List (List ℕ)) (book p : ℕ) → book < books → p < places_in t → bad_at t (grown t books xs) book p ≡ false
  grown_not_bad xs book p k h = bad_after t books (empty t books) xs empty_ready book p k h ∙ empty_not_bad book p k h

  -- it takes every record that claims a place
  pub grown_takes_all : (xs : List (List ℕ)) → ((x : List ℕ) → Memᴰ x xs → ClaimsOwn t books x) → (after t books (empty t books) xs).refused ≡ 0
  grown_takes_all xs claiming = claimed_after t books (empty t books) xs empty_ready empty_not_bad claiming
