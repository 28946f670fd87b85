-- Two arrivals, in either order, on any table, with any number of books, and on any page: the page and the number of
-- refused takes are the same.
use Prim.Native.Nat.{ℕ}
use mathlib.Core.Path.{◌≡◌, refl, ap₂}
use mathlib.Core.List.{List}
use mathlib.Core.Bool.{true}
use mathlib.Core.Logic.{◌⊎◌, inl, inr}
use native.Mathlib.Omega.{arith}
use Rattle.answers.specs.Checks.{any_of, fails_of, Passes}
use Rattle.rules.specs.Taking.{page_checks, Received, arrive}
use Rattle.laws.proofs.Arrivals.{pages_two, refusals_unmoved, shut_leaves, shut_refusals}
use Rattle.laws.proofs.Pages.{ready_or_shut}

abbrev received : List ℕ → ℕ → Received
received page refused = record { page = page; refused = refused }

module _ (t : List ℕ) (books : ℕ) (s : Received) (x y : List ℕ) where
  pub arrive_two : arrive t books (arrive t books s x) y ≡ arrive t books (arrive t books s y) x
  unfolding arrive
  arrive_two = go (ready_or_shut t books s.page)
    where
      go : Passes (page_checks t books s.page) ⊎ (any_of (fails_of (page_checks t books s.page)) ≡ true) → arrive t books (arrive t books s x) y ≡ arrive t books (arrive t books s y) x
      go (inl ready) =
          ap₂ received (pages_two t books s.page ready x y)
          (rw (refusals_unmoved t books s.page ready y x, refusals_unmoved t books s.page ready x y) (omega arith))
      go (inr shut) =
          rw (shut_leaves t books s.page shut x, shut_leaves t books s.page shut y, shut_leaves t books s.page shut x, shut_refusals t books s.page shut x, shut_refusals t books s.page shut y) refl
