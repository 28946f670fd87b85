-- The checks of all coefficients of a run, place by place: all have number 11; while the places before pass, what is
-- left decides; where all pass, every coefficient is usable; and where every coefficient is usable, all pass.
use Prim.Native.Nat.{ℕ, zero, suc, ◌+◌, ◌-◌, ◌≤◌, ◌<◌}
use mathlib.Core.Bool.{false}
use mathlib.Core.List.{List, [], ◌∷◌}
use mathlib.Core.Path.{◌≡◌, refl, sym, ap, ◌∙◌}
use native.Mathlib.Nat.{sub-zero, zero-add, add-zero}
use native.Mathlib.Numerals.{add-one}
use native.Mathlib.Omega.{arith}
use lib.Dec.{lit<}
use lib.Ieee.{Float, nan}
use lib.ListN.{length, get_or, drop}
use lib.Seq.{get_or-take, get_or-drop}
use Rattle.answers.proofs.Each.{first_refused, none_refused, each_passes, passes_each, each_numbered}
use Rattle.answers.proofs.InOrder.{Numbered, numbered_then, passes_apart, passes_then, passes_says, says_passes, says_then}
use Rattle.answers.proofs.OneNumber.{OfNumber, each_of, of_then}
use Rattle.answers.specs.Checks.{Check, first_of, Passes}
use Rattle.buffers.proofs.Joining.{joined_none, joined_left, joined_keeps}
use Rattle.buffers.specs.Joined.{joined}
use Rattle.coefficients.proofs.Usable.{none_usable}
use Rattle.coefficients.specs.Coefficients.{FirstAtFault, some_unusable, AllUsable}
use Rattle.floats.specs.Units.{unusable_coefficient}
use Rattle.tables.specs.Table.{places_in, length_for}
use Rattle.runs.specs.Run.{coordinates_before, coordinates_in, vector_for}
use Rattle.runs.specs.Sending.{usable_check_at, usable_checks_at, run_checks}
use Rattle.runs.proofs.Positions.{ends_within, vector_length}

-- ---- checks that are joined
-- all pass: then those of each number do
pub joined_passes : (f : ℕ → List Check) (p n i : ℕ) → Passes (joined f p n) → i < n → Passes (f (p + i))
unfolding joined
joined_passes f p zero i passes h = absurd (omega arith)
joined_passes f p (suc n) zero passes h = rw (add-zero p) (passes_apart (f p) (joined f (suc p) n) passes).0
joined_passes f p (suc n) (suc i) passes h =
    let on : suc p + i ≡ p + suc i = omega arith in
    rw on at (joined_passes f (suc p) n i (passes_apart (f p) (joined f (suc p) n) passes).1 (omega arith))

-- and the other way round
passes_joined : (f : ℕ → List Check) (p n : ℕ) → ((i : ℕ) → p ≤ i → i < p + n → Passes (f i)) → Passes (joined f p n)
unfolding joined
passes_joined f p zero each = tt
passes_joined f p (suc n) each =
    passes_then (f p) (joined f (suc p) n) (each p (omega arith) (omega arith)) (passes_joined f (suc p) n (λ i from to. each i (omega arith) (omega arith)))

-- ---- the checks of a run
module _ (t : List ℕ) (run : List Float) where
  -- those of the places from p on decide
  abbrev pub Left : ℕ → Type 0
  Left p = first_of (joined (usable_checks_at t run) p (places_in t - p)) (0 ∷ []) ≡ first_of (run_checks t run) (0 ∷ [])

  pub all_left : Left 0
  all_left = rw (sub-zero (places_in t)) refl

  pub none_left : {p : ℕ} → places_in t ≤ p → Left p → 0 ∷ [] ≡ first_of (run_checks t run) (0 ∷ [])
  none_left {p} past left =
      let none : places_in t - p ≡ 0 = omega arith in
      rw (none, joined_none (usable_checks_at t run) p) at left

  pub run_numbered : Numbered (run_checks t run)
  run_numbered =
      joined_keeps (usable_checks_at t run) Numbered tt numbered_then (λ p. each_numbered (usable_check_at t run p) 0 (length_for t p) (λ i. lit< tt)) 0 (places_in t)

  pub run_of_11 : OfNumber 11 (run_checks t run)
  run_of_11 =
      joined_keeps (usable_checks_at t run) (OfNumber 11) tt (of_then 11) (λ p. each_of (usable_check_at t run p) 11 0 (length_for t p) (λ i. refl)) 0 (places_in t)

  -- none is refused
  pub says_run : 0 ∷ [] ≡ first_of (run_checks t run) (0 ∷ []) → Passes (run_checks t run)
  says_run said = says_passes [] [] (run_checks t run) run_numbered (sym said)

  module _ (run_long : length run ≡ coordinates_in t) where
    pub run_usable : Passes (run_checks t run) → (p : ℕ) → p < places_in t → AllUsable (vector_for t run p)
    run_usable passes p h i below =
        each_passes (usable_check_at t run p) 0 (length_for t p) i
        (rw (zero-add p) at (joined_passes (usable_checks_at t run) 0 (places_in t) p passes h)) (omega arith)
        (omega (arith, vector_length t run run_long p h))

    -- no coefficient of the run is unusable, so none is refused
    pub usable_says : some_unusable run (length run) ≡ false → 0 ∷ [] ≡ first_of (run_checks t run) (0 ∷ [])
    usable_says none = sym (passes_says (0 ∷ []) (run_checks t run) (passes_joined (usable_checks_at t run) 0 (places_in t) (λ p from to. at_place p (omega arith))))
      where
        one : (p i : ℕ) → p < places_in t → i < length_for t p → (usable_check_at t run p i).fails ≡ false
        one p i h below =
            let start = coordinates_before t p in
            let here : get_or (vector_for t run p) i nan ≡ get_or run (start + i) nan = get_or-take (length_for t p) (drop start run) i nan below ∙ get_or-drop start run i nan in
            ap unusable_coefficient here ∙ none_usable run (length run) (start + i) none (omega (arith, ends_within t p h))

        at_place : (p : ℕ) → p < places_in t → Passes (usable_checks_at t run p)
        at_place p h = passes_each (usable_check_at t run p) 0 (length_for t p) (λ i from to. one p i h (omega arith))

    -- place p, whose vector is v, with n its first coordinate at fault, or its length
    module _ {p n : ℕ} {v : List Float} (h : p < places_in t) (its_vector : v ≡ vector_for t run p) (first : FirstAtFault v n) (left : Left p) where
      found : FirstAtFault (vector_for t run p) n
      found = rw its_vector at first

      -- what is left are its checks, and those of the places after it
      after : List Check
      after = joined (usable_checks_at t run) (suc p) (places_in t - suc p)

      in_turn : first_of (usable_checks_at t run p) (first_of after (0 ∷ [])) ≡ first_of (run_checks t run) (0 ∷ [])
      unfolding after
      in_turn =
          sym (ap (λ (cs : List Check). first_of cs (0 ∷ [])) (joined_left (usable_checks_at t run) p (places_in t) h) ∙ says_then (usable_checks_at t run p) after (0 ∷ []))
          ∙ left

      pub place_11 : n < length_for t p → 11 ∷ p ∷ n ∷ [] ≡ first_of (run_checks t run) (0 ∷ [])
      place_11 below =
          sym (first_refused (usable_check_at t run p) (first_of after (0 ∷ [])) n (length_for t p) below found.before
          (found.here (omega (arith, vector_length t run run_long p h))))
          ∙ in_turn

      pub place_passes : length_for t p ≤ n → Left (p + 1)
      unfolding after
      place_passes all =
          rw (add-one p)
          (sym (none_refused (usable_check_at t run p) (first_of after (0 ∷ [])) (length_for t p) (λ i below. found.before i (omega arith))) ∙ in_turn)
