-- A run of bytes taken in blocks: whole records first and then the rest give what all of it gives at once, and no
-- more takes are refused than there are parts.
use Prim.Native.Nat.{ℕ, zero, suc, ◌+◌, ◌*◌, ◌/◌, ◌≤◌}
use mathlib.Core.Bool.{Bool, true, false}
use mathlib.Core.List.{List, [], ◌∷◌, ◌++◌}
use mathlib.Core.Path.{◌≡◌, refl, sym, ap, ◌∙◌}
use native.Mathlib.Nat.{add_assoc, add-zero}
use native.Mathlib.Omega.{arith}
use lib.ListN.{length, drop, length-append, length-drop}
use lib.Seq.{take-append-le, drop-append-le}
use Rattle.answers.specs.Checks.{any_of, pick, fails_of}
use Rattle.rules.specs.Taking.{take_checks, take_leaves, refusals, Received, arrive, after, parts_of, collected}
use Rattle.laws.proofs.Runs.{parts_next, parts_none, parts_count}

-- a list of no bytes
empty_list : (xs : List ℕ) → length xs ≡ 0 → xs ≡ []
empty_list [] e = refl
empty_list (x ∷ xs) e = absurd (omega arith)

pub parts_then : (n : ℕ) (xs ys : List ℕ) → length xs ≡ 8 * n → parts_of (xs ++ ys) ≡ parts_of xs ++ parts_of ys
parts_then zero xs ys e = rw (empty_list xs e, parts_none [] refl) refl
parts_then (suc n) xs ys e =
    let rest : length (drop 8 xs) ≡ 8 * n = rw (length-drop 8 xs) (omega arith) in
    parts_next (xs ++ ys) (rw (length-append xs ys) (omega arith))
    ∙ rw (
      take-append-le 8 xs ys (omega arith),
      drop-append-le 8 xs ys (omega arith),
      parts_then n (drop 8 xs) ys rest,
      parts_next xs (omega arith),
    )
    refl

-- arrivals one after the other, and how many were refused before
module _ (t : List ℕ) (books : ℕ) where
  after_then : (s : Received) (xs ys : List (List ℕ)) → after t books s (xs ++ ys) ≡ after t books (after t books s xs) ys
  unfolding after
  after_then s [] ys = refl
  after_then s (x ∷ xs) ys = after_then (arrive t books s x) xs ys

  after_more : (pg : List ℕ) (m n : ℕ) (xs : List (List ℕ)) → after t books (record { page = pg; refused = m + n }) xs
      ≡ record { page = (after t books (record { page = pg; refused = n }) xs).page; refused = m + (after t books (record { page = pg; refused = n }) xs).refused }
  unfolding after arrive
  after_more pg m n [] = refl
  after_more pg m n (x ∷ xs) =
      ap (λ (k : ℕ). after t books (record { page = take_leaves t books pg x; refused = k }) xs) (add_assoc m n (refusals t books pg x))
      ∙ after_more (take_leaves t books pg x) m (n + refusals t books pg x) xs

  -- a run in two blocks, the first of whole records
  pub collected_then : (pg xs ys : List ℕ) (n : ℕ) → length xs ≡ 8 * n → collected t books pg (xs ++ ys) ≡ record {
    page = (collected t books (collected t books pg xs).page ys).page;
    refused = (collected t books pg xs).refused + (collected t books (collected t books pg xs).page ys).refused;
  }
  collected_then pg xs ys n e =
      ap (after t books (record { page = pg; refused = 0 })) (parts_then n xs ys e)
      ∙ after_then (record { page = pg; refused = 0 }) (parts_of xs) (parts_of ys)
      ∙ ap (λ (k : ℕ). after t books (record { page = (collected t books pg xs).page; refused = k }) (parts_of ys)) (sym (add-zero (collected t books pg xs).refused))
      ∙ after_more (collected t books pg xs).page (collected t books pg xs).refused 0 (parts_of ys)

  refusals_to : (pg x : List ℕ) → refusals t books pg x ≤ 1
  unfolding refusals
  refusals_to pg x = go (any_of (fails_of (take_checks t books pg x)))
    where
      go : (b : Bool) → pick b 1 0 ≤ 1
      go true = omega arith
      go false = omega arith

  after_to : (s : Received) (xs : List (List ℕ)) → (after t books s xs).refused ≤ s.refused + length xs
  unfolding after arrive
  after_to s [] = omega arith
  after_to s (x ∷ xs) = omega (arith, after_to (arrive t books s x) xs, refusals_to s.page x)

  -- no more are refused than there are parts
  pub collected_to : (pg bytes : List ℕ) → (collected t books pg bytes).refused ≤ (length bytes + 7) / 8
  collected_to pg bytes = omega (arith, after_to (record { page = pg; refused = 0 }) (parts_of bytes), parts_count bytes)
