-- A run of bytes, part by part: eight bytes are taken, and what is left is a run again. Where every take is
-- refused, as many are refused as there are parts, and the page is as it was.
use Prim.Native.Nat.{ℕ, zero, suc, ◌+◌, ◌-◌, ◌/◌, ◌<◌}
use mathlib.Core.Path.{◌≡◌, refl, sym, ap, ap₂, ◌∙◌}
use mathlib.Core.List.{List, [], ◌∷◌}
use mathlib.Core.Bool.{true}
use native.Mathlib.Omega.{arith}
use native.Mathlib.Nat.{add-zero}
use lib.ListN.{length, take, drop, length-drop}
use Rattle.answers.specs.Checks.{any_of, fails_of}
use Rattle.rules.specs.Taking.{page_checks, Received, arrive, after, parts_from, parts_of}
use Rattle.laws.proofs.Arrivals.{shut_leaves, shut_refusals}

pub parts_next : (bytes : List ℕ) → 0 < length bytes → parts_of bytes ≡ take 8 bytes ∷ parts_of (drop 8 bytes)
unfolding parts_from
parts_next bytes h = ap (λ (n : ℕ). parts_from n bytes) (one_more_lem (length bytes) h) ∙ rw (length-drop 8 bytes) refl
  where
    one_more_lem : (n : ℕ) → 0 < n → (n + 7) / 8 ≡ suc ((n - 8 + 7) / 8)
    one_more_lem n h = omega arith

pub parts_none : (bytes : List ℕ) → length bytes ≡ 0 → parts_of bytes ≡ []
unfolding parts_from
parts_none bytes e = rw e refl

pub parts_count : (bytes : List ℕ) → length (parts_of bytes) ≡ (length bytes + 7) / 8
unfolding parts_from
parts_count bytes = go ((length bytes + 7) / 8) bytes
  where
    go : (n : ℕ) (bs : List ℕ) → length (parts_from n bs) ≡ n
    go zero bs = refl
    go (suc n) bs = ap suc (go n (drop 8 bs))

-- every take is refused
abbrev refused_only : Received → ℕ → Received
refused_only s n = record { page = s.page; refused = s.refused + n }

pub shut_after : (t : List ℕ) (books : ℕ) (s : Received) (xs : List (List ℕ)) → any_of (fails_of (page_checks t books s.page)) ≡ true
    → after t books s xs ≡ refused_only s (length xs)
unfolding after arrive
shut_after t books s [] shut = ap (λ (n : ℕ). record { page = s.page; refused = n }) (sym (add-zero s.refused))
shut_after t books s (x ∷ xs) shut =
    ap (λ (u : Received). after t books u xs) (ap₂ (λ (page : List ℕ) (n : ℕ). record { page = page; refused = s.refused + n }) (shut_leaves t books s.page shut x) (shut_refusals t books s.page shut x))
    ∙ shut_after t books (refused_only s 1) xs shut
    ∙ ap (λ (n : ℕ). record { page = s.page; refused = n }) (one_more_lem s.refused (length xs))
  where
    one_more_lem : (m n : ℕ) → m + 1 + n ≡ m + suc n
    one_more_lem m n = omega arith
