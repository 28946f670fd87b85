-- Records that are joined into one buffer are its parts, and there are no others.
use Prim.Native.Nat.{ℕ, zero, suc, ◌+◌, ◌<◌}
use mathlib.Core.List.Memᴰ
use mathlib.Core.List.{List, [], ◌∷◌, ◌++◌, Memᴰ}
use mathlib.Core.Logic.{⊎_elim}
use mathlib.Core.Path.{◌≡◌, refl, ap, ◌∙◌}
use native.Mathlib.Nat.{add-zero}
use native.Mathlib.Omega.{arith}
use lib.ListN.{length, length-append}
use lib.Seq.{take-append_seam, drop-append_seam}
use Rattle.buffers.specs.Joined.{joined}
use Rattle.buffers.proofs.Joining.{joined_none}
use Rattle.records.specs.Record.{record_length}
use Rattle.rules.specs.Taking.{parts_of}
use Rattle.laws.proofs.Runs.{parts_next, parts_none}

module _ (f : ℕ → List ℕ) (eight : (i : ℕ) → length (f i) ≡ record_length) where
  no_parts : (p : ℕ) → parts_of (joined f p 0) ≡ []
  no_parts p = parts_none (joined f p 0) (ap length (joined_none f p))

  first_part : (p n : ℕ) → parts_of (joined f p (suc n)) ≡ f p ∷ parts_of (joined f (suc p) n)
  unfolding joined
  first_part p n =
      let rest = joined f (suc p) n in
      parts_next (f p ++ rest) (rw (length-append (f p) rest, eight p) (omega arith))
      ∙ rw (rw (eight p) at (take-append_seam (f p) rest), rw (eight p) at (drop-append_seam (f p) rest)) refl

  -- each of them is a part
  pub is_part : (p n i : ℕ) → i < n → Memᴰ (f (p + i)) (parts_of (joined f p n))
  is_part p zero i h = absurd (omega arith)
  is_part p (suc n) zero h = rw (first_part p n, add-zero p) (Memᴰ.head refl)
  is_part p (suc n) (suc i) h =
      let on : p + suc i ≡ suc p + i = omega arith in
      rw (first_part p n, on) (Memᴰ.tail (is_part (suc p) n i (omega arith)))

  -- a part is one of them
  pub part_is : (p n : ℕ) (x : List ℕ) → Memᴰ x (parts_of (joined f p n)) → (i : ℕ) × (i < n) × (x ≡ f (p + i))
  part_is p zero x m = absurd (Memᴰ.not-nil (rw (no_parts p) at m))
  part_is p (suc n) x m =
      ⊎_elim (λ first. (0, omega arith, first ∙ ap f (zero_on p)))
      (λ later. let found = part_is (suc p) n x later in (suc found.0, omega (arith, found.1), found.2 ∙ ap f (suc_on p found.0)))
      (Memᴰ.cases_cons (rw (first_part p n) at m))
    where
      zero_on : (p : ℕ) → p ≡ p + 0
      zero_on p = omega arith

      suc_on : (p i : ℕ) → suc p + i ≡ p + suc i
      suc_on p i = omega arith
