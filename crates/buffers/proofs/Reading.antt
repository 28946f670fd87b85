-- What is read from a buffer once something is written into it: the text where it stands, and beside it what was
-- there.
use Prim.Native.Nat.{ℕ, zero, suc, ◌+◌, ◌≤◌, ◌<◌}
use mathlib.Core.List.{List, [], ◌∷◌}
use mathlib.Core.Logic.{◌⊎◌, ⊎_elim}
use mathlib.Core.Path.{◌≡◌, refl, ◌∙◌}
use native.Mathlib.Nat.{add-zero}
use native.Mathlib.Omega.{arith}
use lib.ListN.{length, get_or, set, take, length-set}
use lib.Seq.{sets, take_all, get_or-set_same, get_or-set_other}
use Rattle.buffers.specs.Written.{written}

module _ {A : Type 0} where
  before_sets : (held vs : List A) (at j : ℕ) (d : A) → j < at → get_or (sets held at vs) j d ≡ get_or held j d
  before_sets held [] at j d h = refl
  before_sets held (v ∷ vs) at j d h = before_sets (set held at v) vs (suc at) j d (omega arith) ∙ get_or-set_other held at j v d (λ e. omega arith)

  behind_sets : (held vs : List A) (at j : ℕ) (d : A) → at + length vs ≤ j → get_or (sets held at vs) j d ≡ get_or held j d
  behind_sets held [] at j d h = refl
  behind_sets held (v ∷ vs) at j d h =
      behind_sets (set held at v) vs (suc at) j d (omega arith) ∙ get_or-set_other held at j v d (λ e. omega arith)

  in_sets : (held vs : List A) (at i : ℕ) (d : A) → i < length vs → at + length vs ≤ length held → get_or (sets held at vs) (at + i) d ≡ get_or vs i d
  in_sets held [] at i d h room = absurd (omega arith)
  in_sets held (v ∷ vs) at zero d h room =
      rw (add-zero at) (before_sets (set held at v) vs (suc at) at d (omega arith) ∙ get_or-set_same held at v d (omega arith))
  in_sets held (v ∷ vs) at (suc i) d h room =
      let on : at + suc i ≡ suc at + i = omega arith in
      rw on (in_sets (set held at v) vs (suc at) i d (omega arith) (rw (length-set held at v) (omega arith)))

  -- a text of n elements from `at` on
  module _ (held text : List A) (at n : ℕ) (size : length text ≡ n) (d : A) where
    whole : take n text ≡ text
    whole = take_all n text (omega arith)

    pub read_text : at + n ≤ length held → (i : ℕ) → i < n → get_or (written held at text n) (at + i) d ≡ get_or text i d
    read_text room i h = rw whole (in_sets held text at i d (omega arith) (omega arith))

    pub read_beside : (j : ℕ) → (j < at) ⊎ (at + n ≤ j) → get_or (written held at text n) j d ≡ get_or held j d
    read_beside j where_to = rw whole (⊎_elim (before_sets held text at j d) (λ h. behind_sets held text at j d (omega arith)) where_to)
