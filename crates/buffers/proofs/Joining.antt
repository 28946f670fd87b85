-- Pieces that are joined: two blocks that make one; what all pieces have; equal pieces; the length and the parts of
-- pieces of one size; and one piece more in a buffer.
use Prim.Native.Nat.{ℕ, zero, suc, ◌+◌, ◌-◌, ◌*◌, ◌≤◌, ◌<◌}
use mathlib.Core.List.{List, [], ◌++◌, append-nil, append_assoc}
use mathlib.Core.Path.{◌≡◌, refl, sym, ap, ◌∙◌}
use native.Mathlib.Nat.{zero-add, add-zero, suc-add, mul-zero, mul-suc}
use native.Mathlib.Omega.{arith}
use lib.ListN.{length, take, drop, length-append}
use lib.Seq.{take-append_seam, drop-append-add}
use Rattle.buffers.proofs.Writing.{wrote_then}
use Rattle.buffers.specs.Joined.{joined}
use Rattle.buffers.specs.Written.{Wrote}

module _ {A : Type 0} (f : ℕ → List A) where
  pub joined_none : (p : ℕ) → joined f p 0 ≡ []
  unfolding joined
  joined_none p = refl

  joined_one : (p : ℕ) → joined f p 1 ≡ f p
  unfolding joined
  joined_one p = append-nil (f p)

  -- n pieces, and m more from where they end
  pub joined_then : (p n m : ℕ) → joined f p (n + m) ≡ joined f p n ++ joined f (p + n) m
  unfolding joined
  joined_then p zero m = rw (zero-add m, add-zero p) refl
  joined_then p (suc n) m =
      let on : suc p + n ≡ p + suc n = omega arith in
      rw (suc-add n m, joined_then (suc p) n m, on, append_assoc (f p) (joined f (suc p) n) (joined f (p + suc n) m)) refl

  -- of n pieces those from p on are left, as a loop goes through them
  pub joined_left : (p n : ℕ) → p < n → joined f p (n - p) ≡ f p ++ joined f (suc p) (n - suc p)
  unfolding joined
  joined_left p n h = ap (joined f p) (counts n p h)
    where
      counts : (n p : ℕ) → p < n → n - p ≡ suc (n - suc p)
      counts n p h = omega arith

  -- what each piece has, and what two lists that have it keep when they are joined, all have together
  pub joined_keeps : (P : List A → Type 0) → P [] → ((xs ys : List A) → P xs → P ys → P (xs ++ ys)) → ((i : ℕ) → P (f i)) → (p n : ℕ) → P (joined f p n)
  unfolding joined
  joined_keeps P none both each p zero = none
  joined_keeps P none both each p (suc n) = both (f p) (joined f (suc p) n) (each p) (joined_keeps P none both each (suc p) n)

  -- equal pieces
  pub joined_equal : (g : ℕ → List A) (p n : ℕ) → ((i : ℕ) → p ≤ i → i < p + n → f i ≡ g i) → joined f p n ≡ joined g p n
  unfolding joined
  joined_equal g p zero same = refl
  joined_equal g p (suc n) same =
      rw (same p (omega arith) (omega arith), joined_equal g (suc p) n (λ i from to. same i (omega arith) (omega arith))) refl

  -- the next piece is written behind n of them
  pub joined_more : {held x y : List A} {m m' end r : ℕ} (p n : ℕ) → Wrote held 0 (joined f p n) m end x → Wrote x end (f (p + n)) m' r y
      → Wrote held 0 (joined f p (n + 1)) (m + m') r y
  joined_more p n so_far piece = rw (joined_then p n 1, joined_one (p + n)) (wrote_then so_far piece)

  -- pieces of one size
  module _ (size : ℕ) (sized : (i : ℕ) → length (f i) ≡ size) where
    pub joined_length : (p n : ℕ) → length (joined f p n) ≡ size * n
    unfolding joined
    joined_length p zero = sym (mul-zero size)
    joined_length p (suc n) = length-append (f p) (joined f (suc p) n) ∙ rw (sized p, joined_length (suc p) n, mul-suc size n) (omega arith)

    pub joined_part : (p n i : ℕ) → i < n → take size (drop (size * i) (joined f p n)) ≡ f (p + i)
    unfolding joined
    joined_part p zero i h = absurd (omega arith)
    joined_part p (suc n) zero h = rw (mul-zero size, add-zero p) (rw (sized p) at (take-append_seam (f p) (joined f (suc p) n)))
    joined_part p (suc n) (suc i) h =
        let on : suc p + i ≡ p + suc i = omega arith in
        let past : size * suc i ≡ length (f p) + size * i = rw (mul-suc size i, sized p) (omega arith) in
        rw (past, drop-append-add (f p) (joined f (suc p) n) (size * i)) (rw on at (joined_part (suc p) n i (omega arith)))
