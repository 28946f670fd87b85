-- A buffer that is written one element after the other.
--     fills, fills_map                               one element more by a store: any, of a mapped list
--     not_reached, written_length                    what is not written yet is as it was; so is the length
--     written_between, begins_with                   the text stands between two parts that are as they were, or
--                                                    before one
--     all_written                                    the whole buffer is written
--     wrote_none, wrote_one, wrote_part              a text is written: nothing, one element, a part that was lent
--     wrote_then, wrote_to, wrote_length             one text behind another; another bound; the buffer is as long
--                                                    as before
use Prim.Native.Nat.{ℕ, zero, suc, ◌+◌, ◌≤◌, ◌<◌}
use mathlib.Core.List.{List, [], ◌∷◌, ◌++◌, map, append-nil, append_assoc}
use mathlib.Core.Path.{◌≡◌, refl, sym, ap, ◌∙◌}
use native.Mathlib.Nat.{add-zero, zero-add}
use native.Mathlib.Numerals.{add-one}
use native.Mathlib.Omega.{arith}
use lib.ListN.{length, get_or, set, take, drop, length-append, length-map, drop_of_length-le, get_or-map}
use lib.Seq.{length-sets, sets-eq, get_or-set_other, take_all, take-length, drop-drop}
use Rattle.buffers.specs.Written.{written, Wrote}

module _ {A : Type 0} where
  -- ---- on the way
  next : (held made : List A) (at i : ℕ) (d : A) → i < length made → set (written held at made i) (at + i) (get_or made i d) ≡ written held at made (suc i)
  next held [] at i d h = absurd (omega arith)
  next held (x ∷ made) at zero d h = rw (add-zero at) refl
  next held (x ∷ made) at (suc i) d h =
      let on : at + suc i ≡ suc at + i = omega arith in
      rw on (next (set held at x) made (suc at) i d (omega arith))

  -- a turn of a loop that writes: v is the next element, and goes to the place i behind `at`
  pub fills : {so_far : List A} {place : ℕ} {v : A} (held made : List A) (at i : ℕ) (d : A) → i < length made → place ≡ at + i → v ≡ get_or made i d
      → so_far ≡ written held at made i → set so_far place v ≡ written held at made (i + 1)
  fills held made at i d below here is-next filled = rw (filled, is-next, here, add-one i) (next held made at i d below)

  unwritten : (held made : List A) (at i : ℕ) (d : A) → get_or (written held at made i) (at + i) d ≡ get_or held (at + i) d
  unwritten held made at zero d = refl
  unwritten held [] at (suc i) d = refl
  unwritten held (x ∷ made) at (suc i) d =
      let on : at + suc i ≡ suc at + i = omega arith in
      rw on (unwritten (set held at x) made (suc at) i d ∙ get_or-set_other held at (suc at + i) x d (λ e. omega arith))

  pub not_reached : {so_far : List A} {place : ℕ} (held made : List A) (at i : ℕ) (d : A) → place ≡ at + i → so_far ≡ written held at made i
      → get_or so_far place d ≡ get_or held place d
  not_reached held made at i d here filled = rw (filled, here) (unwritten held made at i d)

  pub written_length : (held made : List A) (at i : ℕ) → length (written held at made i) ≡ length held
  written_length held made at i = length-sets held at (take i made)

  -- ---- in the end
  pub written_between : (held made : List A) (at : ℕ) → at + length made ≤ length held
      → written held at made (length made) ≡ take at held ++ made ++ drop (at + length made) held
  written_between held made at h = rw (take-length made) (sets-eq made held at h)

  pub begins_with : (held made : List A) → length made ≤ length held → written held 0 made (length made) ≡ made ++ drop (length made) held
  begins_with held made h = rw (zero-add (length made)) at (written_between held made 0 (rw (zero-add (length made)) h))

  pub all_written : (held made : List A) (i : ℕ) → length held ≤ i → length made ≡ length held → written held 0 made i ≡ made
  all_written held made i from same =
      let whole = rw (take-length made) at (begins_with held made (omega arith)) in
      rw (take_all i made (omega arith)) (whole ∙ rw (drop_of_length-le held {i = length made} (omega arith)) (append-nil made))

  -- ---- texts
  pub wrote_none : (held : List A) (at : ℕ) → Wrote held at [] 0 at held
  wrote_none held at = record { ends = omega arith; made = refl; to = omega arith }

  pub wrote_one : (held : List A) (at : ℕ) (x : A) → Wrote held at (x ∷ []) 1 (at + 1) (set held at x)
  wrote_one held at x = record { ends = refl; made = refl; to = omega arith }

  -- a part of the buffer that was lent and written whole
  pub wrote_part : (held part : List A) (at n : ℕ) → length part ≡ n → at + n ≤ length held
      → Wrote held at part n (at + n) (take at held ++ (part ++ drop n (drop at held)))
  wrote_part held part at n size room = record {
    ends = omega arith;
    made =
        rw (← size, drop-drop (length part) at held)
        (sym (written_between held part at (omega arith) ∙ append_assoc (take at held) part (drop (at + length part) held)));
    to = omega arith;
  }

  together : (held s t : List A) (at : ℕ) → written (written held at s (length s)) (at + length s) t (length t) ≡ written held at (s ++ t) (length (s ++ t))
  together held [] t at = rw (add-zero at) refl
  together held (x ∷ s) t at =
      let on : at + length (x ∷ s) ≡ suc at + length s = omega arith in
      rw on (together (set held at x) s t (suc at))

  pub wrote_then : {held x y s t : List A} {at r r' m m' : ℕ} → Wrote held at s m r x → Wrote x r t m' r' y → Wrote held at (s ++ t) (m + m') r' y
  wrote_then {held} {s = s} {t = t} {at = at} one two = record {
    ends = rw (length-append s t) (omega (arith, one.ends, two.ends));
    made = two.made ∙ rw (one.made, one.ends) (together held s t at);
    to = omega (arith, one.to, two.to);
  }

  pub wrote_to : {held x s : List A} {at r m : ℕ} (most : ℕ) → length s ≤ most → Wrote held at s m r x → Wrote held at s most r x
  wrote_to most h w = record { ends = w.ends; made = w.made; to = omega (arith, w.ends) }

  pub wrote_length : {held x s : List A} {at r m : ℕ} → Wrote held at s m r x → length x ≡ length held
  wrote_length {held} {s = s} {at = at} w = ap length w.made ∙ written_length held s at (length s)

-- a mapped list
pub fills_map : {A B : Type 0} {so_far : List B} {place : ℕ} {v : B} (f : A → B) (xs : List A) (held : List B) (at i : ℕ) (d : A) → i < length xs
    → place ≡ at + i → v ≡ f (get_or xs i d) → so_far ≡ written held at (map f xs) i → set so_far place v ≡ written held at (map f xs) (i + 1)
fills_map f xs held at i d below here is-next filled =
    fills held (map f xs) at i (f d) (rw (length-map xs f) below) here (is-next ∙ sym (get_or-map f xs i d)) filled
