-- The page rule on one cell: two records of its book, place and row may come in either order, whatever stands in it.
-- Refusal 12 keeps the cell, and a cell that is not refused is not refused afterwards.
use Prim.Native.Nat.{ℕ, zero, suc}
use mathlib.Core.Path.{◌≡◌, refl, ap, sym, ◌∙◌}
use mathlib.Core.List.{List, [], ◌∷◌}
use mathlib.Core.Bool.{Bool, true, false, not}
use lib.ListN.{length}
use Rattle.answers.specs.Checks.{any_of, pick}
use Rattle.records.proofs.Same.{same_bytes_lem, bytes_same, differ_bytes, bytes_differ}
use Rattle.records.specs.Record.{record_length, same_bytes}
use Rattle.layout.specs.Layout.{Cell}
use Rattle.rules.specs.Taking.{is_of, held_cell, contested_cell, by_state, bad_cell, take_cell, arrive_cell}

-- ---- the rule by the state
-- a state that is neither 0 nor 1
pub by_state_else : {A : Type 0} (n : ℕ) (empty held contested : A) → (n ≡ 0 → ⊥) → (n ≡ 1 → ⊥) → by_state n empty held contested ≡ contested
by_state_else zero empty held contested a b = absurd (a refl)
by_state_else (suc zero) empty held contested a b = absurd (b refl)
by_state_else (suc (suc n)) empty held contested a b = refl

module _ (x : List ℕ) (c : Cell) where
  pub takes_empty : c.state ≡ 0 → take_cell x c ≡ held_cell x
  unfolding take_cell
  takes_empty e = rw e refl

  pub takes_held : c.state ≡ 1 → take_cell x c ≡ pick (same_bytes c.bytes x) c contested_cell
  unfolding take_cell
  takes_held e = rw e refl

  pub takes_contested : (n : ℕ) → c.state ≡ suc (suc n) → take_cell x c ≡ c
  unfolding take_cell
  takes_contested n e = rw e refl

-- held by a record
held_takes : (x y : List ℕ) → take_cell x (held_cell y) ≡ pick (same_bytes y x) (held_cell y) contested_cell
held_takes x y = takes_held x (held_cell y) refl

same_either : (x y : List ℕ) → pick (same_bytes y x) (held_cell y) contested_cell ≡ pick (same_bytes x y) (held_cell x) contested_cell
same_either x y = go (same_bytes x y) refl
  where
    go : (b : Bool) → same_bytes x y ≡ b → pick (same_bytes y x) (held_cell y) contested_cell ≡ pick b (held_cell x) contested_cell
    go true t = let same = bytes_same x y t in rw (← same) (rw (same_bytes_lem x) refl)
    go false t = rw (bytes_differ y x (λ e. differ_bytes x y t (sym e))) refl

-- two records, one after the other
pub takes_two : (x y : List ℕ) (c : Cell) → take_cell x (take_cell y c) ≡ take_cell y (take_cell x c)
takes_two x y c = go c.state refl
  where
    held : (a b : Bool) → same_bytes c.bytes x ≡ a → same_bytes c.bytes y ≡ b → c.state ≡ 1
        → take_cell x (pick b c contested_cell) ≡ take_cell y (pick a c contested_cell)
    held true true p q e = rw (takes_held x c e, takes_held y c e, p, q) refl
    held true false p q e = rw (takes_held y c e, q) (takes_contested x contested_cell 0 refl)
    held false true p q e = rw (takes_held x c e, p) (sym (takes_contested y contested_cell 0 refl))
    held false false p q e = takes_contested x contested_cell 0 refl ∙ sym (takes_contested y contested_cell 0 refl)

    go : (n : ℕ) → c.state ≡ n → take_cell x (take_cell y c) ≡ take_cell y (take_cell x c)
    go zero e = rw (takes_empty x c e, takes_empty y c e, held_takes x y, held_takes y x) (same_either x y)
    go (suc zero) e = rw (takes_held x c e, takes_held y c e) (held (same_bytes c.bytes x) (same_bytes c.bytes y) refl refl e)
    go (suc (suc n)) e = rw (takes_contested x c n e, takes_contested y c n e, takes_contested x c n e) refl

-- ---- with refusal 12
-- a cell that is not refused is not refused afterwards
not_bad : (book p r : ℕ) (x : List ℕ) (c : Cell) → is_of x book p r ≡ true → bad_cell book p r c ≡ false → bad_cell book p r (take_cell x c) ≡ false
unfolding bad_cell
not_bad book p r x c own e = go c.state refl
  where
    held : (b : Bool) → bad_cell book p r (pick b c contested_cell) ≡ false
    held true = e
    held false = refl

    go : (n : ℕ) → c.state ≡ n → bad_cell book p r (take_cell x c) ≡ false
    go zero s = rw (takes_empty x c s) (ap (λ (b : Bool). any_of (not b ∷ [])) own)
    go (suc zero) s = rw (takes_held x c s) (held (same_bytes c.bytes x))
    go (suc (suc n)) s = rw (takes_contested x c n s) e

module _ (book p r : ℕ) (x : List ℕ) (c : Cell) (own : is_of x book p r ≡ true) where
  pub bad_stays : bad_cell book p r (arrive_cell book p r x c) ≡ bad_cell book p r c
  bad_stays = go (bad_cell book p r c) refl
    where
      go : (b : Bool) → bad_cell book p r c ≡ b → bad_cell book p r (pick b c (take_cell x c)) ≡ bad_cell book p r c
      go true e = refl
      go false e = not_bad book p r x c own e ∙ sym e

-- records of place p in the book and of row r, in either order
pub arrives_two : (book p r : ℕ) (x y : List ℕ) (c : Cell) → is_of x book p r ≡ true → is_of y book p r ≡ true
    → arrive_cell book p r x (arrive_cell book p r y c) ≡ arrive_cell book p r y (arrive_cell book p r x c)
arrives_two book p r x y c of-x of-y = go (bad_cell book p r c) refl
  where
    go : (b : Bool) → bad_cell book p r c ≡ b → arrive_cell book p r x (pick b c (take_cell y c)) ≡ arrive_cell book p r y (pick b c (take_cell x c))
    go true e = rw e refl
    go false e = rw (not_bad book p r x c of-x e, not_bad book p r y c of-y e) (takes_two x y c)

-- ---- a record of 8 bytes keeps the cell a cell
pub length_arrives : (book p r : ℕ) (x : List ℕ) (c : Cell) → length x ≡ record_length → length c.bytes ≡ record_length
    → length (arrive_cell book p r x c).bytes ≡ record_length
length_arrives book p r x c eight eight-held = go (bad_cell book p r c)
  where
    held : (b : Bool) → length (pick b c contested_cell).bytes ≡ record_length
    held true = eight-held
    held false = refl

    taken : (n : ℕ) → c.state ≡ n → length (take_cell x c).bytes ≡ record_length
    taken zero e = rw (takes_empty x c e) eight
    taken (suc zero) e = rw (takes_held x c e) (held (same_bytes c.bytes x))
    taken (suc (suc n)) e = rw (takes_contested x c n e) eight-held

    go : (b : Bool) → length (pick b c (take_cell x c)).bytes ≡ record_length
    go true = eight-held
    go false = taken c.state refl
