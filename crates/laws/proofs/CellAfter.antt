-- A cell after any list of arrivals: it goes by those that claim its place, and by nothing else. Where nobody
-- claims it, it is as it was; where all that claim it are equal, an empty cell holds that record; where two differ,
-- it is contested.
use Prim.Native.Nat.{ℕ, ◌<◌}
use mathlib.Core.Path.{◌≡◌, refl, sym, ap, ◌∙◌}
use mathlib.Core.List.Memᴰ
use mathlib.Core.List.{List, [], ◌∷◌, Memᴰ}
use mathlib.Core.Bool.{Bool, true, false, false≢true}
use mathlib.Core.Logic.{⊎_elim}
use Rattle.answers.specs.Checks.{pick, Passes}
use Rattle.tables.specs.Table.{places_in, row_of}
use Rattle.records.proofs.Same.{same_bytes_lem, bytes_same, bytes_differ, differ_bytes}
use Rattle.records.specs.Record.{same_bytes}
use Rattle.layout.specs.Layout.{Cell}
use Rattle.rules.specs.Taking.{claims, cell_for, held_cell, contested_cell, bad_cell, page_checks, Received, arrive, after, arrive_cell, Nobody, AllEqual}
use Rattle.laws.proofs.CellRule.{takes_empty, takes_held, takes_contested}
use Rattle.laws.proofs.Claims.{next_cell}
use Rattle.laws.proofs.Arrivals.{claim_of, taken_cell, ready_after}

-- the cell c of place p in the book, after xs
unfoldable pub cell_after : List ℕ → ℕ → ℕ → ℕ → Cell → List (List ℕ) → Cell
cell_after t books book p c [] = c
cell_after t books book p c (x ∷ xs) = cell_after t books book p (next_cell t books book p x c) xs

module _ (t : List ℕ) (books : ℕ) where
  pub after_ready : (s : Received) (xs : List (List ℕ)) → Passes (page_checks t books s.page) → Passes (page_checks t books (after t books s xs).page)
  unfolding after arrive
  after_ready s [] ready = ready
  after_ready s (x ∷ xs) ready = after_ready (arrive t books s x) xs (ready_after t books s.page ready x)

  pub cell_after_lem : (s : Received) (xs : List (List ℕ)) → Passes (page_checks t books s.page) → (book p : ℕ) → book < books → p < places_in t
      → cell_for t (after t books s xs).page book p ≡ cell_after t books book p (cell_for t s.page book p) xs
  unfolding after arrive cell_after
  cell_after_lem s [] ready book p k h = refl
  cell_after_lem s (x ∷ xs) ready book p k h =
      cell_after_lem (arrive t books s x) xs (ready_after t books s.page ready x) book p k h
      ∙ ap (λ (c : Cell). cell_after t books book p c xs) (taken_cell t books s.page ready x book p k h)

-- ---- one arrival
empty_not_bad : (book p r : ℕ) (c : Cell) → c.state ≡ 0 → bad_cell book p r c ≡ false
unfolding bad_cell
empty_not_bad book p r c s = rw s refl

module _ (t : List ℕ) (books book p : ℕ) (x : List ℕ) where
  pub passes_by : (c : Cell) → claims t books x book p ≡ false → next_cell t books book p x c ≡ c
  passes_by c e = rw e refl

  module _ (e : claims t books x book p ≡ true) where
    fills : (c : Cell) → c.state ≡ 0 → next_cell t books book p x c ≡ held_cell x
    fills c s = rw (e, empty_not_bad book p (row_of t p) c s) (takes_empty x c s)

    again : next_cell t books book p x (held_cell x) ≡ held_cell x
    unfolding bad_cell
    again = rw (e, claim_of t books x book p e) (takes_held x (held_cell x) refl ∙ rw (same_bytes_lem x) refl)

    disputes : (y : List ℕ) → claims t books y book p ≡ true → (y ≡ x → ⊥) → next_cell t books book p x (held_cell y) ≡ contested_cell
    unfolding bad_cell
    disputes y f apart = rw (e, claim_of t books y book p f) (takes_held x (held_cell y) refl ∙ rw (bytes_differ y x apart) refl)

  stays_contested : next_cell t books book p x contested_cell ≡ contested_cell
  unfolding bad_cell
  stays_contested = go (claims t books x book p)
    where
      go : (b : Bool) → pick b (arrive_cell book p (row_of t p) x contested_cell) contested_cell ≡ contested_cell
      go true = takes_contested x contested_cell 0 refl
      go false = refl

-- ---- any list of them
module _ (t : List ℕ) (books book p : ℕ) where
  pub nobody : (xs : List (List ℕ)) (c : Cell) → Nobody t books xs book p → cell_after t books book p c xs ≡ c
  unfolding cell_after
  nobody [] c none = refl
  nobody (x ∷ xs) c none =
      ap (λ (d : Cell). cell_after t books book p d xs) (passes_by t books book p x c (none x (Memᴰ.head refl)))
      ∙ nobody xs c (λ z m. none z (Memᴰ.tail m))

  -- what is not the first stands behind it; and one that claims p is not one that does not
  behind : (u x : List ℕ) (xs : List (List ℕ)) → (x ≡ u → ⊥) → Memᴰ u (x ∷ xs) → Memᴰ u xs
  behind u x xs other m = ⊎_elim (λ same. absurd (other (sym same))) (λ n. n) (Memᴰ.cases_cons m)

  apart_from : (u x : List ℕ) → claims t books u book p ≡ true → claims t books x book p ≡ false → x ≡ u → ⊥
  apart_from u x e f same = false≢true (sym f ∙ ap (λ (v : List ℕ). claims t books v book p) same ∙ e)

  -- a step by whether x claims p
  by_claim : {A : Type 0} (x : List ℕ) → (claims t books x book p ≡ true → A) → (claims t books x book p ≡ false → A) → A
  by_claim {A} x claimed not-claimed = go (claims t books x book p) refl
    where
      go : (b : Bool) → claims t books x book p ≡ b → A
      go true e = claimed e
      go false e = not-claimed e

  keeps : (xs : List (List ℕ)) (y : List ℕ) → AllEqual t books xs book p y → cell_after t books book p (held_cell y) xs ≡ held_cell y
  unfolding cell_after
  keeps [] y all = refl
  keeps (x ∷ xs) y all = ap (λ (d : Cell). cell_after t books book p d xs) (by_claim x claimed (passes_by t books book p x (held_cell y))) ∙ keeps xs y (λ z m. all z (Memᴰ.tail m))
    where
      claimed : claims t books x book p ≡ true → next_cell t books book p x (held_cell y) ≡ held_cell y
      claimed e = let same = all x (Memᴰ.head refl) e in rw (← same) (again t books book p x e)

  -- all that claim p are equal to y, which is among them
  pub all_equal : (xs : List (List ℕ)) (c : Cell) (y : List ℕ) → c.state ≡ 0 → Memᴰ y xs → claims t books y book p ≡ true → AllEqual t books xs book p y → cell_after t books book p c xs ≡ held_cell y
  unfolding cell_after
  all_equal [] c y s m e all = absurd (Memᴰ.not-nil m)
  all_equal (x ∷ xs) c y s m e all = by_claim x claimed (λ f. passed f (all_equal xs c y s))
    where
      rest : AllEqual t books xs book p y
      rest z n = all z (Memᴰ.tail n)

      claimed : claims t books x book p ≡ true → cell_after t books book p (next_cell t books book p x c) xs ≡ held_cell y
      claimed f =
          let same = all x (Memᴰ.head refl) f in
          ap (λ (d : Cell). cell_after t books book p d xs) (fills t books book p x f c s ∙ ap held_cell same) ∙ keeps xs y rest

      passed : claims t books x book p ≡ false → (Memᴰ y xs → claims t books y book p ≡ true → AllEqual t books xs book p y → cell_after t books book p c xs ≡ held_cell y)
          → cell_after t books book p (next_cell t books book p x c) xs ≡ held_cell y
      passed f below =
          ap (λ (d : Cell). cell_after t books book p d xs) (passes_by t books book p x c f)
          ∙ below (behind y x xs (apart_from y x e f) m) e rest

  contested_for_good : (xs : List (List ℕ)) → cell_after t books book p contested_cell xs ≡ contested_cell
  unfolding cell_after
  contested_for_good [] = refl
  contested_for_good (x ∷ xs) = ap (λ (d : Cell). cell_after t books book p d xs) (stays_contested t books book p x) ∙ contested_for_good xs

  -- a record that differs from the one that is held
  disputed : (xs : List (List ℕ)) (y z : List ℕ) → claims t books y book p ≡ true → Memᴰ z xs → claims t books z book p ≡ true → (y ≡ z → ⊥)
      → cell_after t books book p (held_cell y) xs ≡ contested_cell
  unfolding cell_after
  disputed [] y z e m f apart = absurd (Memᴰ.not-nil m)
  disputed (x ∷ xs) y z e m f apart =
      by_claim x (λ g. claimed g (same_bytes y x) refl (λ n. disputed xs y z e n f apart)) (λ g. passed g (λ n. disputed xs y z e n f apart))
    where
      claimed : claims t books x book p ≡ true → (b : Bool) → same_bytes y x ≡ b → (Memᴰ z xs → cell_after t books book p (held_cell y) xs ≡ contested_cell)
          → cell_after t books book p (next_cell t books book p x (held_cell y)) xs ≡ contested_cell
      claimed g true h below =
          let same = bytes_same y x h in
          ap (λ (d : Cell). cell_after t books book p d xs) (ap (λ (u : List ℕ). next_cell t books book p x (held_cell u)) same ∙ again t books book p x g ∙ ap held_cell (sym same))
          ∙ below (behind z x xs (λ other. apart (same ∙ other)) m)
      claimed g false h below =
          ap (λ (d : Cell). cell_after t books book p d xs) (disputes t books book p x g y e (differ_bytes y x h))
          ∙ contested_for_good xs

      passed : claims t books x book p ≡ false → (Memᴰ z xs → cell_after t books book p (held_cell y) xs ≡ contested_cell)
          → cell_after t books book p (next_cell t books book p x (held_cell y)) xs ≡ contested_cell
      passed g below =
          ap (λ (d : Cell). cell_after t books book p d xs) (passes_by t books book p x (held_cell y) g)
          ∙ below (behind z x xs (apart_from z x f g) m)

  -- two that claim p differ
  pub two_differ : (xs : List (List ℕ)) (c : Cell) (y z : List ℕ) → c.state ≡ 0 → Memᴰ y xs → claims t books y book p ≡ true → Memᴰ z xs → claims t books z book p ≡ true
      → (y ≡ z → ⊥) → cell_after t books book p c xs ≡ contested_cell
  unfolding cell_after
  two_differ [] c y z s m e n f apart = absurd (Memᴰ.not-nil m)
  two_differ (x ∷ xs) c y z s m e n f apart = by_claim x claimed (λ g. passed g (λ a b. two_differ xs c y z s a e b f apart))
    where
      -- one of the two is not x, and stands behind it
      after_first : claims t books x book p ≡ true → (b : Bool) → same_bytes x y ≡ b → cell_after t books book p (held_cell x) xs ≡ contested_cell
      after_first g true h =
          let same = bytes_same x y h in
          let other : x ≡ z → ⊥ = λ e. apart (sym same ∙ e) in
          disputed xs x z g (behind z x xs other n) f other
      after_first g false h =
          let other = differ_bytes x y h in
          disputed xs x y g (behind y x xs other m) e other

      claimed : claims t books x book p ≡ true → cell_after t books book p (next_cell t books book p x c) xs ≡ contested_cell
      claimed g = ap (λ (d : Cell). cell_after t books book p d xs) (fills t books book p x g c s) ∙ after_first g (same_bytes x y) refl

      passed : claims t books x book p ≡ false → (Memᴰ y xs → Memᴰ z xs → cell_after t books book p c xs ≡ contested_cell)
          → cell_after t books book p (next_cell t books book p x c) xs ≡ contested_cell
      passed g below =
          ap (λ (d : Cell). cell_after t books book p d xs) (passes_by t books book p x c g)
          ∙ below (behind y x xs (apart_from y x e g) m) (behind z x xs (apart_from z x f g) n)
