-- What the readers make of a place that passes their checks: they answer as it is judged, and what they answer is what
-- is told of it. A page grown from empty passes them at every place.
use Prim.Native.Nat.{ℕ, ◌<◌}
use mathlib.Core.Path.{◌≡◌, refl, sym, ap, ap₂, ◌∙◌}
use mathlib.Core.List.{List, [], ◌∷◌, ◌++◌}
use mathlib.Core.Bool.{false}
use lib.Dec.{lit<}
use lib.IntN.{ℤ}
use lib.ListN.{length, drop}
use borrow.Author.Tests.{lt-leb, eq-eqb}
use Rattle.answers.specs.Checks.{Check, first_of, Passes}
use Rattle.answers.proofs.InOrder.{Numbered, numbered_then, says_passes, passes_then, passes_says, passes_leaves}
use Rattle.floats.specs.Exact.{over256}
use Rattle.tables.specs.BookNumbers.{GoodBooks}
use Rattle.tables.specs.Table.{places_in, row_of, row_for, length_for}
use Rattle.tables.proofs.PlaceChecks.{passes_book, passes_place}
use Rattle.rules.specs.Modes.{no_such_mode}
use Rattle.rules.specs.Taking.{cell_for, bad_at, grown}
use Rattle.rules.specs.Judging.{judge_at, shown}
use Rattle.rules.specs.Reading.{look_checks, told, carried, carried_by, point_at, read_rest, read_checks, coefficient_rest, coefficient_checks}
use Rattle.rules.specs.declared.Judged.{Judged}
use Rattle.laws.proofs.Grown.{grown_ready, grown_not_bad}
use Rattle.laws.proofs.Pages.{page_size, look_numbered, look_passes}
use Rattle.channel.specs.Demand3.{Reads, scaled}

-- either reader looks at the place first, and then makes its own checks; what is answered passed all of them
pub reader_told : (mode : ℕ) (t : List ℕ) (books book : ℕ) (pg : List ℕ) (p : ℕ) (rest : List Check) → Numbered rest → (values : List ℕ)
    → first_of (look_checks mode t books book pg p ++ rest) (told (judge_at mode t pg book p)) ≡ 0 ∷ values
    → Passes (look_checks mode t books book pg p ++ rest) × (told (judge_at mode t pg book p) ≡ 0 ∷ values)
reader_told mode t books book pg p rest numbered values says =
    let j = judge_at mode t pg book p in
    let look = look_checks mode t books book pg p in
    let checks = look ++ rest in
    let passes = says_passes (drop 1 (told j)) values checks (numbered_then look rest (look_numbered mode t books book pg p) numbered) says in
    (passes, sym (passes_says (told j) checks passes) ∙ says)

-- the checks of each reader behind those of the place; they have numbers
abbrev pub read_behind : List ℕ → ℕ → List ℕ → ℕ → List ℤ → List Check
read_behind t book pg p out = read_rest (row_for t p) book p (row_of t p) (cell_for t pg book p) (length out)

abbrev pub value_behind : List ℕ → ℕ → List ℕ → ℕ → ℕ → List Check
value_behind t book pg p i = coefficient_rest (row_for t p) book p (row_of t p) (cell_for t pg book p) i

pub read_numbered : (t : List ℕ) (book : ℕ) (pg : List ℕ) (p : ℕ) (out : List ℤ) → Numbered (read_behind t book pg p out)
read_numbered t book pg p out = (lit< tt, (lit< tt, tt))

pub value_numbered : (t : List ℕ) (book : ℕ) (pg : List ℕ) (p i : ℕ) → Numbered (value_behind t book pg p i)
value_numbered t book pg p i = (lit< tt, (lit< tt, tt))

module _ (mode : ℕ) (t : List ℕ) (books book : ℕ) (pg : List ℕ) (p : ℕ) (look : Passes (look_checks mode t books book pg p))
    (whole : bad_at t pg book p ≡ false) where
  read_passes : (out : List ℤ) → length out ≡ length_for t p → Passes (read_checks mode t books book pg p (length out))
  read_passes out long =
      passes_then (look_checks mode t books book pg p) (read_behind t book pg p out) look
      (rw (eq-eqb (length out) (length_for t p) long) refl, (whole, tt))

  coefficient_passes : (i : ℕ) → i < length_for t p → Passes (coefficient_checks mode t books book pg p i)
  coefficient_passes i inside =
      passes_then (look_checks mode t books book pg p) (value_behind t book pg p i) look (lt-leb (length_for t p) i inside, (whole, tt))

  reads_as : (j : Judged) (q : List ℤ) → judge_at mode t pg book p ≡ j → shown (row_for t p) j ≡ q
      → Reads mode t books book pg p (told j) q (λ i. carried j (over256 (scaled t p q i)))
  reads_as j q judged is = record {
    read_says_lem = λ out long. passes_says (told (judge_at mode t pg book p)) (read_checks mode t books book pg p (length out)) (read_passes out long) ∙ ap told judged;
    read_leaves_lem = λ out long. passes_leaves (point_at mode t pg book p) out (read_checks mode t books book pg p (length out)) (read_passes out long) ∙ point;
    coefficient_says_lem = λ i inside.
        passes_says (told (judge_at mode t pg book p)) (coefficient_checks mode t books book pg p i) (coefficient_passes i inside) ∙ ap told judged;
    coefficient_carries_lem = λ i inside.
        passes_leaves (carried_by (row_for t p) (judge_at mode t pg book p) i) [] (coefficient_checks mode t books book pg p i) (coefficient_passes i inside)
        ∙ ap₂ carried judged (ap (λ (x : List ℤ). over256 (scaled t p x i)) point);
  }
    where
      point : point_at mode t pg book p ≡ q
      point = ap (shown (row_for t p)) judged ∙ is

-- a page grown from empty, in a mode
pub grown_reads : (mode : ℕ) → no_such_mode mode ≡ false → (t : List ℕ) (books : ℕ) → GoodBooks t books → (xs : List (List ℕ)) (book p : ℕ) → book < books
    → p < places_in t → (j : Judged) (q : List ℤ) → judge_at mode t (grown t books xs) book p ≡ j → shown (row_for t p) j ≡ q
    → Reads mode t books book (grown t books xs) p (told j) q (λ i. carried j (over256 (scaled t p q i)))
grown_reads mode known t books good xs book p k h =
    let pg = grown t books xs in
    let size = page_size t books pg (grown_ready t books good xs) in
    let place = passes_place t books book p (passes_book t books book good k) h in
    reads_as mode t books book pg p (look_passes mode t books book pg p known place size) (grown_not_bad t books good xs book p k h)
