-- Demand 3 (docs/RULES.md, "Demands"), what the channel does: it loses, repeats, reorders and changes what it carries.
-- t is a table, `books` how many books share it, xs what arrives, byte strings of any length and content in the order
-- of arrival, those among them that are refused; `book` is a book, p is a place in it. A record that the radio changed
-- is any of xs, and may claim a place in any book. Stated over the page rules, to which the contracts of take and
-- collect tie the code, and over what the contracts of read and coefficient say, in each mode.
use Rattle.std.specs.Prelude.{ℕ, ◌/◌, ◌^◌, ◌<◌, ◌≡◌, true, false, ◌⊎◌, Float, ℤ, pos, ◌*ℤ◌, length, get_or, take, replicate}
use mathlib.Core.List.{List, [], ◌∷◌, ◌++◌, Memᴰ, Permᴰ}
use Rattle.answers.specs.Checks.{number_said}
use Rattle.enumeration.specs.Point.{nonzeros_in}
use Rattle.enumeration.specs.Signs.{flipped, signs_lowest}
use Rattle.floats.specs.Exact.{over256, IsOver256}
use Rattle.tables.specs.BookNumbers.{GoodBooks}
use Rattle.tables.specs.Row.{step_of, selector_of}
use Rattle.tables.specs.Table.{places_in, row_for, length_for, enumeration_for}
use Rattle.octets.specs.Octets.{high_first}
use Rattle.coding.specs.Coded.{point_for}
use Rattle.quantizer.specs.Calls.{quantize_says, quantize_leaves}
use Rattle.rules.specs.Modes.{no_such_mode}
use Rattle.rules.specs.Taking.{claims, cell_for, Received, after, grown, Nobody, AllEqual, take_says}
use Rattle.rules.specs.Judging.{judge, shown}
use Rattle.rules.specs.Reading.{read_says, read_leaves, coefficient_says, coefficient_carries}
use Rattle.rules.specs.Tallying.{tally_says}

-- ---- what came for a place
-- y is among xs and claims p in the book, and all that claim p there are equal to it
pub record OnlyCame (t : List ℕ) (books : ℕ) (xs : List (List ℕ)) (book p : ℕ) (y : List ℕ) : Type 0 where
  pub among : Memᴰ y xs
  pub claiming : claims t books y book p ≡ true
  pub equal : AllEqual t books xs book p y

-- two that differ claim p in the book
pub record TwoDiffer (t : List ℕ) (books : ℕ) (xs : List (List ℕ)) (book p : ℕ) : Type 0 where
  pub one : List ℕ
  pub one_among : Memᴰ one xs
  pub one_claiming : claims t books one book p ≡ true
  pub other : List ℕ
  pub other_among : Memᴰ other xs
  pub other_claiming : claims t books other book p ≡ true
  pub differ : one ≡ other → ⊥

-- one of the three
abbrev pub WhatCame : List ℕ → ℕ → List (List ℕ) → ℕ → ℕ → Type 0
WhatCame t books xs book p = Nobody t books xs book p ⊎ (((y : List ℕ) × OnlyCame t books xs book p y) ⊎ TwoDiffer t books xs book p)

-- ---- what is read of a place
-- what both readers say of it in a mode, a point or zeros, and what each coefficient carries, with a buffer of the
-- right length and every coordinate
pub record Reads (mode : ℕ) (t : List ℕ) (books book : ℕ) (pg : List ℕ) (p : ℕ) (says : List ℕ) (q : List ℤ) (carries : ℕ → List Float) : Type 0 where
  pub read_says_lem : (out : List ℤ) → length out ≡ length_for t p → read_says mode t books book pg p out ≡ says
  pub read_leaves_lem : (out : List ℤ) → length out ≡ length_for t p → read_leaves mode t books book pg p out ≡ q
  pub coefficient_says_lem : (i : ℕ) → i < length_for t p → coefficient_says mode t books book pg p i ≡ says
  pub coefficient_carries_lem : (i : ℕ) → i < length_for t p → coefficient_carries mode t books book pg p i ≡ carries i

-- the same in each mode
abbrev pub ReadsInEach : List ℕ → ℕ → ℕ → List ℕ → ℕ → List ℕ → List ℤ → (ℕ → List Float) → Type 0
ReadsInEach t books book pg p says q carries = (mode : ℕ) → no_such_mode mode ≡ false → Reads mode t books book pg p says q carries

-- coordinate x step, and its value: that over 256, as f32
abbrev pub scaled : List ℕ → ℕ → List ℤ → ℕ → ℤ
scaled t p q i = get_or q i (pos 0) *ℤ pos (step_of (row_for t p))

-- a table is bytes
abbrev pub Bytes : List ℕ → Type 0
Bytes t = (i : ℕ) → get_or t i 0 < 256

-- sound in each mode, with point q: each coefficient has its value, which is exact
pub record SoundWith (t : List ℕ) (books book : ℕ) (pg : List ℕ) (p : ℕ) (q : List ℤ) : Type 0 where
  pub reads : ReadsInEach t books book pg p (0 ∷ 0 ∷ 0 ∷ []) q (λ i. over256 (scaled t p q i) ∷ [])
  pub exact : Bytes t → (i : ℕ) → IsOver256 (scaled t p q i) (over256 (scaled t p q i))

-- no point in any mode: zeros, and no coefficient has a value
abbrev pub Blank : List ℕ → ℕ → ℕ → List ℕ → ℕ → ℕ → Type 0
Blank t books book pg p answer = ReadsInEach t books book pg p (0 ∷ answer ∷ 0 ∷ []) (replicate (length_for t p) (pos 0)) (λ i. [])

-- a point is shown: sound, or mended with any distance
abbrev pub ShowsPoint : List ℕ → Type 0
ShowsPoint says = (says ≡ 0 ∷ 0 ∷ 0 ∷ []) ⊎ ((d : ℕ) × (says ≡ 0 ∷ 1 ∷ 0 ∷ d ∷ []))

-- ---- a. "The page does not depend on the order of arrival": on every table, with every number of books and on every
-- page, of any bytes and any length, with whatever was refused before, two lists of arrivals that are permutations of
-- each other leave the same page, byte for byte, and the same number of refused takes.
abbrev pub AnyOrder : Type 0
AnyOrder = (t : List ℕ) (books : ℕ) (s : Received) (xs ys : List (List ℕ)) → Permᴰ xs ys → after t books s xs ≡ after t books s ys

-- ---- b. The cell of a place in a book, from an empty page on, is told by what claims it: empty, its 8 bytes zero,
-- held with the 8 bytes, or contested, its 8 bytes zero; so a damaged place is told as damaged.
pub record CellTold (t : List ℕ) (books : ℕ) (xs : List (List ℕ)) (book p : ℕ) : Type 0 where
  pub what_came : WhatCame t books xs book p
  pub nobody : Nobody t books xs book p → cell_for t (grown t books xs) book p ≡ record { state = 0; bytes = replicate 8 0 }
  pub all_equal : (y : List ℕ) → OnlyCame t books xs book p y → cell_for t (grown t books xs) book p ≡ record { state = 1; bytes = y }
  pub two_differ : TwoDiffer t books xs book p → cell_for t (grown t books xs) book p ≡ record { state = 2; bytes = replicate 8 0 }
  -- so it is read as missing, 2, and as contested, 3, in each mode
  pub missing : Nobody t books xs book p → Blank t books book (grown t books xs) p 2
  pub contested : TwoDiffer t books xs book p → Blank t books book (grown t books xs) p 3

-- a page grown from empty never gives 12, in any call that could, whatever the table and the number of books
pub record Never12 (t : List ℕ) (books : ℕ) (xs : List (List ℕ)) : Type 0 where
  pub take : (x : List ℕ) → number_said (take_says t books (grown t books xs) x) ≡ 12 → ⊥
  pub read : (mode book p : ℕ) (out : List ℤ) → number_said (read_says mode t books book (grown t books xs) p out) ≡ 12 → ⊥
  pub coefficient : (mode book p i : ℕ) → number_said (coefficient_says mode t books book (grown t books xs) p i) ≡ 12 → ⊥
  pub tally : (mode book : ℕ) → number_said (tally_says mode t books book (grown t books xs)) ≡ 12 → ⊥

-- ---- c and d. What is sent for place p of a book: coefficients w that quantize accepts, the record that it leaves,
-- and its point.
pub record Sent (t : List ℕ) (books book p : ℕ) (w : List Float) (r : List ℕ) (q : List ℤ) : Type 0 where
  pub lent : List ℕ
  pub accepted : quantize_says t books book p w lent ≡ 0 ∷ []
  pub written : quantize_leaves t books book p w lent ≡ r
  pub point : point_for (row_for t p) w ≡ q

-- c. "the place is sound with the point that was sent": the record arrives, and all that claim its place in its book
-- are equal to it; then the place is sound with its point, in each mode.
abbrev pub ShownAsSent : Type 0
ShownAsSent = (t : List ℕ) (books book p : ℕ) (w : List Float) (r : List ℕ) (q : List ℤ) → Sent t books book p w r q
    → (xs : List (List ℕ)) → Memᴰ r xs → AllEqual t books xs book p r → SoundWith t books book (grown t books xs) p q

-- d. In a row whose enumeration has the signs lowest in the index, the record with a codeword that differs only in the
-- low s bits, s being the number of nonzero coordinates of q, in any set of them: arrived in the same way, it is sound
-- with q with exactly the coordinates of the differing bits negated.
abbrev pub with_codeword : List ℕ → ℕ → List ℕ
with_codeword r codeword = take 4 r ++ high_first 4 codeword

abbrev pub OnlySignsChange : Type 0
OnlySignsChange = (t : List ℕ) (books book p : ℕ) (w : List Float) (r : List ℕ) (q : List ℤ) → Sent t books book p w r q
    → signs_lowest (selector_of (row_for t p)) ≡ true
    → (codeword : ℕ) → (enumeration_for t p).index q / 2 ^ nonzeros_in q ≡ codeword / 2 ^ nonzeros_in q
    → (xs : List (List ℕ)) → Memᴰ (with_codeword r codeword) xs → AllEqual t books xs book p (with_codeword r codeword)
    → SoundWith t books book (grown t books xs) p (flipped ((enumeration_for t p).index q) codeword q)

-- ---- e. Conversely, by either reader: a place of a book shows a point only if something claimed it and all that
-- claimed it were equal; and it is the point of that record in the mode that is asked for. So a reading never stands
-- over its neighbour's character because of what came for the neighbour, nor in one book because of what came for
-- another.
pub record OnlySent (mode : ℕ) (t : List ℕ) (books : ℕ) (xs : List (List ℕ)) (book p : ℕ) : Type 0 where
  pub arrived : List ℕ
  pub all_equal : OnlyCame t books xs book p arrived
  pub its_point : (out : List ℤ) → length out ≡ length_for t p
      → read_leaves mode t books book (grown t books xs) p out ≡ shown (row_for t p) (judge mode (row_for t p) (record { state = 1; bytes = arrived }))

abbrev pub ReadOnlySent : Type 0
ReadOnlySent = (mode : ℕ) (t : List ℕ) (books : ℕ) (xs : List (List ℕ)) (book p : ℕ) (out : List ℤ)
    → ShowsPoint (read_says mode t books book (grown t books xs) p out) → OnlySent mode t books xs book p

abbrev pub ValuedOnlySent : Type 0
ValuedOnlySent = (mode : ℕ) (t : List ℕ) (books : ℕ) (xs : List (List ℕ)) (book p i : ℕ)
    → ShowsPoint (coefficient_says mode t books book (grown t books xs) p i) → OnlySent mode t books xs book p

-- ---- The demand of a whole page: one good table with its books, an empty page, a written record for every place of
-- every book, and any list of arrivals. What is sent for a page: for each place p of each book b the coefficients
-- w b p, which quantize accepts, the record r b p that it leaves, and its point q b p.
abbrev pub PageSent : List ℕ → ℕ → (ℕ → ℕ → List Float) → (ℕ → ℕ → List ℕ) → (ℕ → ℕ → List ℤ) → Type 0
PageSent t books w r q = (book p : ℕ) → book < books → p < places_in t → Sent t books book p (w book p) (r book p) (q book p)

pub record PageShown (t : List ℕ) (books : ℕ) (r : ℕ → ℕ → List ℕ) (q : ℕ → ℕ → List ℤ) (xs : List (List ℕ)) : Type 0 where
  -- the page is the same for any order of arrival
  pub any_order : (ys : List (List ℕ)) → Permᴰ xs ys → grown t books xs ≡ grown t books ys
  -- every place of every book whose own record came unchanged, and that no differing record claims, gives the sent
  -- point
  pub unchanged : (book p : ℕ) → book < books → p < places_in t → Memᴰ (r book p) xs
      → ((x : List ℕ) → Memᴰ x xs → claims t books x book p ≡ true → x ≡ r book p)
      → SoundWith t books book (grown t books xs) p (q book p)
  -- every place of such a row whose record came in one form only, changed only in sign bits, gives the point with
  -- exactly those coordinates negated
  pub signs_changed : (book p : ℕ) → book < books → p < places_in t → signs_lowest (selector_of (row_for t p)) ≡ true
      → (codeword : ℕ) → (enumeration_for t p).index (q book p) / 2 ^ nonzeros_in (q book p) ≡ codeword / 2 ^ nonzeros_in (q book p)
      → Memᴰ (with_codeword (r book p) codeword) xs
      → ((x : List ℕ) → Memᴰ x xs → claims t books x book p ≡ true → x ≡ with_codeword (r book p) codeword)
      → SoundWith t books book (grown t books xs) p (flipped ((enumeration_for t p).index (q book p)) codeword (q book p))

abbrev pub WholePage : Type 0
WholePage = (t : List ℕ) (books : ℕ) → GoodBooks t books → (w : ℕ → ℕ → List Float) (r : ℕ → ℕ → List ℕ) (q : ℕ → ℕ → List ℤ)
    → PageSent t books w r q → (xs : List (List ℕ)) → PageShown t books r q xs

-- ---- all of demand 3; p is a place of a good table, and 1 to 16 books share the table
pub record Demand3 : Type 0 where
  pub a : AnyOrder
  pub b : (t : List ℕ) (books : ℕ) → GoodBooks t books → (xs : List (List ℕ)) (book p : ℕ) → book < books → p < places_in t → CellTold t books xs book p
  pub never_12 : (t : List ℕ) (books : ℕ) (xs : List (List ℕ)) → Never12 t books xs
  pub c : ShownAsSent
  pub d : OnlySignsChange
  pub e_read : ReadOnlySent
  pub e_valued : ValuedOnlySent
  pub whole_page : WholePage
