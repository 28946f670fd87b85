-- Demand 2 (docs/RULES.md, "Demands"), indices, records and answers. What is said of indices is said of the
-- enumeration of each selector v, and what is said of a page, of the enumeration of each place's row, in each mode and
-- in each book.
use Rattle.std.specs.Prelude.{ℕ, suc, ◌*◌, ◌^◌, ◌≤◌, ◌<◌, ◌≡◌, List, [], ◌∷◌, ◌++◌, true, false, eqb, ltb, Float, ℤ, pos, length, get_or}
use Rattle.std.specs.Int.{◌∣◌}
use Rattle.std.specs.Float.{nan}
use Rattle.answers.specs.Checks.{number_said}
use Rattle.counts.specs.Counts.{N, D, S, R, most_nonzero, sum_after, range_start}
use Rattle.counts.specs.Fields.{bit_field, size_of}
use Rattle.counts.specs.Width.{width}
use Rattle.counts.specs.declared.Field.{Field}
use Rattle.enumeration.specs.Point.{OnShell, is_nonzero, is_negative, nonzeros_in, sum_of}
use Rattle.enumeration.specs.Enumerations.{product, magnitude, product_product, selected_by, selects_none}
use Rattle.enumeration.specs.Magnitude.{OffsetsAgree}
use Rattle.enumeration.specs.Product.{index_from}
use Rattle.enumeration.specs.Reading.{bit}
use Rattle.enumeration.specs.Signs.{signs_lowest}
use Rattle.indexing.specs.Calls.{index_says, point_says, point_leaves}
use Rattle.floats.specs.Exact.{IsOver256}
use Rattle.floats.specs.Nearest.{nearest_whole, IsNearest}
use Rattle.floats.specs.Units.{units_of}
use Rattle.tables.specs.Largest.{OnlyLost}
use Rattle.tables.specs.Usable.{IsUsable}
use Rattle.tables.specs.Row.{radii_of, radius_at}
use Rattle.tables.specs.Table.{places_in, Good, row_of, row_for, length_for, enumeration_for, InRow}
use Rattle.records.specs.Record.{Holds}
use Rattle.coding.specs.Coded.{radius_number_for, radius_for, point_for}
use Rattle.quantizer.specs.Calls.{quantize_says, quantize_leaves}
use Rattle.sharing.specs.Nearest.{NearestOnShell}
use Rattle.coefficients.specs.Points.{total_of, wholes_of, IsPointOf}
use Rattle.coefficients.specs.Radius.{miss_by}
use Rattle.rules.specs.Judging.{judge_at, answer_number, Shows, shown}
use Rattle.rules.specs.Reading.{value_at}
use Rattle.rules.specs.Tallying.{count_of, tally_says}
use Rattle.channel.specs.Demand3.{Bytes, scaled}

-- ---- counts, indices and points
pub record NumbersPoints (v l k : ℕ) : Type 0 where
  -- a point of the shell has an index below the total, which names it, and the point of that index is it
  pub there : (x : List ℤ) → OnShell l k x
      → ((selected_by v).index x < (selected_by v).total l k) × ((selected_by v).names l k ((selected_by v).index x) ≡ true)
      × ((selected_by v).point l k ((selected_by v).index x) ≡ x)
  -- an index below the total that names a point gives one of the shell, and its index is that number
  pub back : (n : ℕ) → n < (selected_by v).total l k → (selected_by v).names l k n ≡ true
      → OnShell l k ((selected_by v).point l k n) × ((selected_by v).index ((selected_by v).point l k n) ≡ n)
  -- an index that names none is that of no point
  pub none : (n : ℕ) → (selected_by v).names l k n ≡ false → (x : List ℤ) → OnShell l k x → (selected_by v).index x ≡ n → ⊥

-- by the selectors 0 and 1 there are N indices, and each names a point
pub record AllNamed (v l k : ℕ) : Type 0 where
  pub many : (selected_by v).total l k ≡ N l k
  pub named : (n : ℕ) → n < N l k → (selected_by v).names l k n ≡ true

-- By selector 2, at a radius above 0, there are as many indices as equation 28 says; each is made of a pattern, a field
-- of bits and signs, as equation 30 says, and names a point exactly where the field is below S.
pub record InBits (l k : ℕ) : Type 0 where
  pub many : (selected_by 2).total l (suc k) ≡ sum_after (λ s. D s l * 2 ^ width (S s (suc k)) * 2 ^ s) 0 (most_nonzero l (suc k))
  pub made : (s pattern shape sign : ℕ) → 0 < s → s ≤ most_nonzero l (suc k) → pattern < D s l → shape < 2 ^ width (S s (suc k)) → sign < 2 ^ s
      → (index_from bit_field s l (suc k) pattern shape sign < (selected_by 2).total l (suc k))
      × ((selected_by 2).names l (suc k) (index_from bit_field s l (suc k) pattern shape sign) ≡ ltb shape (S s (suc k)))

-- the selectors are those of the product, the magnitude and the product-product enumeration
pub record Enumerations : Type 0 where
  pub selector_0 : selected_by 0 ≡ product
  pub selector_1 : selected_by 1 ≡ magnitude
  pub selector_2 : selected_by 2 ≡ product_product
  pub all_named : (v : ℕ) → v ≤ 1 → (l k : ℕ) → AllNamed v l k
  pub in_bits : (l k : ℕ) → InBits l k
  -- of the shells that N makes usable four have too many indices by selector 2, and no other has
  pub lost : OnlyLost
  -- radius 0 has one index by each
  pub one_at_0 : (v l : ℕ) → (selected_by v).total l 0 ≡ 1
  -- O(s) is a multiple of 2^(s+1), with either shape field: that is why the ranges run downward
  pub ranges : (f : Field) (l k s : ℕ) → 2 ^ suc s ∣ range_start (size_of f) s l k
  -- the offsets of the magnitude enumeration are the sums that the paper begins with
  pub offsets : OffsetsAgree

-- N(l,k) is the sum of R(s), s = 1 to m, for radii above 0; radius 0 stands apart
abbrev pub CountsSum : Type 0
CountsSum = (l k : ℕ) → N l (suc k) ≡ sum_after (λ s. R s l (suc k)) 0 (most_nonzero l (suc k))

-- where the signs are lowest, bit j of an index is that of the nonzero coordinate which has exactly j nonzero
-- coordinates after it, 1 for negative
abbrev pub BitOfCoordinate : Type 0
BitOfCoordinate = (v : ℕ) → signs_lowest v ≡ true → (before : List ℤ) (c : ℤ) (after : List ℤ) → is_nonzero c ≡ true
    → eqb (bit (nonzeros_in after) ((selected_by v).index (before ++ c ∷ after))) 1 ≡ is_negative c

-- so the calls index and point undo each other in every usable shell, with any lent buffer of the right length
pub record CallsUndo (v l k : ℕ) : Type 0 where
  pub there : (x out : List ℤ) → OnShell l k x → length out ≡ l
      → (index_says v l k x ≡ 0 ∷ (selected_by v).index x ∷ []) × (point_says v l k ((selected_by v).index x) out ≡ 0 ∷ [])
      × (point_leaves v l k ((selected_by v).index x) out ≡ x)
  pub back : (n : ℕ) (out : List ℤ) → n < (selected_by v).total l k → (selected_by v).names l k n ≡ true → length out ≡ l
      → (point_says v l k n out ≡ 0 ∷ []) × (index_says v l k (point_leaves v l k n out) ≡ 0 ∷ n ∷ [])
  -- and an index that names no point is refused as an empty shape
  pub none : (n : ℕ) (out : List ℤ) → n < (selected_by v).total l k → (selected_by v).names l k n ≡ false → length out ≡ l
      → point_says v l k n out ≡ 15 ∷ []

-- ---- records
-- What quantize writes for w at place p of a book, if it accepts them: the record r.
pub record Quantizes (t : List ℕ) (book p : ℕ) (w : List Float) (r : List ℕ) : Type 0 where
  -- book, place, row, radius number and the index of the point by the row's own enumeration; and the row is the place's
  pub fields : Holds r book p (row_of t p) (radius_number_for (row_for t p) w) ((enumeration_for t p).index (point_for (row_for t p) w))
  pub its_row : InRow t p (row_of t p)
  -- the whole number of a coefficient is the n with the least |256 X - n 2^149|, the even one of two
  pub nearest : (i : ℕ) → i < length w → IsNearest (256 * units_of (get_or w i nan)) (2 ^ 149) (nearest_whole (get_or w i nan))
  -- the radius is one of the row's, and the first that is least
  pub in_row : radius_number_for (row_for t p) w < radii_of (row_for t p)
  pub least : (n : ℕ) → n < radii_of (row_for t p)
      → miss_by (row_for t p) (total_of w) (radius_number_for (row_for t p) w) ≤ miss_by (row_for t p) (total_of w) n
  pub first : (n : ℕ) → n < radii_of (row_for t p)
      → miss_by (row_for t p) (total_of w) n ≡ miss_by (row_for t p) (total_of w) (radius_number_for (row_for t p) w)
      → radius_for (row_for t p) w ≤ radius_at (row_for t p) n
  -- the point's magnitudes sum to it
  pub on_shell : OnShell (length_for t p) (radius_for (row_for t p) w) (point_for (row_for t p) w)
  -- they are the whole parts, with one more for each of the largest remainders, and a coordinate is 0 or has its
  -- coefficient's sign; no other point is so
  pub point : IsPointOf (radius_for (row_for t p) w) w (point_for (row_for t p) w)
  pub only_point : (q : List ℤ) → IsPointOf (radius_for (row_for t p) w) w q → q ≡ point_for (row_for t p) w
  -- a coordinate is 0 where the coefficient's whole number is
  pub zeros : (i : ℕ) → i < length w → nearest_whole (get_or w i nan) ≡ 0 → get_or (point_for (row_for t p) w) i (pos 0) ≡ pos 0
  -- at a radius above 0 no point of the shell is nearer to the coefficients' whole numbers
  pub none_nearer : 0 < radius_for (row_for t p) w → NearestOnShell (radius_for (row_for t p) w) (wholes_of w) (point_for (row_for t p) w)

abbrev pub QuantizeWrites : Type 0
QuantizeWrites = (t : List ℕ) (books book p : ℕ) (w : List Float) (out : List ℕ) → quantize_says t books book p w out ≡ 0 ∷ []
    → Quantizes t book p w (quantize_leaves t books book p w out)

-- ---- answers
-- What a place of a good table shows in any book, on any page, by the one definition that reader, coefficient and
-- tally go by.
pub record Answers (mode : ℕ) (t pg : List ℕ) (book p : ℕ) : Type 0 where
  -- a point that is shown, mended or not, has an index below the total of a usable shell
  pub shows : Shows (row_for t p) (judge_at mode t pg book p)
  -- a value v is exactly coordinate x step / 256, and zero is positive zero
  pub exact : Bytes t → (i : ℕ) → IsOver256 (scaled t p (shown (row_for t p) (judge_at mode t pg book p)) i) (value_at mode t pg book p i)

-- tally j is the number of places of the book whose answer is j, and the five sum to the number of places
pub record Tallies (mode : ℕ) (t : List ℕ) (books book : ℕ) (pg : List ℕ) : Type 0 where
  pub counts : List ℕ
  pub said : tally_says mode t books book pg ≡ 0 ∷ counts
  pub each : (j : ℕ) → j < 5 → get_or counts j 0 ≡ count_of (λ (p : ℕ). answer_number (judge_at mode t pg book p)) j (places_in t)
  pub sum : sum_of counts ≡ places_in t

-- ---- all of demand 2
pub record Demand2 : Type 0 where
  pub counts : CountsSum
  pub enumerations : Enumerations
  pub numbering : (v l k : ℕ) → NumbersPoints v l k
  pub bits : BitOfCoordinate
  pub calls_undo : (v l k : ℕ) → selects_none v ≡ false → IsUsable l k ((selected_by v).total l k) → CallsUndo v l k
  pub quantize_writes : QuantizeWrites
  pub answers : (mode : ℕ) (t : List ℕ) → Good t → (pg : List ℕ) (book p : ℕ) → p < places_in t → Answers mode t pg book p
  pub tallies : (mode : ℕ) (t : List ℕ) (books book : ℕ) (pg : List ℕ) → number_said (tally_says mode t books book pg) ≡ 0
      → Tallies mode t books book pg
