-- Demand 3 on the whole case (docs/RULES.md, "Worked cases"), so that nobody can call it empty. For c and d the
-- vector (1.5, 0, -0.75) is sent for place 0, and what arrives is the record of place 1, a record cut short, the
-- record sent, a record of no place, and the record sent once more. Every premise of the two theorems holds there,
-- and what the readers answer is computed.
use Rattle.std.specs.Prelude.{ℕ, ◌/◌, ◌^◌, ◌<◌, ◌≡◌, true, ℤ, pos, negsuc, take}
use mathlib.Core.List.{List, [], ◌∷◌, map, Memᴰ}
use Rattle.std.specs.Float.{binary32}
use Rattle.std.specs.Float.Ieee.{to_bits}
use Rattle.enumeration.specs.Point.{nonzeros_in}
use Rattle.enumeration.specs.Signs.{flipped, signs_lowest}
use Rattle.tables.specs.Example.{whole_case}
use Rattle.tables.specs.Row.{selector_of}
use Rattle.tables.specs.Table.{row_for, enumeration_for}
use Rattle.coefficients.specs.Example.{vector}
use Rattle.rules.specs.Example.{of, first, second, other, page, zeros}
use Rattle.rules.specs.Modes.{plain, mending}
use Rattle.rules.specs.Taking.{grown, AllEqual}
use Rattle.rules.specs.Reading.{read_says, read_leaves, coefficient_carries}
use Rattle.channel.specs.Demand3.{Bytes, ShowsPoint, Sent, with_codeword, PageSent}

-- the point of the vector, and the point with the first coordinate negated
abbrev pub sent : List ℤ
sent = pos 1 ∷ pos 0 ∷ negsuc 0 ∷ []

abbrev pub turned : List ℤ
turned = negsuc 0 ∷ pos 0 ∷ negsuc 0 ∷ []

-- what arrives, r being the record of place 0
abbrev pub arrivals : List ℕ → List (List ℕ)
arrivals r = second ∷ take 7 r ∷ r ∷ of 2 0 1 5 ∷ r ∷ []

-- r is among them, all that claim place 0 are equal to r, and reading it gives the point q, sound in both modes
pub record Read (r : List ℕ) (q : List ℤ) : Type 0 where
  pub among : Memᴰ r (arrivals r)
  pub equal : AllEqual whole_case 1 (arrivals r) 0 0 r
  pub says : read_says mending whole_case 1 0 (grown whole_case 1 (arrivals r)) 0 zeros ≡ 0 ∷ 0 ∷ 0 ∷ []
  pub says_plain : read_says plain whole_case 1 0 (grown whole_case 1 (arrivals r)) 0 zeros ≡ 0 ∷ 0 ∷ 0 ∷ []
  pub leaves : read_leaves mending whole_case 1 0 (grown whole_case 1 (arrivals r)) 0 zeros ≡ q
  pub leaves_plain : read_leaves plain whole_case 1 0 (grown whole_case 1 (arrivals r)) 0 zeros ≡ q

pub record Witness : Type 0 where
  -- c: the record of the whole case is the one that quantize leaves, and (1, 0, -1) is read, the last coefficient
  -- as -1.0
  pub is_sent : Sent whole_case 1 0 0 vector first sent
  pub is_read : Read first sent
  pub its_value : map (to_bits binary32) (coefficient_carries plain whole_case 1 0 (grown whole_case 1 (arrivals first)) 0 2) ≡ 3212836864 ∷ []
  -- d: with bit 1 of its codeword changed, which makes 7 of 5, (-1, 0, -1) is read
  pub low_bits : (enumeration_for whole_case 0).index sent / 2 ^ nonzeros_in sent ≡ 7 / 2 ^ nonzeros_in sent
  pub signs_are_lowest : signs_lowest (selector_of (row_for whole_case 0)) ≡ true
  pub is_changed : with_codeword first 7 ≡ other
  pub is_turned : flipped ((enumeration_for whole_case 0).index sent) 7 sent ≡ turned
  pub turned_read : Read other turned
  -- e: a sound place meets the premise in both modes, and a mended one in its own
  pub shows_sound : ShowsPoint (read_says mending whole_case 1 0 page 0 zeros)
  pub shows_plain : ShowsPoint (read_says plain whole_case 1 0 page 0 zeros)
  pub shows_mended : ShowsPoint (read_says mending whole_case 1 0 page 1 zeros)
  -- a table may hold every byte
  pub any_byte : (n : ℕ) → n < 256 → Bytes (n ∷ [])
  -- the demand of a whole page: the same vector, sent for every place of the table
  pub page_sent : PageSent whole_case 1 (λ b p. vector) (λ b p. of p 0 1 5) (λ b p. sent)
