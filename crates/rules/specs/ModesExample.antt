-- Both modes on the whole case (docs/RULES.md, "Worked cases") and on a product-product row: what each codeword is
-- judged to be in plain mode, what the readers and the tally say, and refusal 16, first of all.
-- proofs/ModesExample.antt computes every line.
use Rattle.std.specs.Prelude.{ℕ, ◌≡◌, List, [], ◌∷◌, ◌++◌, map, true, false, take, drop, replicate}
use Rattle.std.specs.Float.{binary32}
use Rattle.std.specs.Float.Ieee.{to_bits}
use Rattle.tables.specs.Example.{whole_case, of_places}
use Rattle.rules.specs.Modes.{plain, mending, no_such_mode}
use Rattle.rules.specs.Judging.{judge, reason_or_distance}
use Rattle.rules.specs.Reading.{told, read_says, read_leaves, coefficient_says, coefficient_carries}
use Rattle.rules.specs.Tallying.{tally_says}
use Rattle.rules.specs.TwoModes.{overflows}
use Rattle.rules.specs.Example.{of, held, page, past, mixed, second_twice, damaged, bit_row, zeros, nines}
use Rattle.rules.specs.declared.Judged.{Judged}
use Rattle.rules.specs.declared.Judged.TheVariants as judged
use Rattle.rules.specs.declared.Reason.{Reason}
use Rattle.rules.specs.declared.Reason.TheVariants as reason

-- what codewords of place 0 are judged to be in plain mode, in a row
abbrev pub judged_plain : List ℕ → List ℕ → List Judged
judged_plain row codewords = map (λ (n : ℕ). judge plain row (held (of 0 0 1 n))) codewords

abbrev pub past_end : ℕ → Judged
past_end d = judged.Unreadable (reason.PastEnd d)

-- what is told of an unreadable place
abbrev pub told_for : Reason → List ℕ
told_for why = told (judged.Unreadable why)

-- more faults than one: a table cut short, a page cut short, a place that is not there, and no buffer
abbrev pub bad_table : List ℕ
bad_table = take 15 whole_case

pub record ModesExample : Type 0 where
  -- the whole case, whose total is 18 and b is 5: 6 from 18 to 31, and 14 from 32 on
  pub below : judged_plain whole_case (0 ∷ 17 ∷ []) ≡ judged.Sound 2 0 ∷ judged.Sound 2 17 ∷ []
  pub past_end_lem : judged_plain whole_case (18 ∷ 20 ∷ 31 ∷ []) ≡ past_end 0 ∷ past_end 2 ∷ past_end 13 ∷ []
  pub too_wide_lem : judged_plain whole_case (32 ∷ 33 ∷ []) ≡ replicate 2 (judged.Unreadable reason.TooWide)
  pub radius_0 : judge plain whole_case (held (of 0 0 0 0)) ≡ judged.Sound 0 0
  pub radius_0_wide : judge plain whole_case (held (of 0 0 0 1)) ≡ judged.Unreadable reason.TooWide
  pub no_radius_lem : judge plain whole_case (held (of 0 0 2 20)) ≡ judged.Unreadable reason.NoSuchRadius
  -- the product-product row, whose total is 20 and b is 5: 15 below the total alone, and 6 from 20 to 31, also where
  -- mending leaves an empty shape, as of 28
  pub bits_sound : judged_plain bit_row (11 ∷ 16 ∷ []) ≡ judged.Sound 4 11 ∷ judged.Sound 4 16 ∷ []
  pub bits_empty : judged_plain bit_row (12 ∷ 15 ∷ []) ≡ replicate 2 (judged.Unreadable reason.EmptyShape)
  pub bits_past_end : judged_plain bit_row (20 ∷ 28 ∷ 31 ∷ []) ≡ past_end 0 ∷ past_end 8 ∷ past_end 11 ∷ []
  pub bits_wide : judged_plain bit_row (32 ∷ []) ≡ judged.Unreadable reason.TooWide ∷ []
  -- what is told: 6 has its distance, and the other reasons none
  pub told_10 : told_for reason.NoSuchRadius ≡ 0 ∷ 4 ∷ 10 ∷ []
  pub told_14 : told_for reason.TooWide ≡ 0 ∷ 4 ∷ 14 ∷ []
  pub told_6 : told_for (reason.PastEnd 2) ≡ 0 ∷ 4 ∷ 6 ∷ 2 ∷ []
  pub told_15 : told_for reason.EmptyShape ≡ 0 ∷ 4 ∷ 15 ∷ []
  pub field_6 : reason_or_distance (past_end 2) ≡ 6
  -- read and coefficient in plain mode: sound as in mending, and zeros and no value past the end
  pub plain_sound : read_says plain whole_case 1 0 page 0 nines ≡ 0 ∷ 0 ∷ 0 ∷ []
  pub plain_point : read_leaves plain whole_case 1 0 page 0 nines ≡ read_leaves mending whole_case 1 0 page 0 zeros
  pub plain_says : read_says plain whole_case 1 0 past 1 nines ≡ 0 ∷ 4 ∷ 6 ∷ 2 ∷ []
  pub plain_leaves : read_leaves plain whole_case 1 0 past 1 nines ≡ zeros
  pub plain_value_says : coefficient_says plain whole_case 1 0 past 1 0 ≡ 0 ∷ 4 ∷ 6 ∷ 2 ∷ []
  pub plain_carries : coefficient_carries plain whole_case 1 0 past 1 0 ≡ []
  pub plain_value : map (to_bits binary32) (coefficient_carries plain whole_case 1 0 page 0 2) ≡ 3212836864 ∷ []
  pub plain_contested : read_says plain whole_case 1 0 damaged 0 nines ≡ 0 ∷ 3 ∷ 0 ∷ []
  pub plain_missing : read_says plain whole_case 1 0 (replicate 18 0) 0 nines ≡ 0 ∷ 2 ∷ 0 ∷ []
  -- the tally: the four that are mended in the other mode are unreadable
  pub plain_tally : tally_says plain whole_case 1 0 page ≡ 0 ∷ 1 ∷ 0 ∷ 0 ∷ 0 ∷ 1 ∷ []
  pub plain_mixed : tally_says plain (of_places 0 15) 1 0 mixed ≡ 0 ∷ 5 ∷ 0 ∷ 3 ∷ 2 ∷ 5 ∷ []
  -- 16 before every other refusal; it leaves the buffer and carries no value
  pub read_16 : read_says 2 bad_table 1 0 (take 17 page) 2 [] ≡ 16 ∷ []
  pub read_16_leaves : read_leaves 2 whole_case 1 0 page 0 nines ≡ nines
  pub coefficient_16 : coefficient_says 255 bad_table 1 0 (take 17 page) 2 3 ≡ 16 ∷ []
  pub coefficient_16_carries : coefficient_carries 2 whole_case 1 0 page 0 0 ≡ []
  pub tally_16 : tally_says 3 bad_table 1 0 (take 17 page) ≡ 16 ∷ []
  pub tally_16_12 : tally_says 256 whole_case 1 0 second_twice ≡ 16 ∷ []
  pub modes : map no_such_mode (0 ∷ 1 ∷ 2 ∷ 256 ∷ 4294967296 ∷ 18446744073709551615 ∷ [])
      ≡ false ∷ false ∷ true ∷ true ∷ true ∷ true ∷ []
  -- then 7, and 12 last
  pub plain_7 : read_says plain bad_table 1 0 (take 17 page) 2 [] ≡ 7 ∷ 0 ∷ []
  pub plain_12 : read_says plain whole_case 1 0 second_twice 0 zeros ≡ 12 ∷ []
  -- what overflows: from the total to 2^b - 1, at a radius number of the row, which the same row with one radius has
  -- not, in a held record
  pub overflow_17 : overflows whole_case (held (of 0 0 1 17)) ≡ false
  pub overflow_18 : overflows whole_case (held (of 0 0 1 18)) ≡ true
  pub overflow_31 : overflows whole_case (held (of 0 0 1 31)) ≡ true
  pub overflow_32 : overflows whole_case (held (of 0 0 1 32)) ≡ false
  pub overflow_no_radius : overflows (take 1 whole_case ++ 1 ∷ drop 2 whole_case) (held (of 0 0 1 18)) ≡ false
  pub overflow_empty : overflows whole_case (record { state = 0; bytes = of 0 0 1 18 }) ≡ false
  pub overflow_contested : overflows whole_case (record { state = 2; bytes = of 0 0 1 18 }) ≡ false
