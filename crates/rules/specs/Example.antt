-- The whole case (docs/RULES.md, "Worked cases"), taken, read and tallied by the definitions, and single cells of
-- its table: length 3, radii 0 and 2, so that N is 18 and b is 5; and cells of a product-product row. Pages are
-- written out byte for byte, a state and a record for each place, and so is what is said. proofs/Example.antt computes
-- every line. What is read here is read in mending mode; specs/ModesExample.antt has both modes.
use Rattle.std.specs.Prelude.{ℕ, ◌≡◌, List, [], ◌∷◌, ◌++◌, map, true, false, ℤ, pos, negsuc, take, drop, replicate}
use Rattle.std.specs.Float.{binary32}
use Rattle.std.specs.Float.Ieee.{to_bits}
use Rattle.tables.specs.Example.{whole_case, of_places, of_shell}
use Rattle.layout.specs.Layout.{Cell, empty_page}
use Rattle.rules.specs.Taking.{claims, bad_cell, take_says, take_leaves, collected}
use Rattle.rules.specs.Modes.{mending}
use Rattle.rules.specs.Judging.{judge, reason_or_distance}
use Rattle.rules.specs.Reading.{read_says, read_leaves, coefficient_says, coefficient_carries}
use Rattle.rules.specs.Tallying.{tally_says}
use Rattle.rules.specs.declared.Judged.{Judged}
use Rattle.rules.specs.declared.Judged.TheVariants as judged
use Rattle.rules.specs.declared.Reason.TheVariants as reason

-- a record of that table: place, row, radius number, and the last byte of the codeword
abbrev pub of : ℕ → ℕ → ℕ → ℕ → List ℕ
of place row number codeword = 0 ∷ place ∷ row ∷ number ∷ 0 ∷ 0 ∷ 0 ∷ codeword ∷ []

-- a cell with the state 1
abbrev pub held : List ℕ → Cell
held y = record { state = 1; bytes = y }

-- the two records, one that differs from the first in its last byte, and the page that holds the two
abbrev pub first : List ℕ
first = of 0 0 1 5

abbrev pub second : List ℕ
second = of 1 0 1 18

abbrev pub other : List ℕ
other = of 0 0 1 7

abbrev pub page : List ℕ
page = 1 ∷ first ++ 1 ∷ second

-- the first record, and one whose codeword is 2 past the end
abbrev pub past : List ℕ
past = 1 ∷ first ++ 1 ∷ of 1 0 1 20

-- the row of the whole case twice: places 0 and 1 are in row 0, places 2 and 3 in row 1; and a page of it that holds
-- a record of place 1 and one of place 2
abbrev pub rows_0_1 : List ℕ
rows_0_1 = whole_case ++ whole_case

abbrev pub inner_two : List ℕ
inner_two = replicate 9 0 ++ 1 ∷ of 1 0 1 5 ++ 1 ∷ of 2 1 1 7 ++ replicate 9 0

-- pages at fault: in the cell of place 1 a record with the row of place 2, and the other way round
abbrev pub row_above : List ℕ
row_above = replicate 9 0 ++ 1 ∷ of 1 1 1 5 ++ replicate 18 0

abbrev pub row_below : List ℕ
row_below = replicate 18 0 ++ 1 ∷ of 2 0 1 7 ++ replicate 9 0

-- the record of place 0 in both cells, that of place 1 in both, and a state of 3
abbrev pub first_twice : List ℕ
first_twice = 1 ∷ first ++ 1 ∷ first

abbrev pub second_twice : List ℕ
second_twice = 1 ∷ second ++ 1 ∷ second

abbrev pub state_3 : List ℕ
state_3 = 3 ∷ first ++ 1 ∷ second

-- bytes in an empty and in a contested cell
abbrev pub garbled : List ℕ
garbled = 0 ∷ replicate 8 7 ++ 2 ∷ replicate 8 9

-- a contested cell, and one that cannot be read
abbrev pub damaged : List ℕ
damaged = 2 ∷ replicate 8 0 ++ 1 ∷ of 1 0 1 32

-- 15 places: five sound, four mended, three missing, two contested and one unreadable
abbrev pub mixed : List ℕ
mixed =
    1 ∷ of 0 0 1 5
    ++ 1 ∷ of 1 0 1 18
    ++ replicate 9 0
    ++ 2 ∷ replicate 8 0
    ++ 1 ∷ of 4 0 1 32
    ++ 1 ∷ of 5 0 0 0
    ++ 1 ∷ of 6 0 1 31
    ++ replicate 9 0
    ++ 2 ∷ replicate 8 0
    ++ 1 ∷ of 9 0 1 0
    ++ 1 ∷ of 10 0 1 19
    ++ replicate 9 0
    ++ 1 ∷ of 12 0 1 17
    ++ 1 ∷ of 13 0 1 20
    ++ 1 ∷ of 14 0 1 1

-- the same row with a step of 3 x 256 + 7
abbrev pub step_775 : List ℕ
step_775 = take 10 whole_case ++ 3 ∷ 7 ∷ drop 12 whole_case

-- Length 2, radii 0 and 4: a row of the product enumeration, with 16 points, and one of the product-product
-- enumeration, with 20 indices. Places 0 and 1 are in the first row, places 2 and 3 in the second. The page holds the
-- codeword 12 at place 1 and at place 2.
abbrev pub bit_row : List ℕ
bit_row = of_shell 2 2 4

abbrev pub fields : List ℕ
fields = of_shell 0 2 4 ++ bit_row

abbrev pub twelves : List ℕ
twelves = replicate 9 0 ++ 1 ∷ of 1 0 1 12 ++ 1 ∷ of 2 1 1 12 ++ replicate 9 0

-- what the codewords of place 0 are judged to be in the product-product row
abbrev pub judged_bits : List ℕ → List Judged
judged_bits codewords = map (λ (n : ℕ). judge mending bit_row (held (of 0 0 1 n))) codewords

abbrev pub zeros : List ℤ
zeros = replicate 3 (pos 0)

abbrev pub nines : List ℤ
nines = replicate 3 (pos 9)

pub record Example : Type 0 where
  -- ---- taking
  -- the run of the two records, and a shorter last part
  pub empty_page_lem : empty_page 2 ≡ replicate 18 0
  pub taken_whole : collected whole_case 1 (replicate 18 0) (first ++ second) ≡ record { page = page; refused = 0 }
  pub taken : collected whole_case 1 (replicate 18 0) (first ++ second ++ take 7 first) ≡ record { page = page; refused = 1 }
  pub taken_1_byte : collected whole_case 1 (replicate 18 0) (first ++ second ++ take 1 first) ≡ record { page = page; refused = 1 }
  -- what claims a place: 8 bytes that name the place and its row, whatever else they hold, if it is in the table
  pub claims_own : claims whole_case 1 first 0 0 ≡ true
  pub claims_other_fields : claims whole_case 1 (of 0 0 9 255) 0 0 ≡ true
  pub claims_row_above : claims whole_case 1 (of 0 1 1 5) 0 0 ≡ false
  pub claims_last_of_row : claims rows_0_1 1 (of 1 0 1 5) 0 1 ≡ true
  pub claims_row_of_next : claims rows_0_1 1 (of 1 1 1 5) 0 1 ≡ false
  pub claims_first_of_row : claims rows_0_1 1 (of 2 1 1 5) 0 2 ≡ true
  pub claims_row_before : claims rows_0_1 1 (of 2 0 1 5) 0 2 ≡ false
  pub claims_another : claims whole_case 1 first 0 1 ≡ false
  pub claims_short : claims whole_case 1 (take 7 first) 0 0 ≡ false
  pub claims_long : claims whole_case 1 (first ++ 0 ∷ []) 0 0 ≡ false
  pub claims_beyond : claims whole_case 1 (of 2 0 1 5) 0 2 ≡ false
  -- again, and another: held stays, then contested, its 8 bytes zero; then it stays
  pub again : take_leaves whole_case 1 page first ≡ page
  pub differs : take_leaves whole_case 1 page other ≡ 2 ∷ 0 ∷ 0 ∷ 0 ∷ 0 ∷ 0 ∷ 0 ∷ 0 ∷ 0 ∷ 1 ∷ second
  pub contested_stays : take_leaves whole_case 1 damaged first ≡ damaged
  -- an empty cell is empty whatever stands in it, and a contested one keeps what stands in it; neither is refused
  pub garbage : take_leaves whole_case 1 garbled first ≡ 1 ∷ first ++ 2 ∷ replicate 8 9
  pub garbage_says : take_says whole_case 1 garbled first ≡ 0 ∷ []
  pub garbage_stays : take_leaves whole_case 1 garbled second ≡ garbled
  pub garbage_taken : take_says whole_case 1 garbled second ≡ 0 ∷ []
  -- refusal 12 for the cell of place 0, in row 0: a state above 2, and a record of place 1 or of row 1, which a
  -- contested cell may hold
  pub bad_state : bad_cell 0 0 0 (record { state = 3; bytes = first }) ≡ true
  pub bad_place : bad_cell 0 0 0 (held second) ≡ true
  pub bad_row_lem : bad_cell 0 0 0 (held (of 0 1 1 5)) ≡ true
  pub own_place : bad_cell 0 0 0 (held first) ≡ false
  pub own_row : bad_cell 0 2 1 (held (of 2 1 1 7)) ≡ false
  pub not_held : bad_cell 0 0 0 (record { state = 2; bytes = of 1 1 1 18 }) ≡ false
  -- a record with no such radius number and a huge codeword is taken all the same
  pub other_fields : take_leaves whole_case 1 (replicate 18 0) (of 0 0 9 255) ≡ 1 ∷ of 0 0 9 255 ++ replicate 9 0
  -- each place of two rows takes its own row, and a foreign one changes nothing: neither an empty cell nor a held one
  pub each_row : collected rows_0_1 1 (replicate 36 0) (of 1 0 1 5 ++ of 2 1 1 7) ≡ record { page = inner_two; refused = 0 }
  pub foreign : collected rows_0_1 1 (replicate 36 0) (of 1 1 1 5 ++ of 2 0 1 7) ≡ record { page = replicate 36 0; refused = 2 }
  pub foreign_beside : collected rows_0_1 1 inner_two (of 1 1 1 5 ++ of 2 0 1 7) ≡ record { page = inner_two; refused = 2 }
  -- ---- reading
  pub sound_says_lem : read_says mending whole_case 1 0 page 0 zeros ≡ 0 ∷ 0 ∷ 0 ∷ []
  pub sound_leaves : read_leaves mending whole_case 1 0 page 0 zeros ≡ pos 1 ∷ pos 0 ∷ negsuc 0 ∷ []
  pub mended_says_lem : read_says mending whole_case 1 0 page 1 zeros ≡ 0 ∷ 1 ∷ 0 ∷ 0 ∷ []
  pub mended_leaves : read_leaves mending whole_case 1 0 page 1 zeros ≡ pos 0 ∷ negsuc 0 ∷ pos 1 ∷ []
  pub past_says_lem : read_says mending whole_case 1 0 past 1 zeros ≡ 0 ∷ 1 ∷ 0 ∷ 2 ∷ []
  pub past_leaves : read_leaves mending whole_case 1 0 past 1 zeros ≡ pos 1 ∷ pos 0 ∷ pos 1 ∷ []
  -- the other three write zeros into a buffer of nines; so do an empty and a contested cell with bytes in them
  pub missing_says : read_says mending whole_case 1 0 (replicate 18 0) 1 nines ≡ 0 ∷ 2 ∷ 0 ∷ []
  pub missing_leaves : read_leaves mending whole_case 1 0 (replicate 18 0) 1 nines ≡ zeros
  pub contested_says : read_says mending whole_case 1 0 damaged 0 nines ≡ 0 ∷ 3 ∷ 0 ∷ []
  pub contested_leaves : read_leaves mending whole_case 1 0 damaged 0 nines ≡ zeros
  pub unreadable_says : read_says mending whole_case 1 0 damaged 1 nines ≡ 0 ∷ 4 ∷ 14 ∷ []
  pub unreadable_leaves : read_leaves mending whole_case 1 0 damaged 1 nines ≡ zeros
  pub garbage_missing : read_says mending whole_case 1 0 garbled 0 nines ≡ 0 ∷ 2 ∷ 0 ∷ []
  pub garbage_contested : read_says mending whole_case 1 0 garbled 1 nines ≡ 0 ∷ 3 ∷ 0 ∷ []
  -- codewords: N - 1, N, 2 more, 2^b - 1, 2^b; at radius 0, where b is 0, 0 and 1
  pub codeword_17 : judge mending whole_case (held (of 0 0 1 17)) ≡ judged.Sound 2 17
  pub codeword_18 : judge mending whole_case (held (of 0 0 1 18)) ≡ judged.Mended 2 2 0
  pub codeword_20 : judge mending whole_case (held (of 0 0 1 20)) ≡ judged.Mended 2 4 2
  pub codeword_31 : judge mending whole_case (held (of 0 0 1 31)) ≡ judged.Mended 2 15 13
  pub codeword_32 : judge mending whole_case (held (of 0 0 1 32)) ≡ judged.Unreadable reason.TooWide
  pub codeword_0_0 : judge mending whole_case (held (of 0 0 0 0)) ≡ judged.Sound 0 0
  pub codeword_0_1 : judge mending whole_case (held (of 0 0 0 1)) ≡ judged.Unreadable reason.TooWide
  -- codewords of the product-product row, whose total is 20 and b is 5: up to 11, and from 16 on, an index names a
  -- point; 12 to 15 have an empty shape, and so have those that mend to them
  pub bits_sound : judged_bits (11 ∷ 16 ∷ 19 ∷ []) ≡ judged.Sound 4 11 ∷ judged.Sound 4 16 ∷ judged.Sound 4 19 ∷ []
  pub bits_empty : judged_bits (12 ∷ 13 ∷ 14 ∷ 15 ∷ []) ≡ replicate 4 (judged.Unreadable reason.EmptyShape)
  pub bits_mended : judged_bits (20 ∷ 27 ∷ []) ≡ judged.Mended 4 4 0 ∷ judged.Mended 4 11 7 ∷ []
  pub bits_mended_empty : judged_bits (28 ∷ 29 ∷ 30 ∷ 31 ∷ []) ≡ replicate 4 (judged.Unreadable reason.EmptyShape)
  pub bits_wide : judged_bits (32 ∷ 44 ∷ []) ≡ replicate 2 (judged.Unreadable reason.TooWide)
  pub bits_radius_0 : judge mending bit_row (held (of 0 0 0 0)) ≡ judged.Sound 0 0
  -- each row is read by its own enumeration: 12 is (0,4) in the first, and has an empty shape in the second
  pub product_says : read_says mending fields 1 0 twelves 1 (take 2 nines) ≡ 0 ∷ 0 ∷ 0 ∷ []
  pub product_leaves : read_leaves mending fields 1 0 twelves 1 (take 2 nines) ≡ pos 0 ∷ pos 4 ∷ []
  pub empty_says_lem : read_says mending fields 1 0 twelves 2 (take 2 nines) ≡ 0 ∷ 4 ∷ 15 ∷ []
  pub empty_leaves : read_leaves mending fields 1 0 twelves 2 (take 2 nines) ≡ take 2 zeros
  pub coefficient_empty : coefficient_says mending fields 1 0 twelves 2 1 ≡ 0 ∷ 4 ∷ 15 ∷ []
  pub empty_carries : coefficient_carries mending fields 1 0 twelves 2 1 ≡ []
  pub tallied_empty : tally_says mending fields 1 0 twelves ≡ 0 ∷ 1 ∷ 0 ∷ 2 ∷ 0 ∷ 1 ∷ []
  -- the reason or the distance in one field
  pub field_sound : reason_or_distance (judged.Sound 2 17) ≡ 0
  pub field_mended : reason_or_distance (judged.Mended 2 4 2) ≡ 2
  pub field_missing : reason_or_distance judged.Missing ≡ 0
  pub field_contested : reason_or_distance judged.Contested ≡ 0
  pub field_unreadable : reason_or_distance (judged.Unreadable reason.TooWide) ≡ 14
  -- the reasons in their order; what row a record names is not asked here
  pub reason_10 : judge mending whole_case (held (of 0 0 2 99)) ≡ judged.Unreadable reason.NoSuchRadius
  pub any_row : judge mending whole_case (held (of 0 1 1 5)) ≡ judged.Sound 2 5
  -- ---- one coefficient: 1.0, 0.0 and -1.0; with a step of 775 over 256 the mended ones are 0.0, -3.02734375 and
  -- 3.02734375
  pub coefficient_sound : coefficient_says mending whole_case 1 0 page 0 0 ≡ 0 ∷ 0 ∷ 0 ∷ []
  pub values_0 : map (to_bits binary32) (coefficient_carries mending whole_case 1 0 page 0 0) ≡ 1065353216 ∷ []
  pub values_1 : map (to_bits binary32) (coefficient_carries mending whole_case 1 0 page 0 1) ≡ 0 ∷ []
  pub values_2 : map (to_bits binary32) (coefficient_carries mending whole_case 1 0 page 0 2) ≡ 3212836864 ∷ []
  pub coefficient_mended : coefficient_says mending step_775 1 0 page 1 1 ≡ 0 ∷ 1 ∷ 0 ∷ 0 ∷ []
  pub coefficient_past : coefficient_says mending step_775 1 0 past 1 1 ≡ 0 ∷ 1 ∷ 0 ∷ 2 ∷ []
  pub scaled_0 : map (to_bits binary32) (coefficient_carries mending step_775 1 0 page 1 0) ≡ 0 ∷ []
  pub scaled_1 : map (to_bits binary32) (coefficient_carries mending step_775 1 0 page 1 1) ≡ 3225534464 ∷ []
  pub scaled_2 : map (to_bits binary32) (coefficient_carries mending step_775 1 0 page 1 2) ≡ 1078050816 ∷ []
  -- the other three carry none
  pub coefficient_missing : coefficient_says mending whole_case 1 0 (replicate 18 0) 0 2 ≡ 0 ∷ 2 ∷ 0 ∷ []
  pub missing_carries : coefficient_carries mending whole_case 1 0 (replicate 18 0) 0 2 ≡ []
  pub coefficient_contested : coefficient_says mending whole_case 1 0 damaged 0 2 ≡ 0 ∷ 3 ∷ 0 ∷ []
  pub contested_carries : coefficient_carries mending whole_case 1 0 damaged 0 2 ≡ []
  pub coefficient_unreadable : coefficient_says mending whole_case 1 0 damaged 1 2 ≡ 0 ∷ 4 ∷ 14 ∷ []
  pub unreadable_carries : coefficient_carries mending whole_case 1 0 damaged 1 2 ≡ []
  -- ---- the tally: sound, mended, missing, contested, unreadable
  pub tallied : tally_says mending whole_case 1 0 page ≡ 0 ∷ 1 ∷ 1 ∷ 0 ∷ 0 ∷ 0 ∷ []
  pub tallied_mixed : tally_says mending (of_places 0 15) 1 0 mixed ≡ 0 ∷ 5 ∷ 4 ∷ 3 ∷ 2 ∷ 1 ∷ []
  -- ---- refusals of take: 7, 4, 8, 9, 12; with two faults at once, the first is told
  pub take_7 : take_says (take 15 whole_case) 1 (take 17 page) (take 7 first) ≡ 7 ∷ 0 ∷ []
  pub take_4_short : take_says whole_case 1 page (take 7 (of 2 0 1 5)) ≡ 4 ∷ []
  pub take_4_long : take_says whole_case 1 page (first ++ 0 ∷ []) ≡ 4 ∷ []
  pub take_4_page_short : take_says whole_case 1 (take 17 page) (of 2 0 1 5) ≡ 4 ∷ []
  pub take_4_page_long : take_says whole_case 1 (page ++ 0 ∷ []) first ≡ 4 ∷ []
  pub take_8 : take_says whole_case 1 page (of 2 0 1 5) ≡ 8 ∷ []
  pub take_8_high : take_says whole_case 1 page (1 ∷ drop 1 first) ≡ 8 ∷ []
  pub take_4_then_9 : take_says whole_case 1 page (take 7 (of 0 1 1 5)) ≡ 4 ∷ []
  pub take_8_any_row : take_says whole_case 1 page (of 2 1 1 5) ≡ 8 ∷ []
  -- 9 for a row above and below that of the record's own place, before 12 of its cell
  pub take_9_above : take_says rows_0_1 1 inner_two (of 1 1 1 5) ≡ 9 ∷ []
  pub take_9_below : take_says rows_0_1 1 inner_two (of 2 0 1 7) ≡ 9 ∷ []
  pub take_9_high : take_says whole_case 1 page (of 0 255 1 5) ≡ 9 ∷ []
  pub take_9_then_12 : take_says whole_case 1 state_3 (of 0 1 1 5) ≡ 9 ∷ []
  pub take_last_of_row : take_says rows_0_1 1 inner_two (of 1 0 1 5) ≡ 0 ∷ []
  pub take_first_of_row : take_says rows_0_1 1 inner_two (of 2 1 1 7) ≡ 0 ∷ []
  -- 12 at the record's own place: a held record of a higher and of a lower place, one whose place differs in the
  -- high byte, one of a higher and of a lower row, and a state above 2
  pub take_12_higher : take_says whole_case 1 second_twice first ≡ 12 ∷ []
  pub take_12_lower : take_says whole_case 1 first_twice second ≡ 12 ∷ []
  pub take_12_high : take_says whole_case 1 (1 ∷ 1 ∷ drop 1 first ++ 1 ∷ second) first ≡ 12 ∷ []
  pub take_12_row_above : take_says rows_0_1 1 row_above (of 1 0 1 5) ≡ 12 ∷ []
  pub take_12_row_below : take_says rows_0_1 1 row_below (of 2 1 1 7) ≡ 12 ∷ []
  pub take_12_state : take_says whole_case 1 state_3 first ≡ 12 ∷ []
  pub take_beside_it : take_says whole_case 1 second_twice second ≡ 0 ∷ []
  -- ---- of read: 7, 8, 4, 12
  pub read_7 : read_says mending (take 15 whole_case) 1 0 (take 17 page) 2 [] ≡ 7 ∷ 0 ∷ []
  pub read_8 : read_says mending whole_case 1 0 page 2 zeros ≡ 8 ∷ []
  pub read_8_first : read_says mending whole_case 1 0 (take 17 page) 2 [] ≡ 8 ∷ []
  pub read_4_page_short : read_says mending whole_case 1 0 (take 17 second_twice) 0 zeros ≡ 4 ∷ []
  pub read_4_page_long : read_says mending whole_case 1 0 (page ++ 0 ∷ []) 0 zeros ≡ 4 ∷ []
  pub read_4_short : read_says mending whole_case 1 0 second_twice 0 (take 2 zeros) ≡ 4 ∷ []
  pub read_4_long : read_says mending whole_case 1 0 page 0 (pos 0 ∷ zeros) ≡ 4 ∷ []
  pub read_12 : read_says mending whole_case 1 0 second_twice 0 zeros ≡ 12 ∷ []
  pub read_12_row_above : read_says mending rows_0_1 1 0 row_above 1 zeros ≡ 12 ∷ []
  pub read_12_row_below : read_says mending rows_0_1 1 0 row_below 2 zeros ≡ 12 ∷ []
  pub read_each_row : read_says mending rows_0_1 1 0 inner_two 2 zeros ≡ 0 ∷ 0 ∷ 0 ∷ []
  pub read_12_leaves : read_leaves mending whole_case 1 0 second_twice 0 nines ≡ nines
  -- ---- of one coefficient: 7, 8, 4, 13, 12; 13 at a missing place too
  pub coefficient_7 : coefficient_says mending (take 15 whole_case) 1 0 (take 17 page) 2 3 ≡ 7 ∷ 0 ∷ []
  pub coefficient_8 : coefficient_says mending whole_case 1 0 (take 17 page) 2 3 ≡ 8 ∷ []
  pub coefficient_4 : coefficient_says mending whole_case 1 0 (take 17 second_twice) 0 3 ≡ 4 ∷ []
  pub coefficient_13 : coefficient_says mending whole_case 1 0 second_twice 0 3 ≡ 13 ∷ []
  pub coefficient_13_missing : coefficient_says mending whole_case 1 0 (replicate 18 0) 0 3 ≡ 13 ∷ []
  pub coefficient_12 : coefficient_says mending whole_case 1 0 second_twice 0 2 ≡ 12 ∷ []
  pub coefficient_12_row : coefficient_says mending rows_0_1 1 0 row_below 2 0 ≡ 12 ∷ []
  pub refused_carries : coefficient_carries mending whole_case 1 0 second_twice 0 2 ≡ []
  -- ---- of the tally: 7, 4, 12 with the lowest place
  pub tally_7 : tally_says mending (take 15 whole_case) 1 0 (take 17 page) ≡ 7 ∷ 0 ∷ []
  pub tally_4 : tally_says mending whole_case 1 0 (take 17 state_3) ≡ 4 ∷ []
  pub tally_4_long : tally_says mending whole_case 1 0 (page ++ 0 ∷ []) ≡ 4 ∷ []
  pub tally_12 : tally_says mending whole_case 1 0 first_twice ≡ 12 ∷ 1 ∷ []
  pub tally_12_row_above : tally_says mending rows_0_1 1 0 row_above ≡ 12 ∷ 1 ∷ []
  pub tally_12_row_below : tally_says mending rows_0_1 1 0 row_below ≡ 12 ∷ 2 ∷ []
  pub tally_each_row : tally_says mending rows_0_1 1 0 inner_two ≡ 0 ∷ 2 ∷ 0 ∷ 2 ∷ 0 ∷ 0 ∷ []
  pub tally_12_lowest : tally_says mending whole_case 1 0 (3 ∷ first ++ 3 ∷ second) ≡ 12 ∷ 0 ∷ []
