-- The table of single values about the definitions: docs/RULES.md, "Worked cases", its starred cases, a line each,
-- with other values of the rules. proofs/Proved.antt computes every line.
use Rattle.std.specs.Prelude.{ℕ, ◌^◌, ◌≡◌, true, false, List, [], ◌∷◌, ◌++◌, map, Float, ℤ, pos, negsuc, neg_ℤ, take, replicate}
use Rattle.std.specs.Int.Bits.{bit_xor}
use Rattle.std.specs.Float.{nan, fin}
use Rattle.counts.specs.Counts.{N}
use Rattle.counts.specs.Width.{width}
use Rattle.shell.specs.Shell.{count_says}
use Rattle.enumeration.specs.Enumerations.{selected_by}
use Rattle.enumeration.specs.Example.{triple}
use Rattle.layout.specs.Layout.{Cell}
use Rattle.rules.specs.Modes.{plain, mending}
use Rattle.rules.specs.Judging.{judge}
use Rattle.rules.specs.declared.Judged.TheVariants as judged
use Rattle.rules.specs.declared.Reason.TheVariants as reason
use Rattle.tables.specs.Example.{whole_case, two_rows, of_shell}
use Rattle.tables.specs.Table.{row_at}
use Rattle.indexing.specs.Calls.{index_says, point_says, point_leaves}
use Rattle.coding.specs.Coded.{point_for}
use Rattle.quantizer.specs.Calls.{quantize_says, quantize_leaves}
use Rattle.coefficients.specs.Example.{vector}
use Rattle.coefficients.specs.Radius.{chosen_radius}
use Rattle.coefficients.specs.Points.{wholes_of, point_of}
use Rattle.sharing.specs.Nearest.{sum_of_squares}

-- a lent record
abbrev held : List ℕ
held = replicate 8 9

-- the vector of the worked case with two zeros behind it
abbrev longer : List Float
longer = vector ++ fin false 0 (pos 0) ∷ fin true 0 (pos 0) ∷ []

-- a lent buffer of three coordinates
abbrev buffer : List ℤ
buffer = triple (pos 9) (pos 9) (pos 9)

-- a row of length 2 and radii 0 and 4 with selector 2, and a cell of place 0 with a codeword of radius 4
abbrev bit_row : List ℕ
bit_row = of_shell 2 2 4

abbrev held_codeword : ℕ → Cell
held_codeword n = record { state = 1; bytes = 0 ∷ 0 ∷ 0 ∷ 1 ∷ 0 ∷ 0 ∷ 0 ∷ n ∷ [] }

pub record Table : Type 0 where
  -- * length 3, radius 2
  pub star_index_0 : index_says 0 3 2 (triple (pos 0) (pos 1) (pos 1)) ≡ 0 ∷ 0 ∷ []
  pub star_index_5 : index_says 0 3 2 (triple (pos 1) (pos 0) (neg_ℤ (pos 1))) ≡ 0 ∷ 5 ∷ []
  pub star_index_11 : index_says 0 3 2 (triple (neg_ℤ (pos 1)) (neg_ℤ (pos 1)) (pos 0)) ≡ 0 ∷ 11 ∷ []
  pub star_index_12 : index_says 0 3 2 (triple (pos 0) (pos 0) (pos 2)) ≡ 0 ∷ 12 ∷ []
  pub star_index_17 : index_says 0 3 2 (triple (neg_ℤ (pos 2)) (pos 0) (pos 0)) ≡ 0 ∷ 17 ∷ []
  pub star_point_18 : point_says 0 3 2 18 buffer ≡ 6 ∷ 0 ∷ []
  pub star_point_20 : point_says 0 3 2 20 buffer ≡ 6 ∷ 2 ∷ []
  pub buffer_kept : point_leaves 0 3 2 18 buffer ≡ buffer
  -- * the same by the magnitude enumeration: (1,0,-1) is 9
  pub star_magnitude_9 : index_says 1 3 2 (triple (pos 1) (pos 0) (neg_ℤ (pos 1))) ≡ 0 ∷ 9 ∷ []
  pub magnitude_point_9 : point_leaves 1 3 2 9 buffer ≡ triple (pos 1) (pos 0) (neg_ℤ (pos 1))
  pub magnitude_point_18 : point_says 1 3 2 18 buffer ≡ 6 ∷ 0 ∷ []
  pub magnitude_point_20 : point_says 1 3 2 20 buffer ≡ 6 ∷ 2 ∷ []
  -- * length 2, radius 4 by the product-product enumeration: total 20, b = 5; 12 to 15 have an empty shape, and 28
  -- mends to 12
  pub star_bits_total : (selected_by 2).total 2 4 ≡ 20
  pub star_bits_width : width ((selected_by 2).total 2 4) ≡ 5
  pub star_bits_12_to_15 : map (λ (n : ℕ). judge mending bit_row (held_codeword n)) (12 ∷ 13 ∷ 14 ∷ 15 ∷ []) ≡ replicate 4 (judged.Unreadable reason.EmptyShape)
  pub star_bits_28 : judge mending bit_row (held_codeword 28) ≡ judged.Unreadable reason.EmptyShape
  -- in plain mode 28 is 8 past the end, and 12 has an empty shape all the same
  pub plain_bits_28 : judge plain bit_row (held_codeword 28) ≡ judged.Unreadable (reason.PastEnd 8)
  pub plain_bits_12 : judge plain bit_row (held_codeword 12) ≡ judged.Unreadable reason.EmptyShape
  pub bits_27 : judge mending bit_row (held_codeword 27) ≡ judged.Mended 4 11 7
  pub bits_16 : judge mending bit_row (held_codeword 16) ≡ judged.Sound 4 16
  pub bits_index_16 : index_says 2 2 4 (pos 0 ∷ pos 4 ∷ []) ≡ 0 ∷ 16 ∷ []
  pub bits_point_11 : point_leaves 2 2 4 11 (take 2 buffer) ≡ neg_ℤ (pos 3) ∷ neg_ℤ (pos 1) ∷ []
  pub bits_point_12 : point_says 2 2 4 12 (take 2 buffer) ≡ 15 ∷ []
  pub bits_point_28 : point_says 2 2 4 28 (take 2 buffer) ≡ 6 ∷ 8 ∷ []
  pub point_17 : point_leaves 0 3 2 17 buffer ≡ triple (neg_ℤ (pos 2)) (pos 0) (pos 0)
  -- refusals 1 to 6 in their order, with two faults at once: 3 before 4, 4 before 5 and 6, a vector or buffer that
  -- is too short or too long
  pub index_3 : index_says 0 16 13 [] ≡ 3 ∷ []
  pub index_4_short : index_says 0 3 2 (pos 1 ∷ []) ≡ 4 ∷ []
  pub index_4_long : index_says 0 3 2 (pos 1 ∷ triple (pos 0) (pos 1) (pos 1)) ≡ 4 ∷ []
  pub index_5_less : index_says 0 3 2 (triple (pos 0) (pos 0) (pos 1)) ≡ 5 ∷ []
  pub index_5_more : index_says 0 3 2 (triple (pos 1) (pos 1) (pos 1)) ≡ 5 ∷ []
  pub point_3 : point_says 0 16 13 0 [] ≡ 3 ∷ []
  pub point_4_short : point_says 0 3 2 18 (take 2 buffer) ≡ 4 ∷ []
  pub point_4_long : point_says 0 3 2 0 (pos 9 ∷ buffer) ≡ 4 ∷ []
  pub point_6_0 : point_says 0 3 0 1 buffer ≡ 6 ∷ 0 ∷ []
  -- * length 2, radius 3
  pub star_index_2_3_0 : index_says 0 2 3 (pos 1 ∷ pos 2 ∷ []) ≡ 0 ∷ 0 ∷ []
  pub star_index_2_3_5 : index_says 0 2 3 (pos 2 ∷ neg_ℤ (pos 1) ∷ []) ≡ 0 ∷ 5 ∷ []
  pub star_index_2_3_11 : index_says 0 2 3 (neg_ℤ (pos 3) ∷ pos 0 ∷ []) ≡ 0 ∷ 11 ∷ []
  -- * length 1, radius 5
  pub star_index_1_5 : index_says 0 1 5 (neg_ℤ (pos 5) ∷ []) ≡ 0 ∷ 1 ∷ []
  -- * in length 3, radius 2, bit 1 of index 5 changed gives 7, which is (-1,0,-1)
  pub star_bit_1 : bit_xor 5 (2 ^ 1) ≡ 7
  pub star_point_7 : point_leaves 0 3 2 7 buffer ≡ triple (neg_ℤ (pos 1)) (pos 0) (neg_ℤ (pos 1))
  -- the lowest i32 is an ordinary coordinate
  pub lowest : index_says 0 1 0 (neg_ℤ (pos (2 ^ 31)) ∷ []) ≡ 5 ∷ []
  -- * length 4, radius 0: N = 1, b = 0
  pub star_count_4_0 : N 4 0 ≡ 1
  pub star_width_4_0 : width (N 4 0) ≡ 0
  -- at radius 0 the one point is all zeros, with index 0
  pub index_4_0 : index_says 0 4 0 (replicate 4 (pos 0)) ≡ 0 ∷ 0 ∷ []
  pub point_4_0 : point_leaves 0 4 0 0 (replicate 4 (pos 9)) ≡ replicate 4 (pos 0)
  -- a length is never taken for a radius
  pub count_2_3 : N 2 3 ≡ 12
  pub count_3_2 : N 3 2 ≡ 18
  -- a radius of 32 is usable; N(16,12) is usable, N(16,13) is refused 3
  pub says_1_32 : count_says 1 32 ≡ 0 ∷ 2 ∷ []
  pub says_16_12 : count_says 16 12 ≡ 0 ∷ 3575055360 ∷ []
  pub count_16_13 : N 16 13 ≡ 9832110240
  pub says_16_13 : count_says 16 13 ≡ 3 ∷ []
  -- length 0 and 17: 1; radius 33: 2; the length is judged first
  pub says_0_1 : count_says 0 1 ≡ 1 ∷ []
  pub says_17_1 : count_says 17 1 ≡ 1 ∷ []
  pub says_16_33 : count_says 16 33 ≡ 2 ∷ []
  pub says_0_33 : count_says 0 33 ≡ 1 ∷ []
  -- 32,768 is refused 11, and the first coordinate at fault is named
  pub says_beyond : quantize_says whole_case 1 0 1 (fin true 0 (pos 0) ∷ fin false 1 (pos 15) ∷ nan ∷ []) held ≡ 11 ∷ 1 ∷ []
  -- * row of length 3, radii 0 and 2, step 256: (1.5, 0, -0.75) gives (1,0,-1)
  pub star_quantized : point_for (row_at whole_case 0) vector ≡ triple (pos 1) (pos 0) (neg_ℤ (pos 1))
  -- its whole numbers are (384,0,-192), and (1,0,-1) is nearer to them than (2,0,0)
  pub wholes : wholes_of vector ≡ triple (pos 384) (pos 0) (neg_ℤ (pos 192))
  pub squares_nearest : sum_of_squares 2 576 (wholes_of vector) (point_for (row_at whole_case 0) vector) ≡ 73728
  pub squares_farther : sum_of_squares 2 576 (wholes_of vector) (triple (pos 2) (pos 0) (pos 0)) ≡ 294912
  pub says_written : quantize_says whole_case 1 0 0 vector held ≡ 0 ∷ []
  pub record_0 : quantize_leaves whole_case 1 0 0 vector held ≡ 0 ∷ 0 ∷ 0 ∷ 1 ∷ 0 ∷ 0 ∷ 0 ∷ 5 ∷ []
  pub record_1 : quantize_leaves whole_case 1 0 1 vector held ≡ 0 ∷ 1 ∷ 0 ∷ 1 ∷ 0 ∷ 0 ∷ 0 ∷ 5 ∷ []
  pub record_kept : quantize_leaves whole_case 1 0 2 vector held ≡ held
  -- with byte 14 the selector 1, the same point has the codeword 9
  pub record_magnitude : quantize_leaves (take 14 whole_case ++ 1 ∷ 0 ∷ []) 1 0 0 vector held ≡ 0 ∷ 0 ∷ 0 ∷ 1 ∷ 0 ∷ 0 ∷ 0 ∷ 9 ∷ []
  -- in the second row, of length 5 and step 775, the sum 576 is nearest to radius 1, of number 1
  pub record_row_1 : quantize_leaves two_rows 1 0 2 longer held ≡ 0 ∷ 2 ∷ 1 ∷ 1 ∷ 0 ∷ 0 ∷ 0 ∷ 8 ∷ []
  -- refusals 7, 8, 4 and 11 in their order, with two faults at once; a vector or record that is too short or too long
  pub quantize_7 : quantize_says (take 15 whole_case) 1 0 2 [] [] ≡ 7 ∷ 0 ∷ []
  pub quantize_8 : quantize_says whole_case 1 0 2 [] [] ≡ 8 ∷ []
  -- 17 before 7, 7 before 8 for a book, 8 before 4; the record of place 1 in book 9 of ten
  pub quantize_17 : quantize_says [] 17 17 2 [] [] ≡ 17 ∷ []
  pub quantize_7_first : quantize_says [] 2 2 2 [] [] ≡ 7 ∷ 0 ∷ []
  pub quantize_8_book : quantize_says whole_case 9 9 0 [] [] ≡ 8 ∷ []
  pub record_book_9 : quantize_leaves whole_case 10 9 1 vector held ≡ 0x90 ∷ 1 ∷ 0 ∷ 1 ∷ 0 ∷ 0 ∷ 0 ∷ 5 ∷ []
  pub quantize_4_short : quantize_says whole_case 1 0 0 (nan ∷ []) held ≡ 4 ∷ []
  pub quantize_4_long : quantize_says whole_case 1 0 0 longer held ≡ 4 ∷ []
  pub quantize_4_record_short : quantize_says whole_case 1 0 0 (nan ∷ nan ∷ nan ∷ []) (take 7 held) ≡ 4 ∷ []
  pub quantize_4_record_long : quantize_says whole_case 1 0 0 vector (9 ∷ held) ≡ 4 ∷ []
  pub quantize_11 : quantize_says whole_case 1 0 0 (nan ∷ nan ∷ nan ∷ []) held ≡ 11 ∷ 0 ∷ []
  pub refused_kept : quantize_leaves whole_case 1 0 0 (nan ∷ nan ∷ nan ∷ []) held ≡ held
  -- * a sum of 256 ties between radii 0 and 2: radius 0
  pub star_tie : chosen_radius (row_at whole_case 0) 256 ≡ 0
  pub past_the_tie : chosen_radius (row_at whole_case 0) 257 ≡ 2
  -- with a step of 775: half of it is 387.5; 14 x 775 is 10,850; beyond the last radius there is none
  pub below_half : chosen_radius (row_at two_rows 1) 387 ≡ 0
  pub above_half : chosen_radius (row_at two_rows 1) 388 ≡ 1
  pub radius_14 : chosen_radius (row_at two_rows 1) 10851 ≡ 14
  pub last_radius : chosen_radius (row_at two_rows 1) 134217728 ≡ 32
  -- length 2, radius 1, two equal positive coefficients: (1,0)
  pub equal_remainders : point_of 1 (fin false 1 (negsuc 0) ∷ fin false 1 (negsuc 0) ∷ []) ≡ pos 1 ∷ pos 0 ∷ []
