-- Small counts, written out: the triangle, the ranges of length 3 and radius 4, widths, distances, and fields of bits.
-- proofs/Example.antt computes every line.
use Rattle.std.specs.Prelude.{◌≡◌}
use Rattle.counts.specs.Counts.{N, binomial, D, S, B, R, O, range_size, range_start}
use Rattle.counts.specs.Width.{width}
use Rattle.counts.specs.Distance.{distance}
use Rattle.counts.specs.Fields.{bit_field, size_of, field_total}
use Rattle.counts.specs.declared.Field.TheVariants as field

pub record Example : Type 0 where
  -- N(l,0) = 1 for every l, N(0,k) = 0 for k above 0; a length is never taken for a radius
  pub none_0 : N 0 0 ≡ 1
  pub none_4 : N 4 0 ≡ 1
  pub no_length : N 0 5 ≡ 0
  pub points_2_3 : N 2 3 ≡ 12
  pub points_3_2 : N 3 2 ≡ 18
  pub points_3_4 : N 3 4 ≡ 66
  -- D(s,l) = binomial(l,s), 0 where s exceeds l; S(s,k) = binomial(k-1,s-1), and no numbers at all sum to 0, in one
  -- way
  pub binomial_5_2 : binomial 5 2 ≡ 10
  pub patterns_2_5 : D 2 5 ≡ 10
  pub patterns_5_2 : D 5 2 ≡ 0
  pub shapes_2_5 : S 2 5 ≡ 4
  pub shapes_3_5 : S 3 5 ≡ 6
  pub shapes_5_3 : S 5 3 ≡ 0
  pub shapes_0_0 : S 0 0 ≡ 1
  pub shapes_0_3 : S 0 3 ≡ 0
  pub shapes_3_0 : S 3 0 ≡ 0
  pub signs_3 : B 3 ≡ 8
  -- the ranges for s = 3, 2 and 1 of length 3 and radius 4, 66 points
  pub size_3 : R 3 3 4 ≡ 24
  pub size_2 : R 2 3 4 ≡ 36
  pub size_1 : R 1 3 4 ≡ 6
  pub start_3 : O 3 3 4 ≡ 0
  pub start_2 : O 2 3 4 ≡ 24
  pub start_1 : O 1 3 4 ≡ 60
  -- the least number of bits b with 2^b at least the total
  pub width_1 : width 1 ≡ 0
  pub width_2 : width 2 ≡ 1
  pub width_3 : width 3 ≡ 2
  pub width_4 : width 4 ≡ 2
  pub width_5 : width 5 ≡ 3
  pub width_18 : width 18 ≡ 5
  pub width_largest : width 4294967296 ≡ 32
  -- the first index past the end of 18 points has the distance 0
  pub distance_18 : distance 18 18 ≡ 0
  pub distance_20 : distance 18 20 ≡ 2
  -- a field of bits: S(2,4) is 3, S(2,5) is 4, S(3,5) is 6
  pub field_2_4 : bit_field 2 4 ≡ 4
  pub field_2_5 : bit_field 2 5 ≡ 4
  pub field_3_5 : bit_field 3 5 ≡ 8
  pub field_1_5 : bit_field 1 5 ≡ 1
  pub field_exact : size_of field.Exact 2 4 ≡ 3
  pub field_bits : size_of field.Bits 2 4 ≡ 4
  -- with it the ranges for s = 4, 3, 2 and 1 of length 4 and radius 6 are larger: 10, 10, 5 and 1 shapes become 16, 16,
  -- 8 and 1
  pub bits_size_4 : range_size bit_field 4 4 6 ≡ 256
  pub bits_size_3 : range_size bit_field 3 4 6 ≡ 512
  pub bits_size_2 : range_size bit_field 2 4 6 ≡ 192
  pub bits_size_1 : range_size bit_field 1 4 6 ≡ 8
  pub bits_start_4 : range_start bit_field 4 4 6 ≡ 0
  pub bits_start_3 : range_start bit_field 3 4 6 ≡ 256
  pub bits_start_2 : range_start bit_field 2 4 6 ≡ 768
  pub bits_start_1 : range_start bit_field 1 4 6 ≡ 960
  pub bits_total_4_6 : field_total bit_field 4 6 ≡ 968
  pub total_4_6 : field_total S 4 6 ≡ 608
  -- length 2 and radius 4 has 16 points, and 20 indices with a field of bits; radius 0 has one index with either
  pub total_2_4 : field_total S 2 4 ≡ 16
  pub bits_total_2_4 : field_total bit_field 2 4 ≡ 20
  pub total_2_0 : field_total S 2 0 ≡ 1
  pub bits_total_2_0 : field_total bit_field 2 0 ≡ 1
