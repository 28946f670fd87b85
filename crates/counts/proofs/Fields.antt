-- The shape fields: each is one, the total with the field S is N, and with any field radius 0 has one index.
use Prim.Native.Nat.{ℕ, zero, suc, ◌^◌, ◌≤◌}
use mathlib.Core.Path.{◌≡◌, refl, sym}
use native.Mathlib.Nat.{le_refl}
use lib.Pow.{pow_mono}
use Rattle.counts.specs.Counts.{N, S}
use Rattle.counts.specs.Fields.{bit_field, size_of, room_for, field_total, IsField}
use Rattle.counts.specs.Width.{width, bits_from}
use Rattle.counts.specs.declared.Field.{Field}
use Rattle.counts.specs.declared.Field.TheVariants as field
use Rattle.counts.proofs.Volume.{volume_start}
use Rattle.counts.proofs.Widths.{width_is, width_enough}

exact_field : IsField S
unfolding S
exact_field = record { room = λ s k. le_refl (S s k); one = refl }

bit_field_lem : IsField bit_field
unfolding bit_field S width bits_from
bit_field_lem = record { room = λ s k. width_enough (S s k); one = refl }

pub is_field : (f : Field) → IsField (size_of f)
is_field field.Exact = exact_field
is_field field.Bits = bit_field_lem

pub total_exact : (l k : ℕ) → field_total S l k ≡ N l k
unfolding field_total N
total_exact l zero = refl
total_exact l (suc k) = sym (volume_start l k)

pub total_at_0 : (F : ℕ → ℕ → ℕ) (l : ℕ) → field_total F l 0 ≡ 1
unfolding field_total
total_at_0 F l = refl

-- a field is its room for S(s,k) shapes
pub size_room : (f : Field) (s k : ℕ) → room_for f (S s k) ≡ size_of f s k
unfolding bit_field
size_room field.Exact s k = refl
size_room field.Bits s k = refl

-- where the shapes are within a power of two, their room is too
pub room_within : (f : Field) (n b : ℕ) → n ≤ 2 ^ b → room_for f n ≤ 2 ^ b
room_within field.Exact n b h = h
room_within field.Bits n b h = pow_mono ((width_is n).least b h)
