-- A record that is written into a buffer of eight bytes, field by field.
use Prim.Native.Nat.{ℕ, ◌-◌, ◌%◌}
use mathlib.Core.Path.{◌≡◌, refl, ap, ◌∙◌}
use mathlib.Core.List.{List, [], ◌∷◌, ◌++◌, append-nil}
use native.Mathlib.Nat.{div-one}
use native.Mathlib.Omega.{arith}
use lib.ListN.{length, set, drop, length-drop, drop_of_length-le}
use lib.Seq.{drop-cons}
use borrow.Rule.Slice.PartMut.{put_mid}
use Rattle.std.specs.Int.{w16, w64, byte_at, to_be_bytes}
use Rattle.records.specs.Record.{record_length, field_of, record_of}

-- a buffer that held `held`: its first two bytes are written, the next two each by itself, and then the others
module _ (held : List ℕ) (eight : length held ≡ record_length) where
  abbrev begun : List ℕ → ℕ → ℕ → List ℕ
  begun field c d = set (set (field ++ drop 2 held) 2 c) 3 d

  abbrev ended : List ℕ → ℕ → ℕ → List ℕ → List ℕ
  ended field c d code = put_mid 4 (length (begun field c d) - 4) (begun field c d) code

  all_written : (a b c d : ℕ) (code : List ℕ) → ended (a ∷ b ∷ []) c d code ≡ a ∷ b ∷ c ∷ d ∷ code
  all_written a b c d code =
      rw (drop-cons held 2 0 (omega arith), drop-cons held 3 0 (omega arith))
      (ap (λ (rest : List ℕ). a ∷ b ∷ c ∷ d ∷ (code ++ rest)) (drop_of_length-le (drop 4 held) (omega (arith, length-drop 4 held)))
      ∙ ap (λ (all : List ℕ). a ∷ b ∷ c ∷ d ∷ all) (append-nil code))

  pub record_stored : (book place row number codeword : ℕ) {field code : List ℕ} {c d : ℕ} → field ≡ to_be_bytes w16 (field_of book place)
      → c ≡ row % 256 → d ≡ number % 256 → code ≡ drop 4 (to_be_bytes w64 codeword)
      → ended field c d code ≡ record_of book place row number codeword
  unfolding record_of
  record_stored book place row number codeword is_field is_row is_number is_code =
      rw (is_field, is_row, is_number, is_code)
      (all_written (byte_at 1 (field_of book place)) (byte_at 0 (field_of book place)) (row % 256) (number % 256) (drop 4 (to_be_bytes w64 codeword))
      ∙ rw (div-one (field_of book place), div-one row, div-one number, div-one codeword) refl)
