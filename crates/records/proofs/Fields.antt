-- A record has 8 bytes, and holds the fields that it was made of, if they fit their bytes.
use Prim.Native.Nat.{ℕ, ◌/◌, ◌%◌, ◌<◌}
use mathlib.Core.Path.{◌≡◌, refl, ap, ◌∙◌}
use native.Mathlib.Omega.{arith}
use lib.ListN.{length}
use Rattle.octets.proofs.Back.{fits_back}
use Rattle.records.specs.Record.{record_length, field_of, record_of, Holds, Fits}

pub record_length_lem : (book place row number codeword : ℕ) → length (record_of book place row number codeword) ≡ record_length
unfolding record_of
record_length_lem book place row number codeword = refl

-- the two parts of the place field
field_book : (book place : ℕ) → place < 4096 → field_of book place / 4096 ≡ book
field_book book place h = omega arith

field_place : (book place : ℕ) → place < 4096 → field_of book place % 4096 ≡ place
field_place book place h = omega arith

pub record_holds : (book place row number codeword : ℕ) → Fits book place row number codeword
    → Holds (record_of book place row number codeword) book place row number codeword
unfolding record_of
record_holds book place row number codeword f =
    let field = fits_back 2 (field_of book place) (omega (arith, f.book_fits, f.place_fits)) in
    record {
      holds_book = ap (λ (n : ℕ). n / 4096) field ∙ field_book book place f.place_fits;
      holds_place = ap (λ (n : ℕ). n % 4096) field ∙ field_place book place f.place_fits;
      holds_row = fits_back 1 row f.row_fits;
      holds_radius_number = fits_back 1 number f.radius_number_fits;
      holds_codeword = fits_back 4 codeword f.codeword_fits;
    }
