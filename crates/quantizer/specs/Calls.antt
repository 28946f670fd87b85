-- What the call quantize says, and what it leaves in the lent record: docs/RULES.md, "Quantizing into a record",
-- "Books", "Refusal numbers" and "Order of checks". t is the table's bytes, `books` the number of books, `book` the
-- book, p the place, xs the coefficients; all of them any. `row` is the bytes of the place's row.
use Rattle.std.specs.Prelude.{ℕ, List, [], ◌∷◌, ◌++◌, Float, length, Result}
use Rattle.answers.specs.declared.Refusal.{Refusal}
use Rattle.answers.specs.Refusals.{verdict_meaning}
use Rattle.answers.specs.Checks.{Check, length_check, first_of, leaves}
use Rattle.tables.specs.Row.{length_of}
use Rattle.tables.specs.BookNumbers.{place_checks}
use Rattle.tables.specs.Table.{row_of, row_for}
use Rattle.records.specs.Record.{record_check, record_of}
use Rattle.coefficients.specs.Coefficients.{usable_checks}
use Rattle.coding.specs.Coded.{radius_number_for, codeword_for}

-- Quantize: 17, 7, 8, 4, 11; first the last two, of the row: vector not l, record not 8, b being the length of the lent
-- record; the coefficients
abbrev pub quantize_rest : List ℕ → List Float → ℕ → List Check
quantize_rest row xs b = length_check (length xs) (length_of row) ∷ record_check b ∷ usable_checks xs

abbrev pub quantize_checks : List ℕ → ℕ → ℕ → ℕ → List Float → ℕ → List Check
quantize_checks t books book p xs b = place_checks t books book p ++ quantize_rest (row_for t p) xs b

-- the record of the coefficients of a place in a book
abbrev pub record_for : List ℕ → ℕ → ℕ → List Float → List ℕ
record_for t book p xs = record_of book p (row_of t p) (radius_number_for (row_for t p) xs) (codeword_for (row_for t p) xs)

-- what the call answers: that the record is written, or a refusal
abbrev pub quantize_meaning : Result (Unit {0}) Refusal → List ℕ
quantize_meaning = verdict_meaning

-- what it is to say, and what it leaves in a record that held `held`
abbrev pub quantize_says : List ℕ → ℕ → ℕ → ℕ → List Float → List ℕ → List ℕ
quantize_says t books book p xs held = first_of (quantize_checks t books book p xs (length held)) (0 ∷ [])

abbrev pub quantize_leaves : List ℕ → ℕ → ℕ → ℕ → List Float → List ℕ → List ℕ
quantize_leaves t books book p xs held = leaves (quantize_checks t books book p xs (length held)) (record_for t book p xs) held
