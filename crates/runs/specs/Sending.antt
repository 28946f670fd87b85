-- What the call send says, and what it leaves in the lent buffer: docs/RULES.md, "Sending a page", "Books", "Refusal
-- numbers" and "Order of checks". t is the table's bytes, `books` the number of books, `book` the book that is sent,
-- `run` the coefficients, p a place, `held` what the buffer held; all of them any.
use Rattle.std.specs.Prelude.{ℕ, ◌*◌, List, [], ◌∷◌, ◌++◌, Float, length, get_or}
use Rattle.std.specs.Float.{nan}
use Rattle.answers.specs.Checks.{Check, length_check, first_of, leaves, each_from}
use Rattle.buffers.specs.Joined.{joined}
use Rattle.floats.specs.Units.{unusable_coefficient}
use Rattle.tables.specs.BookNumbers.{book_checks}
use Rattle.tables.specs.Table.{places_in, length_for}
use Rattle.records.specs.Record.{record_length}
use Rattle.quantizer.specs.Calls.{record_for}
use Rattle.runs.specs.Run.{coordinates_in, vector_for}

-- 11: unusable coefficient, with its place and its coordinate
abbrev pub usable_check_at : List ℕ → List Float → ℕ → ℕ → Check
usable_check_at t run p i = record { number = 11; values = p ∷ i ∷ []; fails = unusable_coefficient (get_or (vector_for t run p) i nan) }

-- the coefficients of one place; and of all places in order, so that the lowest place is named, and its lowest
-- coordinate
abbrev pub usable_checks_at : List ℕ → List Float → ℕ → List Check
usable_checks_at t run p = each_from (usable_check_at t run p) 0 (length_for t p)

abbrev pub run_checks : List ℕ → List Float → List Check
run_checks t run = joined (usable_checks_at t run) 0 (places_in t)

-- 8 bytes for each place
abbrev pub records_length : List ℕ → ℕ
records_length t = record_length * places_in t

-- Send: 17, 7, 8, 4, 11; first those after the book's: the run has as many coefficients as the places have
-- coordinates, the buffer 8 bytes for each place, b being the length of the lent buffer; every coefficient
abbrev pub send_rest : List ℕ → List Float → ℕ → List Check
send_rest t run b = length_check (length run) (coordinates_in t) ∷ length_check b (records_length t) ∷ run_checks t run

abbrev pub send_checks : List ℕ → ℕ → ℕ → List Float → ℕ → List Check
send_checks t books book run b = book_checks t books book ++ send_rest t run b

-- the record of a place is the one that quantize writes for its coefficients; those of all places, in place order
abbrev pub record_at : List ℕ → ℕ → List Float → ℕ → List ℕ
record_at t book run p = record_for t book p (vector_for t run p)

abbrev pub records_of : List ℕ → ℕ → List Float → List ℕ
records_of t book run = joined (record_at t book run) 0 (places_in t)

-- what the call is to say, and what it leaves in a buffer that held `held`
abbrev pub send_says : List ℕ → ℕ → ℕ → List Float → List ℕ → List ℕ
send_says t books book run held = first_of (send_checks t books book run (length held)) (0 ∷ [])

abbrev pub send_leaves : List ℕ → ℕ → ℕ → List Float → List ℕ → List ℕ
send_leaves t books book run held = leaves (send_checks t books book run (length held)) (records_of t book run) held
