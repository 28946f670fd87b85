-- Demand 1 (docs/RULES.md, "Demands"), every call on every input: a refusal returns its number and changes nothing;
-- a number is given exactly when its condition holds and no condition before it in the call's order does; any two
-- results that a contract allows are equal. A call is named here by what its contract cites: what it says, and what
-- it leaves in the buffer that is lent to it. Collect refuses nothing; its contract is two equations.
use Rattle.std.specs.Prelude.{ℕ, suc, ◌≡◌, ◌↔◌, Float, ℤ, length, Result}
use mathlib.Core.List.{List, [], ◌∷◌, ◌++◌, map, Memᴰ}
use Rattle.answers.specs.declared.Refusal.{Refusal}
use Rattle.answers.specs.Checks.{Check, number_said, any_of, fails_of, length_check, each_from, Refuses, Passes}
use Rattle.counts.specs.Counts.{N}
use Rattle.enumeration.specs.Enumerations.{selected_by}
use Rattle.tables.specs.Usable.{shell_checks}
use Rattle.shell.specs.Shell.{count_meaning, count_says}
use Rattle.indexing.specs.Calls.{selected_checks, past_end_check, empty_check, index_checks, index_says}
use Rattle.points.specs.Meanings.{index_meaning}
use Rattle.indexing.specs.Calls.{point_checks, point_says, point_leaves}
use Rattle.points.specs.Meanings.{point_meaning}
use Rattle.tables.specs.BookNumbers.{books_check, book_check}
use Rattle.tables.specs.Table.{places_in, table_checks, check_says, place_check, row_of, row_for, length_for}
use Rattle.pairing.specs.Meanings.{check_meaning}
use Rattle.records.specs.Record.{record_check, book_in, place_in}
use Rattle.coefficients.specs.Coefficients.{usable_checks}
use Rattle.quantizer.specs.Calls.{quantize_checks, quantize_leaves, quantize_meaning, quantize_says}
use Rattle.runs.specs.Run.{coordinates_in}
use Rattle.runs.specs.Sending.{run_checks, records_length, send_checks, send_says, send_leaves}
use Rattle.sending.specs.Meanings.{send_meaning}
use Rattle.layout.specs.declared.Layout.{Layout}
use Rattle.rules.specs.Layouts.{convert_checks, convert_says, convert_leaves}
use Rattle.rules.specs.Modes.{mode_check}
use Rattle.rules.specs.Taking.{cell_for, page_check, foreign_check, cell_check, own_cell_check, cell_check_at, take_checks, take_says, take_leaves}
use Rattle.rules.specs.Reading.{read_checks, read_says, read_leaves, coordinate_check, coefficient_checks, coefficient_says, coefficient_carries}
use Rattle.rules.specs.Tallying.{tally_checks, tally_says}
use Rattle.conversion.specs.Meanings.{conversion_meaning}
use Rattle.page.specs.Meanings.{take_meaning, read_meaning, coefficient_meaning, coefficient_values, tally_meaning}
use Rattle.page.specs.declared.Answer.{Answer}
use Rattle.reporting.specs.Calls.{no_room, lines_fit, lines_checks, lines_says, lines_leaves, line_says, line_leaves}
use Rattle.report.specs.Meanings.{listed_meaning, lined_meaning}

-- several checks of one number are one condition: it holds if any of them fails
abbrev pub condition : ℕ → List Check → Check
condition n cs = record { number = n; values = []; fails = any_of (fails_of cs) }

-- the numbers of conditions, in order
abbrev pub numbers_of : List Check → List ℕ
numbers_of cs = map (λ (c : Check). c.number) cs

-- the conditions of point
abbrev pub point_conditions : ℕ → ℕ → ℕ → ℕ → ℕ → List Check
point_conditions v l k n b =
    selected_checks v l k
    ++ length_check b l
    ∷ condition 6 (past_end_check n ((selected_by v).total l k) ∷ [])
    ∷ empty_check (selected_by v) l k n
    ∷ []

-- the conditions of a call whose checks begin with those of its table, 7, and what each call checks after them: 4
-- is given for any buffer of a wrong length, 8 for the book as for the place, 11 for any coefficient, and 12 for any
-- cell
abbrev pub with_table : List ℕ → List Check → List Check
with_table t conditions = condition 7 (table_checks t) ∷ conditions

-- the conditions of a call that is given a number of books before its table
abbrev pub with_books : List ℕ → ℕ → List Check → List Check
with_books t books conditions = books_check books ∷ with_table t conditions

-- and a mode before that
abbrev pub with_mode : ℕ → List ℕ → ℕ → List Check → List Check
with_mode mode t books conditions = mode_check mode ∷ with_books t books conditions

-- 8, for a book and a place
abbrev pub no_place : List ℕ → ℕ → ℕ → ℕ → Check
no_place t books book p = condition 8 (book_check books book ∷ place_check t p ∷ [])

abbrev pub quantize_conditions : List ℕ → ℕ → ℕ → ℕ → List Float → ℕ → List Check
quantize_conditions t books book p w b =
    no_place t books book p
    ∷ condition 4 (length_check (length w) (length_for t p) ∷ record_check b ∷ [])
    ∷ condition 11 (usable_checks w)
    ∷ []

abbrev pub send_conditions : List ℕ → ℕ → ℕ → List Float → ℕ → List Check
send_conditions t books book run b =
    book_check books book
    ∷ condition 4 (length_check (length run) (coordinates_in t) ∷ length_check b (records_length t) ∷ [])
    ∷ condition 11 (run_checks t run)
    ∷ []

abbrev pub take_conditions : List ℕ → ℕ → List ℕ → List ℕ → List Check
take_conditions t books pg x =
    condition 4 (page_check t books pg ∷ record_check (length x) ∷ [])
    ∷ no_place t books (book_in x) (place_in x)
    ∷ foreign_check t x
    ∷ own_cell_check t pg x
    ∷ []

abbrev pub read_conditions : List ℕ → ℕ → ℕ → List ℕ → ℕ → ℕ → List Check
read_conditions t books book pg p b =
    no_place t books book p
    ∷ condition 4 (page_check t books pg ∷ length_check b (length_for t p) ∷ [])
    ∷ cell_check book p (row_of t p) (cell_for t pg book p)
    ∷ []

abbrev pub coefficient_conditions : List ℕ → ℕ → ℕ → List ℕ → ℕ → ℕ → List Check
coefficient_conditions t books book pg p i =
    no_place t books book p
    ∷ page_check t books pg
    ∷ coordinate_check (row_for t p) i
    ∷ cell_check book p (row_of t p) (cell_for t pg book p)
    ∷ []

abbrev pub tally_conditions : List ℕ → ℕ → ℕ → List ℕ → List Check
tally_conditions t books book pg =
    book_check books book
    ∷ page_check t books pg
    ∷ condition 12 (each_from (cell_check_at t pg book) 0 (places_in t))
    ∷ []

abbrev pub lines_conditions : List ℕ → ℕ → ℕ → List ℕ → ℕ → ℕ → List Check
lines_conditions t books book pg p b =
    no_place t books book p
    ∷ condition 4 (page_check t books pg ∷ no_room b ∷ [])
    ∷ condition 12 (each_from (cell_check_at t pg book) p (lines_fit t p b))
    ∷ []

abbrev pub convert_conditions : List ℕ → ℕ → List ℕ → List ℕ → List Check
convert_conditions t books pg held = condition 4 (page_check t books pg ∷ page_check t books held ∷ []) ∷ []

-- A call's refusals: `order` is the call's line in docs/RULES.md, "Order of checks", `conditions` says when each
-- number is given, `checks` what is named with it, and `says` is what the contract says that the call says.
pub record Refusing (order : List ℕ) (conditions checks : List Check) (says : List ℕ) : Type 0 where
  pub in_order : numbers_of conditions ≡ order
  -- number n is given exactly when n's condition holds and no condition before it does
  pub exactly : (n : ℕ) → (number_said says ≡ suc n) ↔ Refuses conditions (suc n) []
  -- and an answer exactly when none holds
  pub answered : (number_said says ≡ 0) ↔ Passes conditions
  -- a refusal names what the first check that fails names
  pub naming : (n : ℕ) (vs : List ℕ) → (says ≡ suc n ∷ vs) ↔ Refuses checks (suc n) vs
  -- the number is one of that call's list
  pub listed : (n : ℕ) → number_said says ≡ suc n → Memᴰ (suc n) order

-- a refusal changes nothing: what was `held` before is there afterwards
abbrev pub Unchanged : {B : Type 0} → List ℕ → B → B → Type 0
Unchanged says afterwards held = (n : ℕ) → number_said says ≡ suc n → afterwards ≡ held

-- any two results that the contract allows are equal
abbrev pub Determined : {A : Type 0} → (A → List ℕ) → List ℕ → Type 0
Determined {A} meaning_of says = (r r' : A) → meaning_of r ≡ says → meaning_of r' ≡ says → r ≡ r'

pub record Demand1 : Type 0 where
  -- Count: 1, 2, 3
  pub count : (l k : ℕ) → Refusing (1 ∷ 2 ∷ 3 ∷ []) (shell_checks l k (N l k)) (shell_checks l k (N l k)) (count_says l k)
  pub count_determined : (l k : ℕ) → Determined count_meaning (count_says l k)
  -- Index: 20, 1, 2, 3, 4, 5
  pub index : (v l k : ℕ) (x : List ℤ) → Refusing (20 ∷ 1 ∷ 2 ∷ 3 ∷ 4 ∷ 5 ∷ []) (index_checks v l k x) (index_checks v l k x) (index_says v l k x)
  pub index_determined : (v l k : ℕ) (x : List ℤ) → Determined index_meaning (index_says v l k x)
  -- Point: 20, 1, 2, 3, 4, 6, 15
  pub point : (v l k n : ℕ) (out : List ℤ)
      → Refusing (20 ∷ 1 ∷ 2 ∷ 3 ∷ 4 ∷ 6 ∷ 15 ∷ []) (point_conditions v l k n (length out)) (point_checks v l k n (length out)) (point_says v l k n out)
  pub point_unchanged : (v l k n : ℕ) (out : List ℤ) → Unchanged (point_says v l k n out) (point_leaves v l k n out) out
  pub point_determined : (v l k n : ℕ) (out : List ℤ) → Determined point_meaning (point_says v l k n out)
  -- the check of a table: 7
  pub check : (t : List ℕ) → Refusing (7 ∷ []) (with_table t []) (table_checks t) (check_says t)
  pub check_determined : (t : List ℕ) → Determined check_meaning (check_says t)
  -- Quantize: 17, 7, 8, 4, 11
  pub quantize : (t : List ℕ) (books book p : ℕ) (w : List Float) (out : List ℕ)
      → Refusing (17 ∷ 7 ∷ 8 ∷ 4 ∷ 11 ∷ []) (with_books t books (quantize_conditions t books book p w (length out)))
      (quantize_checks t books book p w (length out)) (quantize_says t books book p w out)
  pub quantize_unchanged : (t : List ℕ) (books book p : ℕ) (w : List Float) (out : List ℕ)
      → Unchanged (quantize_says t books book p w out) (quantize_leaves t books book p w out) out
  pub quantize_determined : (t : List ℕ) (books book p : ℕ) (w : List Float) (out : List ℕ)
      → Determined quantize_meaning (quantize_says t books book p w out)
  -- Send: 17, 7, 8, 4, 11
  pub send : (t : List ℕ) (books book : ℕ) (run : List Float) (out : List ℕ)
      → Refusing (17 ∷ 7 ∷ 8 ∷ 4 ∷ 11 ∷ []) (with_books t books (send_conditions t books book run (length out)))
      (send_checks t books book run (length out)) (send_says t books book run out)
  pub send_unchanged : (t : List ℕ) (books book : ℕ) (run : List Float) (out : List ℕ)
      → Unchanged (send_says t books book run out) (send_leaves t books book run out) out
  pub send_determined : (t : List ℕ) (books book : ℕ) (run : List Float) (out : List ℕ) → Determined send_meaning (send_says t books book run out)
  -- Take: 17, 7, 4, 8, 9, 12
  pub take : (t : List ℕ) (books : ℕ) (pg x : List ℕ)
      → Refusing (17 ∷ 7 ∷ 4 ∷ 8 ∷ 9 ∷ 12 ∷ []) (with_books t books (take_conditions t books pg x)) (take_checks t books pg x) (take_says t books pg x)
  pub take_unchanged : (t : List ℕ) (books : ℕ) (pg x : List ℕ) → Unchanged (take_says t books pg x) (take_leaves t books pg x) pg
  pub take_determined : (t : List ℕ) (books : ℕ) (pg x : List ℕ) → Determined take_meaning (take_says t books pg x)
  -- Read a place: 16, 17, 7, 8, 4, 12
  pub read : (mode : ℕ) (t : List ℕ) (books book : ℕ) (pg : List ℕ) (p : ℕ) (out : List ℤ)
      → Refusing (16 ∷ 17 ∷ 7 ∷ 8 ∷ 4 ∷ 12 ∷ []) (with_mode mode t books (read_conditions t books book pg p (length out)))
      (read_checks mode t books book pg p (length out)) (read_says mode t books book pg p out)
  pub read_unchanged : (mode : ℕ) (t : List ℕ) (books book : ℕ) (pg : List ℕ) (p : ℕ) (out : List ℤ)
      → Unchanged (read_says mode t books book pg p out) (read_leaves mode t books book pg p out) out
  pub read_determined : (mode : ℕ) (t : List ℕ) (books book : ℕ) (pg : List ℕ) (p : ℕ) (out : List ℤ)
      → Determined read_meaning (read_says mode t books book pg p out)
  -- One coefficient: 16, 17, 7, 8, 4, 13, 12; a refusal carries no value
  pub coefficient : (mode : ℕ) (t : List ℕ) (books book : ℕ) (pg : List ℕ) (p i : ℕ)
      → Refusing (16 ∷ 17 ∷ 7 ∷ 8 ∷ 4 ∷ 13 ∷ 12 ∷ []) (with_mode mode t books (coefficient_conditions t books book pg p i))
      (coefficient_checks mode t books book pg p i) (coefficient_says mode t books book pg p i)
  pub coefficient_none : (mode : ℕ) (t : List ℕ) (books book : ℕ) (pg : List ℕ) (p i : ℕ)
      → Unchanged (coefficient_says mode t books book pg p i) (coefficient_carries mode t books book pg p i) []
  pub coefficient_determined : (mode : ℕ) (t : List ℕ) (books book : ℕ) (pg : List ℕ) (p i : ℕ) (r r' : Result (Answer Float) Refusal)
      → coefficient_meaning r ≡ coefficient_says mode t books book pg p i → coefficient_values r ≡ coefficient_carries mode t books book pg p i
      → coefficient_meaning r' ≡ coefficient_says mode t books book pg p i → coefficient_values r' ≡ coefficient_carries mode t books book pg p i → r ≡ r'
  -- Tally: 16, 17, 7, 8, 4, 12
  pub tally : (mode : ℕ) (t : List ℕ) (books book : ℕ) (pg : List ℕ)
      → Refusing (16 ∷ 17 ∷ 7 ∷ 8 ∷ 4 ∷ 12 ∷ []) (with_mode mode t books (tally_conditions t books book pg)) (tally_checks mode t books book pg)
      (tally_says mode t books book pg)
  pub tally_determined : (mode : ℕ) (t : List ℕ) (books book : ℕ) (pg : List ℕ) → Determined tally_meaning (tally_says mode t books book pg)
  -- Convert, both ways: 17, 7, 4
  pub convert : (t : List ℕ) (books : ℕ) (pg held : List ℕ)
      → Refusing (17 ∷ 7 ∷ 4 ∷ []) (with_books t books (convert_conditions t books pg held)) (convert_checks t books pg held) (convert_says t books pg held)
  pub convert_unchanged : (from to : Layout) (t : List ℕ) (books : ℕ) (pg held : List ℕ)
      → Unchanged (convert_says t books pg held) (convert_leaves from to t books pg held) held
  pub convert_determined : (t : List ℕ) (books : ℕ) (pg held : List ℕ) → Determined conversion_meaning (convert_says t books pg held)
  -- The calls of the listing: lines as reading a place, 16, 17, 7, 8, 4, 12; one line of a known text, 4
  pub lines : (mode : ℕ) (t : List ℕ) (books book : ℕ) (pg : List ℕ) (p : ℕ) (held : List ℕ)
      → Refusing (16 ∷ 17 ∷ 7 ∷ 8 ∷ 4 ∷ 12 ∷ []) (with_mode mode t books (lines_conditions t books book pg p (length held)))
      (lines_checks mode t books book pg p (length held)) (lines_says mode t books book pg p held)
  pub lines_unchanged : (mode : ℕ) (t : List ℕ) (books book : ℕ) (pg : List ℕ) (p : ℕ) (held : List ℕ)
      → Unchanged (lines_says mode t books book pg p held) (lines_leaves mode t books book pg p held) held
  pub lines_determined : (mode : ℕ) (t : List ℕ) (books book : ℕ) (pg : List ℕ) (p : ℕ) (held : List ℕ)
      → Determined listed_meaning (lines_says mode t books book pg p held)
  pub line : (text held : List ℕ) → Refusing (4 ∷ []) (no_room (length held) ∷ []) (no_room (length held) ∷ []) (line_says text held)
  pub line_unchanged : (text held : List ℕ) → Unchanged (line_says text held) (line_leaves text held) held
  pub line_determined : (text held : List ℕ) → Determined lined_meaning (line_says text held)
