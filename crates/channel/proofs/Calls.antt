-- Demand 1 of each call, by the one argument.
use Prim.Native.Nat.{ℕ, ◌+◌}
use mathlib.Core.Path.{◌≡◌, refl, sym, ◌∙◌}
use mathlib.Core.List.{List, [], ◌∷◌}
use lib.ListN.{length, drop}
use Rattle.counts.specs.Counts.{N}
use Rattle.tables.specs.Usable.{shell_checks}
use Rattle.shell.specs.Shell.{count_meaning, count_says}
use Rattle.shell.proofs.OneToOne.{count_one_to_one}
use Rattle.enumeration.specs.Enumerations.{selected_by}
use Rattle.indexing.specs.Calls.{index_checks, index_says, point_checks, point_says}
use Rattle.points.specs.Meanings.{index_meaning, point_meaning}
use Rattle.points.proofs.OneToOne.{index_one_to_one, point_one_to_one}
use Rattle.tables.specs.Table.{places_in, table_checks, check_says, row_for}
use Rattle.pairing.specs.Meanings.{check_meaning}
use Rattle.pairing.proofs.OneToOne.{check_one_to_one}
use Rattle.quantizer.specs.Calls.{quantize_checks, quantize_meaning, quantize_says, record_for}
use Rattle.quantizer.proofs.OneToOne.{quantize_one_to_one}
use Rattle.runs.specs.Sending.{records_of, send_checks, send_says}
use Rattle.sending.specs.Meanings.{send_meaning}
use Rattle.sending.proofs.OneToOne.{send_one_to_one}
use Rattle.rules.specs.Taking.{take_checks, take_into, take_says}
use Rattle.conversion.specs.Meanings.{conversion_meaning}
use Rattle.conversion.proofs.OneToOne.{conversion_one_to_one}
use Rattle.rules.specs.Layouts.{turned, convert_checks, convert_says}
use Rattle.rules.specs.Judging.{judge_at}
use Rattle.rules.specs.Reading.{told, point_at, carried_by, read_checks, read_says, coefficient_checks}
use Rattle.rules.specs.Tallying.{tally_checks, tally_of, tally_says}
use Rattle.page.specs.Meanings.{take_meaning, read_meaning, tally_meaning}
use Rattle.page.proofs.OneToOne.{take_one_to_one, read_one_to_one, coefficient_one_to_one, tally_one_to_one}
use Rattle.reporting.specs.Calls.{starting_with, no_room, lines_fit, lines_checks, lines_text, lines_says, line_says}
use Rattle.report.specs.Meanings.{listed_meaning, lined_meaning}
use Rattle.report.proofs.OneToOne.{listed_one_to_one, lined_one_to_one}
use Rattle.channel.specs.Demand1.{with_table, with_books, with_mode, point_conditions, quantize_conditions, send_conditions, take_conditions, read_conditions, coefficient_conditions, tally_conditions, lines_conditions, convert_conditions, Determined, Demand1}
use Rattle.channel.proofs.Conditions.{alike, point_alike, check_alike, quantize_alike, send_alike, take_alike, read_alike, coefficient_alike, tally_alike, lines_alike, convert_alike}
use Rattle.channel.proofs.Refusing.{refusing, unchanged}

determined : {A : Type 0} (meaning_of : A → List ℕ) (says : List ℕ) → ((r r' : A) → meaning_of r ≡ meaning_of r' → r ≡ r') → Determined meaning_of says
determined meaning_of says same r r' a b = same r r' (a ∙ sym b)

-- what is told of a place, after 0
answers : ℕ → List ℕ → List ℕ → ℕ → ℕ → List ℕ
answers mode t pg book p = drop 1 (told (judge_at mode t pg book p))

-- what is told of a block of lines, after 0
written : ℕ → List ℕ → List ℕ → ℕ → ℕ → ℕ → List ℕ
written mode t pg book p b = (p + lines_fit t p b) ∷ length (lines_text mode t pg book p b) ∷ []

pub demand_1 : Demand1
unfolding answers written
demand_1 = record {
  count = λ l k. refusing (N l k ∷ []) (shell_checks l k (N l k)) (shell_checks l k (N l k)) refl refl (alike (shell_checks l k (N l k)));
  count_determined = λ l k. determined count_meaning (count_says l k) count_one_to_one;
  index = λ v l k x.
      refusing ((selected_by v).index x ∷ []) (index_checks v l k x) (index_checks v l k x) refl refl (alike (index_checks v l k x));
  index_determined = λ v l k x. determined index_meaning (index_says v l k x) index_one_to_one;
  point = λ v l k n out.
      refusing [] (point_checks v l k n (length out)) (point_conditions v l k n (length out)) refl refl (point_alike v l k n (length out));
  point_unchanged = λ v l k n out. unchanged [] (point_checks v l k n (length out)) ((selected_by v).point l k n) out;
  point_determined = λ v l k n out. determined point_meaning (point_says v l k n out) point_one_to_one;
  check = λ t. refusing (places_in t ∷ []) (table_checks t) (with_table t []) refl refl (check_alike t);
  check_determined = λ t. determined check_meaning (check_says t) check_one_to_one;
  quantize = λ t books book p w out.
      refusing [] (quantize_checks t books book p w (length out)) (with_books t books (quantize_conditions t books book p w (length out))) refl refl
      (quantize_alike t books book p w (length out));
  quantize_unchanged = λ t books book p w out. unchanged [] (quantize_checks t books book p w (length out)) (record_for t book p w) out;
  quantize_determined = λ t books book p w out. determined quantize_meaning (quantize_says t books book p w out) quantize_one_to_one;
  send = λ t books book run out.
      refusing [] (send_checks t books book run (length out)) (with_books t books (send_conditions t books book run (length out))) refl refl (send_alike t books book run (length out));
  send_unchanged = λ t books book run out. unchanged [] (send_checks t books book run (length out)) (records_of t book run) out;
  send_determined = λ t books book run out. determined send_meaning (send_says t books book run out) send_one_to_one;
  take = λ t books pg x. refusing [] (take_checks t books pg x) (with_books t books (take_conditions t books pg x)) refl refl (take_alike t books pg x);
  take_unchanged = λ t books pg x. unchanged [] (take_checks t books pg x) (take_into t pg x) pg;
  take_determined = λ t books pg x. determined take_meaning (take_says t books pg x) take_one_to_one;
  read = λ mode t books book pg p out.
      refusing (answers mode t pg book p) (read_checks mode t books book pg p (length out)) (with_mode mode t books (read_conditions t books book pg p (length out))) refl refl
      (read_alike t books mode book pg p (length out));
  read_unchanged = λ mode t books book pg p out. unchanged (answers mode t pg book p) (read_checks mode t books book pg p (length out)) (point_at mode t pg book p) out;
  read_determined = λ mode t books book pg p out. determined read_meaning (read_says mode t books book pg p out) read_one_to_one;
  coefficient = λ mode t books book pg p i.
      refusing (answers mode t pg book p) (coefficient_checks mode t books book pg p i) (with_mode mode t books (coefficient_conditions t books book pg p i)) refl refl (coefficient_alike t books mode book pg p i);
  coefficient_none = λ mode t books book pg p i. unchanged (answers mode t pg book p) (coefficient_checks mode t books book pg p i) (carried_by (row_for t p) (judge_at mode t pg book p) i) [];
  coefficient_determined = λ mode t books book pg p i r r' a b c d. coefficient_one_to_one r r' (a ∙ sym c) (b ∙ sym d);
  tally = λ mode t books book pg. refusing (tally_of mode t pg book) (tally_checks mode t books book pg) (with_mode mode t books (tally_conditions t books book pg)) refl refl (tally_alike t books mode book pg);
  tally_determined = λ mode t books book pg. determined tally_meaning (tally_says mode t books book pg) tally_one_to_one;
  convert = λ t books pg held.
      refusing [] (convert_checks t books pg held) (with_books t books (convert_conditions t books pg held)) refl refl (convert_alike t books pg held);
  convert_unchanged = λ from to t books pg held. unchanged [] (convert_checks t books pg held) (turned from to t books pg) held;
  convert_determined = λ t books pg held. determined conversion_meaning (convert_says t books pg held) conversion_one_to_one;
  lines = λ mode t books book pg p held.
      refusing (written mode t pg book p (length held)) (lines_checks mode t books book pg p (length held)) (with_mode mode t books (lines_conditions t books book pg p (length held))) refl refl
      (lines_alike t books mode book pg p (length held));
  lines_unchanged = λ mode t books book pg p held.
      unchanged (written mode t pg book p (length held)) (lines_checks mode t books book pg p (length held)) (starting_with (lines_text mode t pg book p (length held)) held) held;
  lines_determined = λ mode t books book pg p held. determined listed_meaning (lines_says mode t books book pg p held) listed_one_to_one;
  line = λ text held. refusing (length text ∷ []) (no_room (length held) ∷ []) (no_room (length held) ∷ []) refl refl (alike (no_room (length held) ∷ []));
  line_unchanged = λ text held. unchanged (length text ∷ []) (no_room (length held) ∷ []) (starting_with text held) held;
  line_determined = λ text held. determined lined_meaning (line_says text held) lined_one_to_one;
}
