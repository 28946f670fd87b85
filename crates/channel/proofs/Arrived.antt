-- A record that holds a place's row, a radius number of that row and the index of a point of that shell, and that is
-- all that came for its place, is sound with that point in each mode. Of the row's enumeration only its laws are used.
use Prim.Native.Nat.{ℕ, ◌<◌}
use mathlib.Core.Path.{◌≡◌, sym, ap, ap₂, ◌∙◌}
use mathlib.Core.List.{List}
use lib.IntN.{ℤ}
use Rattle.enumeration.specs.Point.{OnShell}
use Rattle.tables.proofs.PlaceChecks.{sharing_good}
use Rattle.tables.specs.BookNumbers.{GoodBooks}
use Rattle.tables.specs.Row.{radii_of, radius_at, enumeration_of, shell_total}
use Rattle.tables.specs.Table.{places_in, Good, row_of, row_for, length_for}
use Rattle.tables.proofs.Good.{good_place}
use Rattle.tables.proofs.GoodRow.{row_lawful}
use Rattle.records.specs.Record.{Holds}
use Rattle.rules.specs.Judging.{index_names, judge_in, judge, NamesPoint}
use Rattle.rules.specs.Taking.{held_cell, grown}
use Rattle.rules.specs.declared.Judged.TheVariants as judged
use Rattle.judging.proofs.Judging.{codeword_sound, record_judged}
use Rattle.channel.specs.Demand3.{OnlyCame, SoundWith}
use Rattle.channel.proofs.Values.{exact_shown}
use Rattle.channel.proofs.Reading.{grown_reads}
use Rattle.channel.proofs.ThreeCases.{equal_cell}

module _ (t : List ℕ) (books : ℕ) (shared : GoodBooks t books) (book p : ℕ) (b : book < books) (h : p < places_in t) (number : ℕ) (in_row : number < radii_of (row_for t p)) (q : List ℤ) (on : OnShell (length_for t p) (radius_at (row_for t p) number) q) where
  good : Good t
  good = sharing_good t books shared

  abbrev row : List ℕ
  row = row_for t p

  abbrev k : ℕ
  k = radius_at row number

  abbrev codeword : ℕ
  codeword = (enumeration_of row).index q

  codeword_names : NamesPoint row k codeword
  codeword_names = record {
    usable = (good_place t p good h).1.radius_usable number in_row;
    below = (row_lawful row).index_below (length_for t p) k q on;
    named = (row_lawful row).index_names_lem (length_for t p) k q on;
  }

  held_sound : (mode : ℕ) (y : List ℕ) → Holds y book p (row_of t p) number codeword → judge mode row (held_cell y) ≡ judged.Sound k codeword
  unfolding judge
  held_sound mode y holds =
      sym (record_judged mode row y (rw holds.holds_radius_number in_row))
      ∙ ap₂ (λ (n c : ℕ). judge_in mode row (radius_at row n) c) holds.holds_radius_number holds.holds_codeword
      ∙ sym (codeword_sound mode (index_names row k) (shell_total row k) k codeword codeword_names.below codeword_names.named)

  pub arrived_sound : (y : List ℕ) → Holds y book p (row_of t p) number codeword → (xs : List (List ℕ)) → OnlyCame t books xs book p y
      → SoundWith t books book (grown t books xs) p q
  arrived_sound y holds xs all =
      let back = (row_lawful row).point_of_index (length_for t p) k q on in
      record {
        reads = λ mode known.
            grown_reads mode known t books shared xs book p b h (judged.Sound k codeword) q (ap (judge mode row) (equal_cell t books shared xs book p b h y all) ∙ held_sound mode y holds) back;
        exact = λ bytes i. rw back at (exact_shown t p (judged.Sound k codeword) codeword_names bytes i);
      }
