-- Demand 2, of answers: what a place shows, its values, and the tally.
use Prim.Native.Nat.{ℕ, zero, suc, ◌<◌}
use mathlib.Core.Path.{◌≡◌, refl}
use mathlib.Core.List.{List, ◌∷◌}
use native.Mathlib.Omega.{arith}
use borrow.Author.Tests.{leb-false}
use lib.ListN.{get_or}
use Rattle.answers.specs.Checks.{number_said, fails_of}
use Rattle.answers.proofs.InOrder.{none_of}
use Rattle.tables.proofs.PlaceChecks.{passes_book}
use Rattle.tables.specs.Table.{places_in, table_checks, Good, row_for}
use Rattle.tables.proofs.Good.{good_place}
use Rattle.tables.proofs.GoodRow.{row_lawful}
use Rattle.rules.specs.Taking.{cell_for}
use Rattle.rules.specs.Judging.{judge_at}
use Rattle.rules.specs.Tallying.{whole_checks, tally_rest, count_of, counts_of, answer_at, tally_of, tally_says}
use Rattle.laws.proofs.Shows.{judge_shows}
use Rattle.laws.proofs.Counts.{tally_sum}
use Rattle.laws.proofs.Pages.{page_right, whole_passes}
use Rattle.channel.specs.Demand2.{Answers, Tallies}
use Rattle.channel.proofs.Refusing.{says_through}
use Rattle.channel.proofs.Calls.{demand_1}
use Rattle.channel.proofs.Values.{exact_shown}

pub answers : (mode : ℕ) (t : List ℕ) → Good t → (pg : List ℕ) (book p : ℕ) → p < places_in t → Answers mode t pg book p
answers mode t good pg book p h =
    let row = row_for t p in
    let shows = judge_shows mode row (row_lawful row) (good_place t p good h).1 (cell_for t pg book p) in
    record { shows = shows; exact = exact_shown t p (judge_at mode t pg book p) shows }

each_count : (f : ℕ → ℕ) (n j : ℕ) → j < 5 → get_or (counts_of f n) j 0 ≡ count_of f j n
each_count f n zero h = refl
each_count f n (suc zero) h = refl
each_count f n (suc (suc zero)) h = refl
each_count f n (suc (suc (suc zero))) h = refl
each_count f n (suc (suc (suc (suc zero)))) h = refl
each_count f n (suc (suc (suc (suc (suc j))))) h = absurd (omega arith)

pub tallies : (mode : ℕ) (t : List ℕ) (books book : ℕ) (pg : List ℕ) → number_said (tally_says mode t books book pg) ≡ 0 → Tallies mode t books book pg
tallies mode t books book pg said =
    let none = (demand_1.tally mode t books book pg).answered.0 said in
    let table : Good t = none_of (fails_of (table_checks t)) none.1.1.0 in
    let with_book = passes_book t books book (none.1.0, table) (leb-false books book none.1.1.1.0) in
    let passes = whole_passes mode t books book pg none.0 with_book (page_right t books pg none.1.1.1.1.0) in
    record {
      counts = tally_of mode t pg book;
      said =
          says_through (whole_checks mode t books book pg) (tally_rest t pg book) (0 ∷ tally_of mode t pg book) passes
          (none_of (fails_of (tally_rest t pg book)) none.1.1.1.1.1.0);
      each = λ j h. each_count (answer_at mode t pg book) (places_in t) j h;
      sum = tally_sum mode t pg book;
    }
