-- The steps of the listing program make the listing, for any table.
use Prim.Native.Nat.{ℕ, ◌+◌, ◌≤◌, ◌<◌}
use mathlib.Core.List.{List, [], ◌∷◌, ◌++◌}
use mathlib.Core.Logic.{⊎_elim}
use mathlib.Core.Path.{◌≡◌, refl, sym, ap, ◌∙◌}
use native.Mathlib.Nat.{zero-add}
use native.Mathlib.Omega.{arith}
use borrow.Author.Tests.{le-ltb, ltb-false}
use lib.Dec.{lit<}
use lib.ListN.{length, get_or, take, drop}
use lib.Seq.{take-append_seam}
use Rattle.answers.proofs.Each.{passes_each, each_numbered}
use Rattle.answers.proofs.OneToOne.{of_7}
use Rattle.answers.proofs.InOrder.{Numbered, numbered_then, says_passes, passes_apart, passes_then, passes_fails, passes_says, passes_leaves, refusal_fails}
use Rattle.answers.specs.Checks.{number_said, each_from, Passes}
use Rattle.answers.specs.Refusals.{meaning, number_of, printed}
use Rattle.answers.specs.declared.Refusal.{Refusal}
use Rattle.tables.proofs.Good.{places_to}
use Rattle.tables.proofs.PlaceChecks.{passes_book, passes_place}
use Rattle.tables.proofs.Seven.{table_says_7, wrong_size_bad, room_tells}
use Rattle.tables.specs.BookNumbers.{one_book, only_book, GoodBooks, book_checks}
use Rattle.tables.specs.Table.{table_room, places_in, table_checks, check_says, Good}
use Rattle.laws.proofs.Blocks.{collected_then}
use Rattle.laws.proofs.Grown.{grown_ready, grown_not_bad}
use Rattle.laws.proofs.Pages.{Sized, page_size, whole_passes, look_numbered, look_passes, look_place}
use Rattle.rules.specs.Modes.{mending}
use Rattle.rules.specs.Reading.{look_checks}
use Rattle.rules.specs.Taking.{cell_check_at, grown}
use Rattle.rules.specs.Tallying.{whole_checks, tally_rest, tally_checks, tally_of, tally_says}
use Rattle.wording.specs.Text.{refused_text}
use Rattle.reporting.specs.Calls.{starting_with, line_space, lines_fit, lines_rest, lines_checks, lines_text, lines_answer, lines_says, lines_leaves}
use Rattle.reporting.specs.Listing.{line_at, lines_from, listed, listing}
use Rattle.reporting.specs.Steps.{Steps}
use Rattle.buffers.proofs.Joining.{joined_then}

module _ (t : List ℕ) where
  refused_7 : (bytes : List ℕ) (r : Refusal) → meaning r ≡ check_says t → refused_text (printed (meaning r)) ≡ listing t bytes
  refused_7 bytes r said =
      let fails = refusal_fails (places_in t ∷ []) (table_checks t) r said in
      let seven : number_of r ≡ 7 = ap number_said said ∙ table_says_7 t (0 ∷ places_in t ∷ []) fails in
      rw (fails, of_7 r seven) refl

  room_lists : (bytes : List ℕ) → listing (take table_room t) bytes ≡ listing t bytes
  room_lists bytes =
      ⊎_elim (λ all. ap (λ (table : List ℕ). listing table bytes) all)
      (λ both. rw (wrong_size_bad (take table_room t) both.0, wrong_size_bad t both.1) refl)
      (room_tells t)

  blocks_go_on : (p b : ℕ) → p < places_in t → line_space ≤ b → (p < p + lines_fit t p b) × (p + lines_fit t p b ≤ places_in t)
  blocks_go_on p b h room = (omega arith, omega arith)

  one_block : (pg : List ℕ) (p b : ℕ) → lines_from mending t pg only_book 0 p ++ lines_text mending t pg only_book p b ≡ lines_from mending t pg only_book 0 (p + lines_fit t p b)
  one_block pg p b = sym (joined_then (line_at mending t pg only_book) 0 p (lines_fit t p b) ∙ rw (zero-add p) refl)

  -- ---- a page that grew
  module _ (good : Good t) (xs : List (List ℕ)) where
    shared : GoodBooks t one_book
    shared = (refl, good)

    with_book : Passes (book_checks t one_book only_book)
    with_book = passes_book t one_book only_book shared (lit< tt)

    sized : Sized t one_book (grown t one_book xs)
    sized = page_size t one_book (grown t one_book xs) (grown_ready t one_book shared xs)

    none_bad : (p n : ℕ) → p + n ≤ places_in t → Passes (each_from (cell_check_at t (grown t one_book xs) only_book) p n)
    none_bad p n to = passes_each (cell_check_at t (grown t one_book xs) only_book) p n (λ j from below. grown_not_bad t one_book shared xs only_book j (lit< tt) (omega arith))

    counted : tally_says mending t one_book only_book (grown t one_book xs) ≡ 0 ∷ tally_of mending t (grown t one_book xs) only_book
    counted =
        let pg = grown t one_book xs in
        passes_says (0 ∷ tally_of mending t pg only_book) (tally_checks mending t one_book only_book pg) (passes_then (whole_checks mending t one_book only_book pg) (tally_rest t pg only_book) (whole_passes mending t one_book only_book pg refl with_book sized) (none_bad 0 (places_in t) (omega arith)))

    block_passes : (p b : ℕ) → p < places_in t → line_space ≤ b → Passes (lines_checks mending t one_book only_book (grown t one_book xs) p b)
    block_passes p b h room =
        let pg = grown t one_book xs in
        let look = look_passes mending t one_book only_book pg p refl (passes_place t one_book only_book p with_book h) sized in
        passes_then (look_checks mending t one_book only_book pg p) (lines_rest t pg only_book p b) look (le-ltb b line_space room, none_bad p (lines_fit t p b) (blocks_go_on p b h room).1)

    block_written : (p : ℕ) (held : List ℕ) → p < places_in t → line_space ≤ length held
        → (lines_says mending t one_book only_book (grown t one_book xs) p held ≡ lines_answer mending t (grown t one_book xs) only_book p (length held))
        × (lines_leaves mending t one_book only_book (grown t one_book xs) p held ≡ starting_with (lines_text mending t (grown t one_book xs) only_book p (length held)) held)
    block_written p held h room =
        let pg = grown t one_book xs in
        let b = length held in
        let passes = block_passes p b h room in
        (passes_says (lines_answer mending t pg only_book p b) (lines_checks mending t one_book only_book pg p b) passes, passes_leaves (starting_with (lines_text mending t pg only_book p b) held) held (lines_checks mending t one_book only_book pg p b) passes)

  -- ---- a call that has written a block goes on, and stays among the 4,096 places
  pub said_goes_on : (mode books book : ℕ) (pg held : List ℕ) (p to size : ℕ) → 0 ∷ to ∷ size ∷ [] ≡ lines_says mode t books book pg p held → (p < to) × (to ≤ 4096)
  said_goes_on mode books book pg held p to size said =
      let b = length held in
      let cs = lines_checks mode t books book pg p b in
      let rest : Numbered (lines_rest t pg book p b) = (lit< tt, each_numbered (cell_check_at t pg book) p (lines_fit t p b) (λ j. lit< tt)) in
      let passes = says_passes ((p + lines_fit t p b) ∷ length (lines_text mode t pg book p b) ∷ []) (to ∷ size ∷ []) cs (numbered_then (look_checks mode t books book pg p) (lines_rest t pg book p b) (look_numbered mode t books book pg p) rest) (sym said) in
      let both = passes_apart (look_checks mode t books book pg p) (lines_rest t pg book p b) passes in
      let place = look_place mode t books book pg p both.0 in
      let on = blocks_go_on p b place.1 (ltb-false b line_space both.1.0) in
      let same : to ≡ p + lines_fit t p b = ap (λ (says : List ℕ). get_or says 1 0) (said ∙ passes_says (lines_answer mode t pg book p b) cs passes) in
      (omega (arith, on.0, same), omega (arith, on.1, same, places_to t place.0))

  pub steps : Steps t
  steps = record {
    bad_table_lem = refused_7;
    enough_read = room_lists;
    in_blocks = collected_then t one_book;
    grows = λ bytes. refl;
    lines_written = block_written;
    tallied = counted;
    text_printed = λ text held. take-append_seam text (drop (length text) held);
    goes_on = blocks_go_on;
    one_block_more = one_block;
    whole = λ good bytes pg refused made. rw (passes_fails (table_checks t) good) (sym (ap (listed t) made));
  }
