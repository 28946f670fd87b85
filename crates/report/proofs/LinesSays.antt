-- What the calls of the report say and leave, a block of lines or one line: the room is checked first, and the text
-- begins the buffer.
use Prim.Native.Nat.{ℕ, ◌+◌, ◌-◌, ◌*◌, ◌/◌, ◌≤◌, ◌<◌, min}
use mathlib.Core.List.{List, [], ◌∷◌}
use mathlib.Core.Path.{◌≡◌, refl, sym, ◌∙◌}
use native.Mathlib.Omega.{arith}
use borrow.Author.Tests.{lt-ltb, le-ltb}
use lib.Dec.{lit<}
use lib.ListN.{length}
use Rattle.answers.proofs.Each.{each_numbered}
use Rattle.answers.proofs.InOrder.{says_passes, passes_says, passes_leaves, refusal_stands, refusal_leaves}
use Rattle.answers.specs.Checks.{Check, first_of, leaves, each_from, Passes}
use Rattle.answers.specs.Refusals.{meaning}
use Rattle.answers.specs.declared.Refusal.{Refusal}
use Rattle.answers.specs.declared.Refusal.TheVariants as refusal
use Rattle.buffers.proofs.Writing.{begins_with, wrote_length}
use Rattle.buffers.specs.Written.{Wrote}
use Rattle.tables.proofs.Walking.{placed_in}
use Rattle.laws.proofs.Pages.{look_shared, look_place, look_size}
use Rattle.rules.specs.Taking.{cell_check_at}
use Rattle.report.specs.Bounds.{page_spanned, HasRoom, Listable}
use Rattle.report.specs.declared.inner.block.Span.{Span}
use Rattle.reporting.specs.Calls.{starting_with, line_space, no_room, lines_fit, lines_rest, lines_text, lines_answer, line_says, line_leaves}
use Rattle.reporting.specs.Listing.{lines_from}

-- `cs` are the checks of a call, and `text` is what it writes into a buffer that held `held`: what is said, what is
-- left of the buffer, and how many bytes of it were written
abbrev pub Says : List Check → List ℕ → List ℕ → List ℕ → List ℕ → List ℕ → ℕ → Type 0
Says cs answer text held said left size =
    (said ≡ first_of cs answer) × ((left ≡ leaves cs (starting_with text held) held) × (size ≤ length left))

module _ (cs : List Check) (answer text held : List ℕ) where
  says_written : {most end : ℕ} {x : List ℕ} → Passes cs → most ≤ length held → Wrote held 0 text most end x → Says cs answer text held answer x end
  says_written passes to w =
      let begins = w.made ∙ begins_with held text (omega (arith, w.ends, w.to)) in
      (sym (passes_says answer cs passes), (begins ∙ sym (passes_leaves (starting_with text held) held cs passes), omega (arith, w.to, wrote_length w)))

-- ---- one line, whose text is known
module _ (text held : List ℕ) where
  pub line_4 : length held < line_space → (4 ∷ [] ≡ line_says text held) × (held ≡ line_leaves text held) × (0 ≤ length held)
  line_4 short = let bad = lt-ltb (length held) line_space short in (rw bad refl, rw bad refl, omega arith)

  pub line_written : {end : ℕ} {x : List ℕ} → line_space ≤ length held → Wrote held 0 text line_space end x
      → (0 ∷ end ∷ [] ≡ line_says text held) × (x ≡ line_leaves text held) × (end ≤ length x)
  line_written {end} room w =
      let size : end ≡ length text = omega (arith, w.ends) in
      let did = says_written (no_room (length held) ∷ []) (0 ∷ length text ∷ []) text held (le-ltb (length held) line_space room, tt) room w in
      (rw size did.0, did.1.0, did.1.1)

-- ---- the lines of the places from p on
module _ (mode : ℕ) (t pg : List ℕ) (book p : ℕ) (held : List ℕ) where
  abbrev pub SaysLines : List ℕ → List ℕ → ℕ → Type 0
  SaysLines = Says (lines_rest t pg book p (length held)) (lines_answer mode t pg book p (length held)) (lines_text mode t pg book p (length held)) held

  lines_refused : (r : Refusal) → meaning r ≡ first_of (lines_rest t pg book p (length held)) (0 ∷ []) → SaysLines (meaning r) held 0
  lines_refused r said =
      let b = length held in
      let cs = lines_rest t pg book p b in
      (refusal_stands [] (lines_answer mode t pg book p b) cs r said, (refusal_leaves (starting_with (lines_text mode t pg book p b) held) held [] cs r said, omega arith))

  pub lines_4 : length held < line_space → SaysLines (4 ∷ []) held 0
  lines_4 short = lines_refused refusal.BufferLength (rw (lt-ltb (length held) line_space short) refl)

module _ {mode : ℕ} {t page : List ℕ} {opened : Span} (found : Listable mode t page opened) where
  abbrev p : ℕ
  p = opened.from

  abbrev book : ℕ
  book = opened.book

  abbrev books : ℕ
  books = opened.books

  pub from_places : p ≤ opened.to
  from_places = omega (arith, found.to_end, found.is_places, (look_place mode t books book page p found.passes).1)

  -- as many as there are, or as there is room for
  module _ (held : List ℕ) {count : ℕ} (is_count : count ≡ min (opened.to - p) (length held / line_space)) where
    fits : p + count - p ≡ lines_fit t p (length held)
    fits = rw (← found.is_places, ← found.to_end) (omega (arith, is_count))

    abbrev pub spanned : Span
    spanned = record { layout = opened.layout; places = opened.places; books = books; book = book; row = opened.row; from = p; to = p + count }

    pub has_room : HasRoom t page spanned held
    has_room =
        let place = look_place mode t books book page p found.passes in
        let shared = look_shared mode t books book page p found.passes in
        record {
          spans = record {
            shared = shared.0;
            size = look_size mode t books book page p found.passes;
            in_books = shared.1;
            is_places = found.is_places;
            to_places = omega (arith, from_places, is_count, found.to_end);
            placed = placed_in place.0 place.1 found.is_row;
            from_to = omega arith;
          };
          room = omega (arith, is_count);
        }

    -- what is said of their cells, and then written
    module _ (room : line_space ≤ length held) where
      pub lines_12 : (r : Refusal) → meaning r ≡ first_of (each_from (cell_check_at t (page_spanned t page opened) book) p (p + count - p)) (0 ∷ [])
          → SaysLines mode t (page_spanned t page opened) book p held (meaning r) held 0
      lines_12 r said = lines_refused mode t (page_spanned t page opened) book p held r (rw (le-ltb (length held) line_space room) (rw fits at said))

      pub lines_written : {end : ℕ} {x : List ℕ} → 0 ∷ [] ≡ first_of (each_from (cell_check_at t (page_spanned t page opened) book) p (p + count - p)) (0 ∷ [])
          → Wrote held 0 (lines_from mode t (page_spanned t page opened) book p (p + count - p)) (line_space * (p + count - p)) end x
          → SaysLines mode t (page_spanned t page opened) book p held (0 ∷ (p + count) ∷ end ∷ []) x end
      lines_written {end} said w =
          let b = length held in
          let none_bad = says_passes [] [] (each_from (cell_check_at t (page_spanned t page opened) book) p (lines_fit t p b)) (each_numbered (cell_check_at t (page_spanned t page opened) book) p (lines_fit t p b) (λ j. lit< tt)) (sym (rw fits at said)) in
          let wrote = rw fits at w in
          let to : p + count ≡ p + lines_fit t p b = omega (arith, fits) in
          let size : end ≡ length (lines_text mode t (page_spanned t page opened) book p b) = omega (arith, wrote.ends) in
          let did = says_written (lines_rest t (page_spanned t page opened) book p b) (lines_answer mode t (page_spanned t page opened) book p b) (lines_text mode t (page_spanned t page opened) book p b) held (le-ltb b line_space room, none_bad) (rw fits at has_room.room) wrote in
          (rw (to, size) did.0, did.1)
