-- A book that is sent as a whole: every place shows what was sent for it, by demand 3 c, and the listing says so.
use Prim.Native.Nat.{ℕ, ◌<◌}
use mathlib.Core.Path.{◌≡◌, refl, sym, ap, ap₂, ◌∙◌}
use mathlib.Core.List.{List, [], ◌∷◌, ◌++◌, Memᴰ}
use native.Mathlib.Nat.{zero-add}
use native.Mathlib.Omega.{arith}
use lib.Ieee.{Float}
use lib.IntN.{ℤ, pos}
use lib.ListN.{length, get_or, replicate, length-replicate}
use Rattle.answers.proofs.InOrder.{passes_fails}
use Rattle.buffers.specs.Joined.{joined}
use Rattle.buffers.proofs.Joining.{joined_equal}
use Rattle.tables.specs.BookNumbers.{one_book, only_book, GoodBooks}
use Rattle.tables.specs.Table.{places_in, table_checks, row_of, row_for, length_for}
use Rattle.records.specs.Record.{book_in, place_in, row_in}
use Rattle.quantizer.proofs.Written.{record_written}
use Rattle.runs.proofs.Records.{record_eight}
use Rattle.runs.specs.Run.{vector_for}
use Rattle.runs.specs.Sending.{record_at, send_leaves}
use Rattle.rules.specs.Judging.{judge_at, answer_number, reason_or_distance, shown}
use Rattle.rules.specs.Reading.{told}
use Rattle.rules.specs.declared.Judged.{Judged}
use Rattle.rules.specs.declared.Judged.TheVariants as judged
use Rattle.rules.specs.Modes.{mending}
use Rattle.rules.specs.Taking.{empty, after, grown, parts_of, AllEqual}
use Rattle.rules.specs.Tallying.{answer_at, tally_of}
use Rattle.laws.proofs.Claims.{ClaimsOwn, claim_is}
use Rattle.laws.proofs.Counts.{first_alone}
use Rattle.laws.proofs.Grown.{grown_takes_all}
use Rattle.wording.specs.Text.{last_text}
use Rattle.reporting.specs.Listing.{line_at, lines_from, last_line, listed}
use Rattle.channel.specs.Demand3.{SoundWith}
use Rattle.channel.specs.Sending.{BookArrived, AllArrived, sent_point, ShownWhole, sound_line, ListedWhole, ArrivesAsSent, ArrivesInBook, SentWhole}
use Rattle.channel.proofs.Reading.{grown_reads}
use Rattle.channel.proofs.Sent.{shown_as_sent}
use Rattle.channel.proofs.SendingAccepted.{AcceptedRun, accepts_run, place_sent, send_writes}
use Rattle.channel.proofs.SendingParts.{is_part, part_is}

-- a sound place has neither a reason nor a distance
sound_field : (j : Judged) → answer_number j ≡ 0 → reason_or_distance j ≡ 0
sound_field (judged.Sound k n) e = refl
sound_field (judged.Mended k n d) e = absurd (omega arith)
sound_field judged.Missing e = refl
sound_field judged.Contested e = refl
sound_field (judged.Unreadable why) e = absurd (omega arith)

-- a place that is sound with a point is told as sound in mending mode too, and that point is shown
record ToldSound (t pg : List ℕ) (book p : ℕ) (q : List ℤ) : Type 0 where
  pub sound : answer_number (judge_at mending t pg book p) ≡ 0
  pub no_field : reason_or_distance (judge_at mending t pg book p) ≡ 0
  pub point : shown (row_for t p) (judge_at mending t pg book p) ≡ q

sound_told : (t : List ℕ) (books : ℕ) → GoodBooks t books → (xs : List (List ℕ)) (book p : ℕ) → book < books → p < places_in t → (q : List ℤ)
    → SoundWith t books book (grown t books xs) p q → ToldSound t (grown t books xs) book p q
sound_told t books good xs book p k h q sound =
    let j = judge_at mending t (grown t books xs) book p in
    let out = replicate (length_for t p) (pos 0) in
    let long : length out ≡ length_for t p = length-replicate (length_for t p) (pos 0) in
    let reads = grown_reads mending refl t books good xs book p k h j (shown (row_for t p) j) refl refl in
    let says : told j ≡ 0 ∷ 0 ∷ 0 ∷ [] = sym (reads.read_says_lem out long) ∙ (sound.reads mending refl).read_says_lem out long in
    let is : answer_number j ≡ 0 = ap (λ (ns : List ℕ). get_or ns 1 0) says in
    record {
      sound = is;
      no_field = sound_field j is;
      point = sym (reads.read_leaves_lem out long) ∙ (sound.reads mending refl).read_leaves_lem out long;
    }

-- ---- the records of a run that send accepts
module _ (t : List ℕ) (books book : ℕ) (run : List Float) (held : List ℕ) (a : AcceptedRun t books book run held) where
  -- each names its book, its place and its row
  names_all : (p : ℕ) → p < places_in t
      → (book_in (record_at t book run p) ≡ book) × (place_in (record_at t book run p) ≡ p) × (row_in (record_at t book run p) ≡ row_of t p)
  names_all p h =
      let written = record_written t book p (vector_for t run p) a.good a.few h (a.long p h) in
      (written.holds_book, written.holds_place, written.holds_row)

  -- one of them is that of the place that it names
  is_of_lem : (x : List ℕ) → Memᴰ x (parts_of (send_leaves t books book run held)) → (place_in x < places_in t) × (x ≡ record_at t book run (place_in x))
  is_of_lem x m =
      let part = part_is (record_at t book run) (record_eight t book run) 0 (places_in t) x (rw a.leaves at m) in
      let is : x ≡ record_at t book run part.0 = part.2 ∙ ap (record_at t book run) (zero-add part.0) in
      let names : place_in x ≡ part.0 = ap place_in is ∙ (names_all part.0 part.1).1 in
      (rw names part.1, is ∙ ap (record_at t book run) (sym names))

  -- and claims it
  its_claim : (x : List ℕ) → Memᴰ x (parts_of (send_leaves t books book run held)) → ClaimsOwn t books x
  its_claim x m =
      let from = is_of_lem x m in
      let named = names_all (place_in x) from.0 in
      let of_book : book_in x ≡ book = ap book_in from.1 ∙ named.0 in
      record {
        eight = ap length from.1 ∙ record_eight t book run (place_in x);
        of_book = refl;
        named = refl;
        of_row = ap row_in from.1 ∙ named.2;
        in_books = rw of_book a.in_books;
        inside = from.0;
      }

  -- what arrives: the record of each place is among it, and nothing else for that place
  module _ (xs : List (List ℕ)) (arrived : BookArrived t books book (send_leaves t books book run held) xs) (p : ℕ) (h : p < places_in t) where
    came : Memᴰ (record_at t book run p) xs
    came =
        let part = is_part (record_at t book run) (record_eight t book run) 0 (places_in t) p h in
        arrived.each (record_at t book run p) (rw a.leaves (rw (zero-add p) at part))

    alone : AllEqual t books xs book p (record_at t book run p)
    alone x m claiming = (is_of_lem x (arrived.only x m p claiming)).1 ∙ ap (record_at t book run) (claim_is t books x book p claiming).named

    place_sound : SoundWith t books book (grown t books xs) p (sent_point t run p)
    place_sound =
        shown_as_sent t books book p (vector_for t run p) (record_at t book run p) (sent_point t run p) (place_sent t books book run held a p h) xs came alone

    place_told : ToldSound t (grown t books xs) book p (sent_point t run p)
    place_told = sound_told t books a.shared xs book p a.in_books h (sent_point t run p) place_sound

    line_sound : line_at mending t (grown t books xs) book p ≡ sound_line t run p
    line_sound = rw (place_told.sound, place_told.no_field, place_told.point) refl

in_book_lem : ArrivesInBook
in_book_lem t books book records xs all = record { each = all.each; only = λ x m p claiming. all.only x m }

-- ---- the one book of a listing
module _ (t : List ℕ) (run : List Float) (held : List ℕ) (a : AcceptedRun t one_book only_book run held) (xs : List (List ℕ))
    (all : AllArrived (send_leaves t one_book only_book run held) xs) where
  arrived : BookArrived t one_book only_book (send_leaves t one_book only_book run held) xs
  arrived = in_book_lem t one_book only_book (send_leaves t one_book only_book run held) xs all

  lines_sound : lines_from mending t (grown t one_book xs) only_book 0 (places_in t) ≡ joined (sound_line t run) 0 (places_in t)
  lines_sound =
      joined_equal (line_at mending t (grown t one_book xs) only_book) (sound_line t run) 0 (places_in t)
      (λ p from to. line_sound t one_book only_book run held a xs arrived p (omega arith))

  all_sound : tally_of mending t (grown t one_book xs) only_book ≡ places_in t ∷ 0 ∷ 0 ∷ 0 ∷ 0 ∷ []
  all_sound =
      first_alone (answer_at mending t (grown t one_book xs) only_book) (places_in t)
      (λ p h. (place_told t one_book only_book run held a xs arrived p h).sound)

  page_listed : listed t (after t one_book (empty t one_book) xs) ≡ joined (sound_line t run) 0 (places_in t) ++ last_text (places_in t ∷ 0 ∷ 0 ∷ 0 ∷ 0 ∷ 0 ∷ [])
  page_listed =
      ap₂ ◌++◌ lines_sound
      (ap₂ last_line all_sound (grown_takes_all t one_book a.shared xs (λ x m. its_claim t one_book only_book run held a x (all.only x m))))

shown_whole : ShownWhole
shown_whole t books book run held says xs arrived p h = place_sound t books book run held (accepts_run t books book run held says) xs arrived p h

listed_whole : ListedWhole
listed_whole t run held says bytes arrived =
    let a = accepts_run t one_book only_book run held says in
    rw (passes_fails (table_checks t) a.good) (page_listed t run held a (parts_of bytes) arrived)

as_sent : ArrivesAsSent
as_sent records = record { each = λ x m. m; only = λ x m. m }

pub sent_whole : SentWhole
sent_whole = record { writes = send_writes; shown = shown_whole; listed = listed_whole; as_sent = as_sent; in_book_lem = in_book_lem }
