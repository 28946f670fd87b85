-- What is promised of a book that is sent as a whole (docs/RULES.md, "Sending a page"), over what the contracts of
-- send, quantize, take, read and coefficient say, and over the listing. t is a table, `books` how many books
-- share it, `book` the one that is sent, `run` its coefficients, `held` what the lent buffer held; all of them any.
use Rattle.std.specs.Prelude.{ℕ, ◌*◌, ◌<◌, true, ◌≡◌, Float, ℤ, length, take, drop}
use mathlib.Core.List.{List, [], ◌∷◌, ◌++◌, Memᴰ}
use Rattle.buffers.specs.Joined.{joined}
use Rattle.tables.specs.BookNumbers.{one_book, only_book}
use Rattle.tables.specs.Table.{places_in, row_for}
use Rattle.records.specs.Record.{record_length}
use Rattle.coding.specs.Coded.{point_for}
use Rattle.quantizer.specs.Calls.{quantize_says, quantize_leaves}
use Rattle.runs.specs.Run.{vector_for}
use Rattle.runs.specs.Sending.{records_length, send_says, send_leaves}
use Rattle.rules.specs.Taking.{claims, grown, parts_of}
use Rattle.wording.specs.Text.{place_text, last_text}
use Rattle.reporting.specs.Listing.{listing}
use Rattle.channel.specs.Demand3.{SoundWith}

-- ---- the record of each place is the one that quantize writes for the place's coefficients, into any lent record
pub record Writes (t : List ℕ) (books book : ℕ) (run : List Float) (records : List ℕ) : Type 0 where
  pub size : length records ≡ records_length t
  pub quantized : (p : ℕ) → p < places_in t → (lent : List ℕ) → length lent ≡ record_length
      → (quantize_says t books book p (vector_for t run p) lent ≡ 0 ∷ [])
      × (take record_length (drop (record_length * p) records) ≡ quantize_leaves t books book p (vector_for t run p) lent)

abbrev pub SendWrites : Type 0
SendWrites = (t : List ℕ) (books book : ℕ) (run : List Float) (held : List ℕ) → send_says t books book run held ≡ 0 ∷ []
    → Writes t books book run (send_leaves t books book run held)

-- ---- all of the records arrive, and nothing else that claims a place of the book does, in any order, each once or
-- several times; what comes for other books may be anything
pub record BookArrived (t : List ℕ) (books book : ℕ) (records : List ℕ) (xs : List (List ℕ)) : Type 0 where
  pub each : (x : List ℕ) → Memᴰ x (parts_of records) → Memᴰ x xs
  pub only : (x : List ℕ) → Memᴰ x xs → (p : ℕ) → claims t books x book p ≡ true → Memᴰ x (parts_of records)

-- the point that is sent for place p
abbrev pub sent_point : List ℕ → List Float → ℕ → List ℤ
sent_point t run p = point_for (row_for t p) (vector_for t run p)

-- then every place of the book is sound with its quantized point
abbrev pub ShownWhole : Type 0
ShownWhole = (t : List ℕ) (books book : ℕ) (run : List Float) (held : List ℕ) → send_says t books book run held ≡ 0 ∷ []
    → (xs : List (List ℕ)) → BookArrived t books book (send_leaves t books book run held) xs
    → (p : ℕ) → p < places_in t → SoundWith t books book (grown t books xs) p (sent_point t run p)

-- ---- nothing else arrives at all
pub record AllArrived (records : List ℕ) (xs : List (List ℕ)) : Type 0 where
  pub each : (x : List ℕ) → Memᴰ x (parts_of records) → Memᴰ x xs
  pub only : (x : List ℕ) → Memᴰ x xs → Memᴰ x (parts_of records)

-- then the listing, which has one book, of the bytes that arrived has only sound lines, each with its point, and no
-- refused take
abbrev pub sound_line : List ℕ → List Float → ℕ → List ℕ
sound_line t run p = place_text p 0 0 (sent_point t run p)

abbrev pub ListedWhole : Type 0
ListedWhole = (t : List ℕ) (run : List Float) (held : List ℕ) → send_says t one_book only_book run held ≡ 0 ∷ [] → (bytes : List ℕ)
    → AllArrived (send_leaves t one_book only_book run held) (parts_of bytes)
    → listing t bytes ≡ joined (sound_line t run) 0 (places_in t) ++ last_text (places_in t ∷ 0 ∷ 0 ∷ 0 ∷ 0 ∷ 0 ∷ [])

-- the records themselves, as send leaves them, are such bytes, and so are they for their book
abbrev pub ArrivesAsSent : Type 0
ArrivesAsSent = (records : List ℕ) → AllArrived records (parts_of records)

abbrev pub ArrivesInBook : Type 0
ArrivesInBook = (t : List ℕ) (books book : ℕ) (records : List ℕ) (xs : List (List ℕ)) → AllArrived records xs → BookArrived t books book records xs

pub record SentWhole : Type 0 where
  pub writes : SendWrites
  pub shown : ShownWhole
  pub listed : ListedWhole
  pub as_sent : ArrivesAsSent
  pub in_book_lem : ArrivesInBook
