-- What the sender prints (docs/RULES.md, "Sender program"). t is the bytes of `pairing.bin`, `bytes` those of
-- `coefficients.bin`; both any.
use Rattle.std.specs.Prelude.{ℕ, List, [], replicate}
use Rattle.answers.specs.Checks.{pick, any_of, fails_of}
use Rattle.answers.specs.Refusals.{printed}
use Rattle.tables.specs.BookNumbers.{one_book, only_book}
use Rattle.wording.specs.Text.{refused_text}
use Rattle.runs.specs.File.{run_of}
use Rattle.runs.specs.Sending.{records_length, send_checks, send_says}

-- what send says in the sender, which lends it 8 bytes a place
abbrev pub sender_says : List ℕ → List ℕ → List ℕ
sender_says t bytes = send_says t one_book only_book (run_of bytes) (replicate (records_length t) 0)

-- what the sender prints: the line of a refusal, and nothing once the page is sent
abbrev pub sender_prints : List ℕ → List ℕ → List ℕ
sender_prints t bytes =
    pick (any_of (fails_of (send_checks t one_book only_book (run_of bytes) (records_length t))))
    (refused_text (printed (sender_says t bytes))) []
