-- What the sender prints with the table of the whole case (docs/RULES.md, "Sender program" and "Worked cases").
-- proofs/Example.antt computes every line.
use Rattle.std.specs.Prelude.{[], ◌++◌, ◌≡◌, take}
use Rattle.tables.specs.Example.{whole_case}
use Rattle.wording.specs.Text.{ascii}
use Rattle.runs.specs.Example.{three, unusable}
use Rattle.sender.specs.Prints.{sender_prints}

pub record Example : Type 0 where
  -- two places of three coordinates each: what is printed of six coefficients, of three, of an unusable one, and with
  -- no table
  pub sent : sender_prints whole_case (three ++ three) ≡ []
  pub too_short : sender_prints whole_case three ≡ ascii "refused 4\n"
  pub last_cut : sender_prints whole_case (three ++ take 11 three) ≡ ascii "refused 4\n"
  pub place_named_lem : sender_prints whole_case (three ++ take 4 three ++ unusable) ≡ ascii "refused 11 1 1\n"
  pub no_table : sender_prints [] three ≡ ascii "refused 7\n"
