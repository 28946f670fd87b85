-- What the answers of the report's calls say, and how many bytes they tell.
use Rattle.std.specs.Prelude.{ℕ, List, [], ◌∷◌, Result, Ok, Err}
use Rattle.answers.specs.declared.Refusal.{Refusal}
use Rattle.answers.specs.Refusals.{one_number, result_meaning}
use Rattle.report.specs.declared.Listed.{Listed}

-- lines written: the place from which to go on, and how many bytes were written; or a refusal
abbrev pub listed_tells : Listed → List ℕ
listed_tells l = l.to ∷ l.size ∷ []

abbrev pub listed_meaning : Result Listed Refusal → List ℕ
listed_meaning = result_meaning listed_tells

-- a line written: how many bytes it has; or a refusal
abbrev pub lined_meaning : Result ℕ Refusal → List ℕ
lined_meaning = result_meaning one_number

-- how many bytes were written; a refusal writes none
abbrev pub size_listed : Result Listed Refusal → ℕ
size_listed (Ok l) = l.size
size_listed (Err refusal) = 0

abbrev pub size_lined : Result ℕ Refusal → ℕ
size_lined (Ok size) = size
size_lined (Err refusal) = 0
