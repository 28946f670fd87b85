-- What the call count says of a shell: docs/RULES.md, "Points and counts", "Refusal numbers" and "Order of checks".
-- l is the length and k the radius, any whole numbers.
use Rattle.std.specs.Prelude.{ℕ, List, [], ◌∷◌, Result}
use Rattle.answers.specs.declared.Refusal.{Refusal}
use Rattle.answers.specs.Refusals.{one_number, result_meaning}
use Rattle.answers.specs.Checks.{first_of}
use Rattle.counts.specs.Counts.{N}
use Rattle.tables.specs.Usable.{shell_checks}

-- what the call count answers: N, or a refusal
abbrev pub count_meaning : Result ℕ Refusal → List ℕ
count_meaning = result_meaning one_number

-- what the call count is to say
abbrev pub count_says : ℕ → ℕ → List ℕ
count_says l k = first_of (shell_checks l k (N l k)) (0 ∷ N l k ∷ [])
