-- The vector of docs/RULES.md, "Worked cases": (1.5, 0, -0.75).
use Rattle.std.specs.Prelude.{List, [], ◌∷◌, true, false, Float, pos, negsuc}
use Rattle.std.specs.Float.{fin}

abbrev pub vector : List Float
vector = fin false 3 (negsuc 0) ∷ fin false 0 (pos 0) ∷ fin true 3 (negsuc 1) ∷ []
