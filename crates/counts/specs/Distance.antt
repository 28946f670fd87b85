-- How far an index is past the end: docs/RULES.md, "Enumerations": "the index less T".
use Rattle.std.specs.Prelude.{ℕ, ◌-◌}

-- of the index n, in a shell with this total; refusal 6 and a mended place tell it
unfoldable pub distance : ℕ → ℕ → ℕ
distance total n = n - total
