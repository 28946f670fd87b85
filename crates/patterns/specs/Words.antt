-- What is stored of the pattern counts: five words of 64 bits for each length, and in each word four counts of 16 bits.
use Rattle.std.specs.Prelude.{ℕ, ◌+◌, ◌*◌, ◌/◌, ◌%◌, List, [], ◌∷◌}
use Rattle.counts.specs.Counts.{D}

-- numbers of 16 bits in one, the first of them lowest
unfoldable pub together : List ℕ → ℕ
together [] = 0
together (x ∷ xs) = x + 65536 * together xs

-- D(s,l), D(s+1,l), D(s+2,l) and D(s+3,l)
abbrev pub four : ℕ → ℕ → List ℕ
four s l = D s l ∷ D (s + 1) l ∷ D (s + 2) l ∷ D (s + 3) l ∷ []

-- word i: those of length i / 5 from s = 4 (i % 5) on
unfoldable pub stored : ℕ → ℕ
stored i = together (four (4 * (i % 5)) (i / 5))
