-- Two lines of the same place are compared behind the place: a space and the word, a space and the digits of the reason
-- or the distance, and the point.
use Prim.Native.Nat.{ℕ}
use mathlib.Core.List.{List, ◌∷◌, ◌++◌, map}
use mathlib.Core.Path.{◌≡◌, sym, ap, ◌∙◌}
use lib.IntN.{ℤ, pos}
use lib.ListN.{length, get_or, drop, replicate}
use lib.Seq.{drop-append_seam}
use Rattle.tables.specs.Row.{length_of}
use Rattle.wording.specs.Text.{ascii, decimal, integer, spaced, word, place_text}

-- what is shown of a place without a point
abbrev pub zeros : List ℕ → List ℤ
zeros row = replicate (length_of row) (pos 0)

abbrev pub after_place : ℕ → ℕ → List ℤ → List ℕ
after_place answer third q = spaced (word answer ∷ decimal third ∷ map integer q) ++ ascii "\n"

-- where the lines are the same, so is what stands there, byte for byte
pub same_after : (p answer third answer' third' : ℕ) (z q : List ℤ) → place_text p answer third z ≡ place_text p answer' third' q → (i : ℕ)
    → get_or (after_place answer third z) i 0 ≡ get_or (after_place answer' third' q) i 0
same_after p answer third answer' third' z q same i =
    ap (λ (text : List ℕ). get_or text i 0)
    (sym (drop-append_seam (decimal p) (after_place answer third z)) ∙ ap (drop (length (decimal p))) same ∙ drop-append_seam (decimal p) (after_place answer' third' q))
