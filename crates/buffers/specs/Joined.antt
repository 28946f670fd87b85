-- Pieces one after the other, as a loop writes them: lines into a text, records into a page's buffer.
use Rattle.std.specs.Prelude.{ℕ, zero, suc, List, [], ◌++◌}

-- what f gives for each number from p on, n of them
unfoldable pub joined : {A : Type 0} → (ℕ → List A) → ℕ → ℕ → List A
joined f p zero = []
joined f p (suc n) = f p ++ joined f (suc p) n
