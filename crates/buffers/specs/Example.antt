-- A buffer of four numbers, written: an element more or fewer, another place to begin at, or a change beside the
-- text, and a line disagrees; and pieces, joined in order. proofs/Example.antt computes every line.
use Rattle.std.specs.Prelude.{ℕ, ◌*◌, ◌≡◌, List, [], ◌∷◌}
use Rattle.buffers.specs.Joined.{joined}
use Rattle.buffers.specs.Written.{written, Wrote}

abbrev pub buffer : List ℕ
buffer = 10 ∷ 20 ∷ 30 ∷ 40 ∷ []

-- a piece for each number
abbrev pub piece : ℕ → List ℕ
piece i = i ∷ (10 * i) ∷ []

pub record Example : Type 0 where
  pub none : written buffer 1 (1 ∷ 2 ∷ []) 0 ≡ 10 ∷ 20 ∷ 30 ∷ 40 ∷ []
  pub one : written buffer 1 (1 ∷ 2 ∷ []) 1 ≡ 10 ∷ 1 ∷ 30 ∷ 40 ∷ []
  pub both : written buffer 1 (1 ∷ 2 ∷ []) 2 ≡ 10 ∷ 1 ∷ 2 ∷ 40 ∷ []
  pub from_0 : written buffer 0 (1 ∷ 2 ∷ 3 ∷ 4 ∷ []) 3 ≡ 1 ∷ 2 ∷ 3 ∷ 40 ∷ []
  pub whole : written buffer 0 (1 ∷ 2 ∷ 3 ∷ 4 ∷ []) 4 ≡ 1 ∷ 2 ∷ 3 ∷ 4 ∷ []
  -- two elements from place 1 on, of three that there is room for, end before place 3
  pub two_of_three : Wrote buffer 1 (1 ∷ 2 ∷ []) 3 3 (10 ∷ 1 ∷ 2 ∷ 40 ∷ [])
  -- the pieces of three numbers from 5 on, in order; of none, nothing
  pub three_joined : joined piece 5 3 ≡ 5 ∷ 50 ∷ 6 ∷ 60 ∷ 7 ∷ 70 ∷ []
  pub none_joined : joined piece 5 0 ≡ []
