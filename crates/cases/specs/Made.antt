-- What is made of the numbers of a line.
use Rattle.std.specs.Prelude.{◌≡◌, ℕ, ◌≤◌, List, length, drop, slice_index, EachIndex, HoldsAt}

-- each thing is made of the number at its place, and of 0 where the line has no more
abbrev pub AreMade : {T : Type 0} → (ℕ → T → Type 0) → List ℕ → List T → Type 0
AreMade made numbers things = EachIndex things (λ k. HoldsAt (made (slice_index numbers k)) things k)

-- so many things are made, which is as many as the room has or fewer, and the numbers behind them are left
abbrev pub AreSized : {T : Type 0} → (ℕ → T → Type 0) → ℕ → ℕ → List ℕ → List T → List ℕ → Type 0
AreSized made room size numbers things left = (size ≤ room) × (length things ≡ size) × AreMade made numbers things × (left ≡ drop size numbers)
