-- The offsets of states and records in a page of n cells, in each layout: each is in the page, no two stand in the same
-- place, and together they are all of it. Nothing else here knows what the offsets are.
use Prim.Native.Nat.{ℕ, ◌+◌, ◌-◌, ◌/◌, ◌%◌, ◌≤◌, ◌<◌}
use mathlib.Core.Logic.{◌⊎◌, inl, inr}
use mathlib.Core.Path.{◌≡◌}
use native.Mathlib.Decide.{dec_lt}
use native.Mathlib.Omega.{arith}
use Rattle.layout.specs.Layout.{page_length, state_offset, record_offset}
use Rattle.layout.specs.declared.Layout.{Layout}
use Rattle.layout.specs.declared.Layout.TheVariants as layouts

-- beside the record of cell p
abbrev pub Beside : Layout → ℕ → ℕ → ℕ → Type 0
Beside layout n j p = (j < record_offset layout n p) ⊎ (record_offset layout n p + 8 ≤ j)

pub state_inside : (layout : Layout) (n p : ℕ) → p < n → state_offset layout n p < page_length n
state_inside layouts.CellByCell n p h = omega arith
state_inside layouts.StatesFirst n p h = omega arith

pub record_inside : (layout : Layout) (n p : ℕ) → p < n → record_offset layout n p + 8 ≤ page_length n
record_inside layouts.CellByCell n p h = omega arith
record_inside layouts.StatesFirst n p h = omega arith

pub states_apart : (layout : Layout) (n p q : ℕ) → (q ≡ p → ⊥) → state_offset layout n q ≡ state_offset layout n p → ⊥
states_apart layouts.CellByCell n p q apart e = apart (omega arith)
states_apart layouts.StatesFirst n p q apart e = apart (omega arith)

-- no state is in a record, its own or another's
pub state_beside : (layout : Layout) (n p q : ℕ) → q < n → Beside layout n (state_offset layout n q) p
state_beside layouts.StatesFirst n p q h = inl (omega arith)
state_beside layouts.CellByCell n p q h = go (dec_lt p q)
  where
    go : Dec (p < q) → Beside layouts.CellByCell n (state_offset layouts.CellByCell n q) p
    go (yes g) = inr (omega arith)
    go (no g) = inl (omega arith)

pub not_a_state : (layout : Layout) (n p q i : ℕ) → p < n → i < 8 → record_offset layout n q + i ≡ state_offset layout n p → ⊥
not_a_state layouts.CellByCell n p q i below h e = omega arith
not_a_state layouts.StatesFirst n p q i below h e = omega arith

pub records_apart : (layout : Layout) (n p q i : ℕ) → i < 8 → (q ≡ p → ⊥) → Beside layout n (record_offset layout n q + i) p
records_apart layout n p q i h apart = go layout (dec_lt p q)
  where
    go : (layout : Layout) → Dec (p < q) → Beside layout n (record_offset layout n q + i) p
    go layouts.CellByCell (yes g) = inr (omega arith)
    go layouts.StatesFirst (yes g) = inr (omega arith)
    go layouts.CellByCell (no g) = let below : q < p = omega (arith, apart) in inl (omega arith)
    go layouts.StatesFirst (no g) = let below : q < p = omega (arith, apart) in inl (omega arith)

-- a byte of the page is a state or a byte of a record
pub record Stands (layout : Layout) (n j : ℕ) : Type 0 where
  pub place : ℕ
  pub inside : place < n
  pub stands_as : (j ≡ state_offset layout n place) ⊎ ((i : ℕ) × (i < 8) × (j ≡ record_offset layout n place + i))

pub stands : (layout : Layout) (n j : ℕ) → j < page_length n → Stands layout n j
stands layouts.CellByCell n j h = record { place = j / 9; inside = omega arith; stands_as = go (dec_lt 0 (j % 9)) }
  where
    go : Dec (0 < j % 9) → (j ≡ state_offset layouts.CellByCell n (j / 9)) ⊎ ((i : ℕ) × (i < 8) × (j ≡ record_offset layouts.CellByCell n (j / 9) + i))
    go (yes g) = inr (j % 9 - 1, omega arith, omega arith)
    go (no g) = inl (omega arith)
stands layouts.StatesFirst n j h = go (dec_lt j n)
  where
    go : Dec (j < n) → Stands layouts.StatesFirst n j
    go (yes g) = record { place = j; inside = g; stands_as = inl (omega arith) }
    go (no g) = record { place = (j - n) / 8; inside = omega arith; stands_as = inr ((j - n) % 8, omega arith, omega arith) }
