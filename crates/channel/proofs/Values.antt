-- A value is exact: a coordinate of what a place shows, of magnitude at most 32, times a step, over 256.
use Prim.Native.Nat.{ℕ, ◌+◌, ◌*◌, ◌<◌}
use mathlib.Core.Path.{◌≡◌, ◌∙◌}
use mathlib.Core.List.{List}
use native.Mathlib.Omega.{arith}
use lib.IntN.{pos}
use lib.ListN.{get_or, drop}
use lib.Seq.{get_or-take, get_or-drop}
use Rattle.floats.specs.Exact.{over256, IsOver256}
use Rattle.floats.proofs.Exact.{exact_quotient}
use Rattle.tables.specs.Row.{row_length, byte_of, step_of}
use Rattle.tables.specs.Table.{row_at, row_of, row_for}
use Rattle.tables.proofs.GoodRow.{row_lawful}
use Rattle.rules.specs.Judging.{shown, Shows}
use Rattle.rules.specs.declared.Judged.{Judged}
use Rattle.page.proofs.Scaled.{product_fits, small}
use Rattle.channel.specs.Demand3.{Bytes, scaled}

-- a byte of a row is one of the table's
row_byte : (t : List ℕ) (r j : ℕ) → j < row_length → byte_of (row_at t r) j ≡ get_or t (row_length * r + j) 0
unfolding byte_of row_at
row_byte t r j h = get_or-take row_length (drop (row_length * r) t) j 0 h ∙ get_or-drop (row_length * r) t j 0

-- a step is two bytes
step_to : (t : List ℕ) (r : ℕ) → Bytes t → step_of (row_at t r) < 65536
step_to t r bytes =
    omega (arith, row_byte t r 10 (omega arith), row_byte t r 11 (omega arith), bytes (row_length * r + 10), bytes (row_length * r + 11))

pub exact_shown : (t : List ℕ) (p : ℕ) (j : Judged) → Shows (row_for t p) j → Bytes t → (i : ℕ)
    → IsOver256 (scaled t p (shown (row_for t p) j) i) (over256 (scaled t p (shown (row_for t p) j) i))
exact_shown t p j shows bytes i =
    let row = row_for t p in
    exact_quotient (scaled t p (shown row j) i)
    (product_fits (get_or (shown row j) i (pos 0)) (step_of row) (small row (row_lawful row) j shows i) (step_to t (row_of t p) bytes)).1
