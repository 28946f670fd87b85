-- The rows of a table as its chunks.
use Rattle.std.proofs.Common.{ℕ, zero, suc, ◌+◌, ◌*◌, ◌/◌, ◌<◌, ◌≡◌, List, [], length, take, drop, get_or, refl, arith}
use Rattle.std.specs.Simd.{first_chunks}
use lib.Seq.{drop-drop}
use Rattle.tables.specs.Table.{rows_of, row_at}

chunk_at : (k i : ℕ) (t : List ℕ) → i < k → get_or (first_chunks 16 k t) i [] ≡ take 16 (drop (16 * i) t)
chunk_at zero i t h = absurd (omega arith)
chunk_at (suc k) zero t h = refl
chunk_at (suc k) (suc i) t h =
    let on : 16 * suc i ≡ 16 + 16 * i = omega arith in
    rw on (rw (← drop-drop (16 * i) 16 t) (chunk_at k i (drop 16 t) (omega arith)))

pub chunk_is : (t : List ℕ) (r : ℕ) → r < rows_of t → get_or (first_chunks 16 (length t / 16) t) r [] ≡ row_at t r
unfolding row_at
chunk_is t r h = chunk_at (length t / 16) r t h
