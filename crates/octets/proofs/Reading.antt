-- A number read from the middle of some bytes, byte by byte.
use Prim.Native.Nat.{ℕ, suc, ◌+◌, ◌*◌, ◌<◌}
use mathlib.Core.Path.{◌≡◌}
use mathlib.Core.List.{List}
use native.Mathlib.Omega.{arith}
use lib.ListN.{length, get_or, take, drop}
use lib.Seq.{drop-cons}
use Rattle.octets.specs.Octets.{from_high}

module _ (bytes : List ℕ) where
  pub one_byte : (i : ℕ) → i < length bytes → from_high (take 1 (drop i bytes)) ≡ get_or bytes i 0
  one_byte i h = rw (drop-cons bytes i 0 h) (omega arith)

  pub two_bytes : (i : ℕ) → suc i < length bytes → from_high (take 2 (drop i bytes)) ≡ 256 * get_or bytes i 0 + get_or bytes (suc i) 0
  two_bytes i h = rw (drop-cons bytes i 0 (omega arith), drop-cons bytes (suc i) 0 h) (omega arith)

  pub four_bytes : (i : ℕ) → suc (suc (suc i)) < length bytes
      → from_high (take 4 (drop i bytes))
      ≡ 65536 * (256 * get_or bytes i 0 + get_or bytes (suc i) 0) + (256 * get_or bytes (suc (suc i)) 0 + get_or bytes (suc (suc (suc i))) 0)
  four_bytes i h =
      rw (
        drop-cons bytes i 0 (omega arith),
        drop-cons bytes (suc i) 0 (omega arith),
        drop-cons bytes (suc (suc i)) 0 (omega arith),
        drop-cons bytes (suc (suc (suc i))) 0 h,
      )
      (omega arith)
