-- Bytes that were written high byte first read as the number again, if it fits them.
use Prim.Native.Nat.{ℕ, zero, suc, ◌+◌, ◌*◌, ◌/◌, ◌%◌, ◌^◌, ◌<◌}
use mathlib.Core.Path.{◌≡◌, refl, ap, ◌∙◌}
use native.Mathlib.Omega.{arith}
use native.Mathlib.Nat.{zero-add, zero-mul, add-mul, mul_comm, mul_assoc, mul-pos, pow-succ', mod-eq_of_lt}
use lib.Arith.{mod-mul}
use lib.Dec.{lit<}
use Rattle.octets.specs.Octets.{high_first, read_from, from_high}

power_pos : (b : ℕ) → 0 < 256 ^ b
power_pos zero = lit< tt
power_pos (suc b) = rw (pow-succ' 256 b) (mul-pos (lit< tt) (power_pos b))

one_byte_more : (m d p q : ℕ) → (256 * m + d) * p + q ≡ m * (256 * p) + (d * p + q)
one_byte_more m d p q =
    let apart : (256 * m + d) * p ≡ 256 * m * p + d * p = add-mul (256 * m) d p in
    let moved : 256 * m * p ≡ m * (256 * p) = ap (λ (x : ℕ). x * p) (mul_comm 256 m) ∙ mul_assoc m 256 p in
    omega arith

read_back : (b m n : ℕ) → read_from m (high_first b n) ≡ m * 256 ^ b + n % 256 ^ b
read_back zero m n = omega arith
read_back (suc b) m n =
    let p = 256 ^ b in
    read_back b (256 * m + n / p % 256) n
    ∙ one_byte_more m (n / p % 256) p (n % p)
    ∙ rw (pow-succ' 256 b, mod-mul n {m = 256} {c = p} (lit< tt) (power_pos b)) refl

pub fits_back : (b n : ℕ) → n < 256 ^ b → from_high (high_first b n) ≡ n
fits_back b n h = read_back b 0 n ∙ rw (zero-mul (256 ^ b), zero-add (n % 256 ^ b)) (mod-eq_of_lt h)
