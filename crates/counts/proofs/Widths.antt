-- The width of a total is the least number of bits that is enough (existence), and only one number is (uniqueness).
-- For a total above 1, 2^(b-1) is below it and it is at most 2^b.
use Prim.Native.Nat.{ℕ, zero, suc, ◌+◌, ◌-◌, ◌^◌, ◌≤◌, ◌<◌}
use mathlib.Core.Path.{◌≡◌, refl}
use mathlib.Core.Bool.{Bool, true, false}
use native.Mathlib.Omega.{arith}
use native.Mathlib.Nat.{pow-suc, add-zero, add-suc, suc-add, zero-add, le_antisymm}
use native.Mathlib.Decide.{dec_lt}
use lib.Dec.{leb}
use lib.Pow.{pow_pos, pow_mono}
use borrow.Author.Tests.{leb-true, leb-false}
use Rattle.counts.specs.Width.{width, bits_from, IsWidth}

-- for a total of 1 it is 0, as the rules say by themselves
pub width_of_1 : width 1 ≡ 0
unfolding width bits_from
width_of_1 = refl

below_power : (n : ℕ) → n < 2 ^ n
below_power zero = pow_pos 0
below_power (suc n) = omega (arith, below_power n, pow-suc 2 n)

-- a power below n has an exponent below that of any power that is at least n
exponent : (n j c : ℕ) → 2 ^ j < n → n ≤ 2 ^ c → j < c
exponent n j c h e = go (dec_lt j c)
  where
    go : Dec (j < c) → j < c
    go (yes q) = q
    go (no q) = let m : 2 ^ c ≤ 2 ^ j = pow_mono (omega arith) in omega arith

bits_from_is : (tries b n : ℕ) → ((c : ℕ) → n ≤ 2 ^ c → b ≤ c) → n ≤ 2 ^ (b + tries) → IsWidth n (bits_from tries b n)
unfolding bits_from
bits_from_is zero b n l e = record { enough = rw add-zero at e; least = l }
bits_from_is (suc tries) b n l e = go (leb n (2 ^ b)) refl (λ l'. bits_from_is tries (suc b) n l' (rw (add-suc b tries, ← suc-add b tries) at e))
  where
    go : (t : Bool) → leb n (2 ^ b) ≡ t → (((c : ℕ) → n ≤ 2 ^ c → suc b ≤ c) → IsWidth n (bits_from tries (suc b) n))
        → IsWidth n (elim t [ true ↦ b | false ↦ bits_from tries (suc b) n ])
    go true q rest = record { enough = leb-true n (2 ^ b) q; least = l }
    go false q rest = rest (λ c h. exponent n b c (leb-false n (2 ^ b) q) h)

pub width_is : (n : ℕ) → IsWidth n (width n)
unfolding width
width_is n = bits_from_is n 0 n (λ c h. omega arith) (rw zero-add (omega (arith, below_power n)))

pub width_unique : (n b b' : ℕ) → IsWidth n b → IsWidth n b' → b ≡ b'
width_unique n b b' p q = le_antisymm (p.least b' q.enough) (q.least b p.enough)

pub width_enough : (n : ℕ) → n ≤ 2 ^ width n
width_enough n = (width_is n).enough

pub width_tight : (n : ℕ) → 1 < n → 2 ^ (width n - 1) < n
width_tight n h = go (dec_lt (2 ^ (width n - 1)) n)
  where
    go : Dec (2 ^ (width n - 1) < n) → 2 ^ (width n - 1) < n
    go (yes q) = q
    go (no q) =
        let some : 0 < width n = exponent n 0 (width n) h (width_enough n) in
        let least : width n ≤ width n - 1 = (width_is n).least (width n - 1) (omega arith) in
        omega arith

-- between 2^j and 2^(j+1) the width is j+1
pub width_between : (n j : ℕ) → 2 ^ j < n → n ≤ 2 ^ suc j → width n ≡ suc j
width_between n j h e = width_unique n (width n) (suc j) (width_is n) (record { enough = e; least = λ c q. exponent n j c h q })
