-- Signs and their index, for any number of signs:
--     first_highest                the first sign has the highest bit
--     signs_length, signs_read     what the low s bits of n are as signs: s of them, with index n mod 2^s
--     sign_below, signs_back       the index of s signs is below 2^s, and they are read back from it whatever stands
--                                  above it
--     bit_below                    a bit below s is the same whatever stands above the low s bits
use Prim.Native.Nat.{ℕ, zero, suc, ◌+◌, ◌-◌, ◌*◌, ◌/◌, ◌%◌, ◌^◌, ◌<◌}
use mathlib.Core.Path.{◌≡◌, refl, sym, ap, ◌∙◌}
use mathlib.Core.List.{List, [], ◌∷◌}
use mathlib.Core.Bool.{Bool, true, false}
use native.Mathlib.Omega.{arith}
use native.Mathlib.Nat.{pow-succ', mod-lt, add-mul, mul_assoc, mul-add-div_right, mul-add-mod_self_right}
use lib.Arith.{mod-mul, digits_mod}
use lib.Dec.{eqb, lit<}
use lib.ListN.{length}
use lib.Pow.{pow_pos, pow-add, high}
use Rattle.enumeration.specs.Product.{sign_bit, sign_index}
use Rattle.enumeration.specs.Reading.{bit, signs_of}

-- the first of two signs is the higher bit
first_highest : sign_index (true ∷ false ∷ []) ≡ 2
unfolding sign_index
first_highest = refl

pub signs_length : (s n : ℕ) → length (signs_of s n) ≡ s
unfolding signs_of
signs_length zero n = refl
signs_length (suc s) n = ap suc (signs_length s n)

-- a bit is 0 or 1, and is what its sign counts
bit_counts : (b : ℕ) → b < 2 → sign_bit (eqb b 1) ≡ b
bit_counts zero h = refl
bit_counts (suc zero) h = refl
bit_counts (suc (suc b)) h = absurd (omega arith)

-- the low s+1 bits are bit s and the low s bits
low_bits : (s n : ℕ) → n % 2 ^ suc s ≡ bit s n * 2 ^ s + n % 2 ^ s
low_bits s n = rw (pow-succ' 2 s) (mod-mul n (lit< tt) (pow_pos s))

pub signs_read : (s n : ℕ) → sign_index (signs_of s n) ≡ n % 2 ^ s
unfolding signs_of sign_index
signs_read zero n = omega arith
signs_read (suc s) n =
    rw (signs_length s n, bit_counts (bit s n) (mod-lt (n / 2 ^ s) (lit< tt)), signs_read s n) (sym (low_bits s n))

pub sign_below : (bs : List Bool) → sign_index bs < 2 ^ length bs
unfolding sign_index
sign_below [] = omega arith
sign_below (true ∷ bs) = omega (arith, sign_below bs, pow-succ' 2 (length bs))
sign_below (false ∷ bs) = omega (arith, sign_below bs, pow-succ' 2 (length bs))

sign_bit_lem : (a : ℕ) (b : Bool) → eqb ((a * 2 + sign_bit b) % 2) 1 ≡ b
sign_bit_lem a true = rw (digits_mod a {m = 2} {r = 1} (lit< tt))
sign_bit_lem a false = rw (digits_mod a {m = 2} {r = 0} (lit< tt))

pub signs_back : (bs : List Bool) (a : ℕ) → signs_of (length bs) (a * 2 ^ length bs + sign_index bs) ≡ bs
unfolding sign_index signs_of
signs_back [] a = refl
signs_back (b ∷ bs) a =
    let s = length bs in
    let m = sign_index bs in
    let next : a * 2 ^ suc s + (sign_bit b * 2 ^ s + m) ≡ (a * 2 + sign_bit b) * 2 ^ s + m =
    rw (pow-succ' 2 s, add-mul (a * 2) (sign_bit b) (2 ^ s), mul_assoc a 2 (2 ^ s)) (omega arith) in
    let top : ((a * 2 + sign_bit b) * 2 ^ s + m) / 2 ^ s ≡ a * 2 + sign_bit b = high (a * 2 + sign_bit b) s (sign_below bs) in
    rw (next, top, sign_bit_lem a b) (ap (λ (t : List Bool). b ∷ t) (signs_back bs (a * 2 + sign_bit b)))

-- what stands above the low s bits is no part of a bit below s
pub bit_below : (j s c n : ℕ) → j < s → bit j (c * 2 ^ s + n) ≡ bit j n
bit_below j s c n h =
    let whole : s - suc j + suc j ≡ s = omega arith in
    let e = 2 ^ (s - suc j) in
    let apart : c * 2 ^ s ≡ c * e * 2 * 2 ^ j =
    ap (λ (x : ℕ). c * 2 ^ x) (sym whole) ∙
    rw (pow-add 2 (s - suc j) (suc j), pow-succ' 2 j) (sym (mul_assoc c e (2 * 2 ^ j)) ∙ sym (mul_assoc (c * e) 2 (2 ^ j))) in
    rw (apart, mul-add-div_right (pow_pos j) (c * e * 2) n) (mul-add-mod_self_right (c * e) 2 (n / 2 ^ j))
