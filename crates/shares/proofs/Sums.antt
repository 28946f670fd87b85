-- Whole parts and remainders of k x a / A, summed: what the whole parts leave of k is the sum of the remainders
-- over A, and that is less than the number of coordinates with a remainder.
use Prim.Native.Nat.{ℕ, zero, suc, ◌+◌, ◌*◌, ◌/◌, ◌%◌, ◌≤◌, ◌<◌}
use mathlib.Core.Path.{◌≡◌, ap}
use mathlib.Core.List.{List, [], ◌∷◌, map}
use native.Mathlib.Omega.{arith}
use native.Mathlib.Nat.{le_of_lt, lt_of_not-le, add-mul, mul-add, suc-mul, mod-lt, div-add-mod', mul-le-mul_right, le_of_mul-le-mul_right, mul-pos}
use native.Mathlib.Decide.{dec_lt}
use Rattle.enumeration.specs.Point.{sum_of}
use Rattle.shares.specs.Shares.{whole_part, remainder, whole_parts, remainders, with_remainder, units_left}

together : (k c : ℕ) (ms : List ℕ) → sum_of (map (whole_part k c) ms) * c + sum_of (map (remainder k c) ms) ≡ k * sum_of ms
together k c [] = omega arith
together k c (a ∷ ms) =
    let one : k * a / c * c + k * a % c ≡ k * a = div-add-mod' (k * a) c in
    let rest : sum_of (map (whole_part k c) ms) * c + sum_of (map (remainder k c) ms) ≡ k * sum_of ms = together k c ms in
    let apart : (k * a / c + sum_of (map (whole_part k c) ms)) * c ≡ k * a / c * c + sum_of (map (whole_part k c) ms) * c = add-mul (k * a / c) (sum_of (map (whole_part k c) ms)) c in
    let spread : k * (a + sum_of ms) ≡ k * a + k * sum_of ms = mul-add k a (sum_of ms) in
    omega arith

-- each remainder is below A
short_of : (k c : ℕ) (ms : List ℕ) → 0 < c → sum_of (map (remainder k c) ms) + with_remainder (map (remainder k c) ms) ≤ with_remainder (map (remainder k c) ms) * c
short_of k c [] h = omega arith
short_of k c (a ∷ ms) h = go (k * a % c) (mod-lt (k * a) h) (map (remainder k c) ms) (short_of k c ms h)
  where
    go : (r : ℕ) → r < c → (rs : List ℕ) → sum_of rs + with_remainder rs ≤ with_remainder rs * c
        → sum_of (r ∷ rs) + with_remainder (r ∷ rs) ≤ with_remainder (r ∷ rs) * c
    go zero below rs rest = omega arith
    go (suc r) below rs rest = let more : suc (with_remainder rs) * c ≡ with_remainder rs * c + c = suc-mul (with_remainder rs) c in omega arith

not_as_many : (u z r c : ℕ) → u * c ≡ r → r + z ≤ z * c → 0 < c → 0 < u → z ≤ u → ⊥
not_as_many u zero r c same short cp up h = let some : 0 < u * c = mul-pos up cp in omega arith
not_as_many u (suc z) r c same short cp up h = let more : suc z * c ≤ u * c = mul-le-mul_right c h in omega arith

module _ (k : ℕ) (ms : List ℕ) (some : 0 < sum_of ms) where
  -- the whole parts do not pass k
  pub wholes_fit : sum_of (whole_parts k ms) ≤ k
  wholes_fit = le_of_mul-le-mul_right (omega (arith, together k (sum_of ms) ms)) some

  -- what is left of k, A times, is the sum of the remainders
  pub left_over : units_left k ms * sum_of ms ≡ sum_of (remainders k ms)
  left_over =
      let both : units_left k ms + sum_of (whole_parts k ms) ≡ k = omega (arith, wholes_fit) in
      let spread : (units_left k ms + sum_of (whole_parts k ms)) * sum_of ms ≡ units_left k ms * sum_of ms + sum_of (whole_parts k ms) * sum_of ms = add-mul (units_left k ms) (sum_of (whole_parts k ms)) (sum_of ms) in
      let same : (units_left k ms + sum_of (whole_parts k ms)) * sum_of ms ≡ k * sum_of ms = ap (λ (x : ℕ). x * sum_of ms) both in
      omega (arith, together k (sum_of ms) ms)

  -- the units handed out are fewer than the coordinates with a remainder
  pub units_fewer : 0 < units_left k ms → units_left k ms < with_remainder (remainders k ms)
  units_fewer h =
      lt_of_not-le
      (λ (more : with_remainder (remainders k ms) ≤ units_left k ms).
      not_as_many (units_left k ms) (with_remainder (remainders k ms)) (sum_of (remainders k ms)) (sum_of ms) left_over (short_of k (sum_of ms) ms some) some h more)

  pub units_enough : units_left k ms ≤ with_remainder (remainders k ms)
  units_enough = go (dec_lt 0 (units_left k ms))
    where
      go : Dec (0 < units_left k ms) → units_left k ms ≤ with_remainder (remainders k ms)
      go (yes h) = le_of_lt (units_fewer h)
      go (no h) = omega arith
