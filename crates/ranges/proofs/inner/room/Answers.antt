-- The least power of two that is enough is that of the width.
use Prim.Native.Nat.{ℕ, zero, suc, ◌^◌, ◌/◌, ◌≤◌, ◌<◌, max}
use mathlib.Core.Path.{◌≡◌, sym, ap, ◌∙◌}
use native.Mathlib.Nat.{pow-suc}
use native.Mathlib.Omega.{arith}
use lib.Pow.{pow_pos}
use Rattle.counts.specs.Fields.{room_for}
use Rattle.counts.specs.Width.{width}
use Rattle.counts.specs.declared.Field.{Field}
use Rattle.counts.proofs.Widths.{width_is, width_between}
use Rattle.ranges.proofs.inner.room.Goals as goal

exponent : (n b : ℕ) → n ≤ 2 ^ b → 2 ^ b / 2 < max 1 n → b ≡ width n
exponent n zero h q = let least : width n ≤ 0 = (width_is n).least 0 h in omega arith
exponent n (suc j) h q =
    let half : 2 ^ suc j / 2 ≡ 2 ^ j = omega (arith, pow-suc 2 j) in
    sym (width_between n j (omega (arith, half, pow_pos j)) h)

pub returns-in-Bits : goal.returns-in-Bits
returns-in-Bits c =
    let n = c.args.shapes in
    let next = c.next_power_of_two.ensures in
    let b = next.power.0 in
    let is_power = next.power.1 in
    let is_width : b ≡ width n = exponent n b (rw is_power at next.lower_bound) (rw is_power at next.upper_bound) in
    is_power ∙ ap (λ (x : ℕ). 2 ^ x) is_width ∙ ap (λ (f : Field). room_for f n) (sym c.in-Bits.is)
