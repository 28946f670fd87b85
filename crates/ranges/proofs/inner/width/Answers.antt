-- Above 1 the leading zeros of n - 1 leave a number of bits j with 2^(j-1) < n and n at most 2^j.
use Prim.Native.Nat.{ℕ, suc, ◌+◌, ◌-◌, ◌^◌, ◌≤◌, ◌<◌}
use mathlib.Core.Path.{◌≡◌, sym, ap, ◌∙◌}
use native.Mathlib.Decide.{dec_le}
use native.Mathlib.Omega.{arith}
use lib.Count.{count_leading_zeros, leading_of_zero, leading_top}
use Rattle.counts.specs.Width.{width}
use Rattle.counts.proofs.Widths.{width_is, width_between}
use Rattle.ranges.proofs.inner.width.Goals as goal

small : (n : ℕ) → n ≤ 1 → 64 - count_leading_zeros 64 (n - 1) ≡ width n
small n h =
    let least : width n ≤ 0 = (width_is n).least 0 h in
    let none : n - 1 ≡ 0 = omega arith in
    let whole : count_leading_zeros 64 (n - 1) ≡ 64 = ap (count_leading_zeros 64) none ∙ leading_of_zero 64 in
    omega arith

large : (n : ℕ) → 1 < n → n < 2 ^ 64 → 64 - count_leading_zeros 64 (n - 1) ≡ width n
large n h q =
    let top = leading_top 64 (n - 1) (omega arith) (omega arith) in
    let whole : count_leading_zeros 64 (n - 1) + suc top.0 ≡ 64 = top.1 in
    let bits : 64 - count_leading_zeros 64 (n - 1) ≡ suc top.0 = omega arith in
    let low : 2 ^ top.0 < n = omega (arith, top.2) in
    let high : n ≤ 2 ^ suc top.0 = omega (arith, top.3) in
    bits ∙ sym (width_between n top.0 low high)

both : (n : ℕ) → n < 2 ^ 64 → 64 - count_leading_zeros 64 (n - 1) ≡ width n
both n q = go (dec_le n 1)
  where
    go : Dec (n ≤ 1) → 64 - count_leading_zeros 64 (n - 1) ≡ width n
    go (yes h) = small n h
    go (no h) = large n (omega arith) q

pub returns : goal.returns
returns c = rw c.saturating_sub.ensures (both c.args.n c.ranges.n.fits)
