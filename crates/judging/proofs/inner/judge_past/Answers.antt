-- A codeword from the total on: from 2^b on it is past the width; below, it is past the end in plain mode, and mended
-- in the other, unless the mended index names no point.
use Rattle.std.proofs.Common.{◌-◌, ◌^◌, ◌≡◌, ℕ, sym, ap, ◌∙◌, arith, eq-eqb, ne_eqb}
use Rattle.counts.specs.Distance.{distance}
use Rattle.counts.specs.Width.{width}
use Rattle.numbering.specs.Numbered.{names_in}
use Rattle.numbering.proofs.Selected.{usable_in}
use Rattle.laws.proofs.Mending.{half_to, mended_below}
use Rattle.judging.proofs.Judging.{width_to, codeword_wide, codeword_past, codeword_mended, codeword_mended_empty}
use Rattle.judging.proofs.inner.judge_past.Goals as goal

-- 2^b, and half of it, as the code has found b
module _ (total : ℕ) {b r : ℕ} (is_width : b ≡ width total) where
  is_power : r ≡ 2 ^ b → r ≡ 2 ^ width total
  is_power power = power ∙ ap (λ (n : ℕ). 2 ^ n) is_width

  is_half : r ≡ 2 ^ (b - 1) → r ≡ 2 ^ (width total - 1)
  is_half power = power ∙ ap (λ (n : ℕ). 2 ^ (n - 1)) is_width

pub power-requires : goal.power-requires
power-requires c = omega (arith, c.width-b.ensures, width_to c.args.total (rw c.requires.0 (usable_in c.args.numbering).points_to))

pub returns-then-power-n : goal.returns-then-power-n
returns-then-power-n c =
    let a = c.args in
    let power = is_power a.total c.width-b.ensures c.power.ensures in
    (codeword_wide a.mode.0 (names_in a.numbering) a.total a.numbering.radius.0 a.n (omega (arith, power, c.if-power-n.true)), tt)

pub returns-then-mode-eq-PLAIN : goal.returns-then-mode-eq-PLAIN
unfolding distance
returns-then-mode-eq-PLAIN c =
    let a = c.args in
    let power = is_power a.total c.width-b.ensures c.power.ensures in
    let is_plain = eq-eqb a.mode.0 0 (omega arith) in
    (codeword_past a.mode.0 (names_in a.numbering) a.total a.numbering.radius.0 a.n (omega (arith, power, c.if-power-n.false)) c.requires.2 is_plain, tt)

pub power-requires-2 : goal.power-requires-2
power-requires-2 c = omega (arith, c.width-b.ensures, width_to c.args.total (rw c.requires.0 (usable_in c.args.numbering).points_to))

pub overflow_sub-index : goal.overflow_sub-index
overflow_sub-index c =
    let a = c.args in
    let power = is_power a.total c.width-b.ensures c.power.ensures in
    let half = is_half a.total c.width-b.ensures c.power-2.ensures in
    omega (arith, half, half_to a.total a.n c.requires.1 (omega (arith, power, c.if-power-n.false)) c.requires.2)

pub names-requires : goal.names-requires
names-requires c =
    let a = c.args in
    let power = is_power a.total c.width-b.ensures c.power.ensures in
    let half = is_half a.total c.width-b.ensures c.power-2.ensures in
    rw (half, ← c.requires.0) (mended_below a.total a.n c.requires.1 (omega (arith, power, c.if-power-n.false)) c.requires.2)

pub returns-then-names : goal.returns-then-names
unfolding distance
returns-then-names c =
    let a = c.args in
    let power = is_power a.total c.width-b.ensures c.power.ensures in
    let half = is_half a.total c.width-b.ensures c.power-2.ensures in
    let mends = ne_eqb a.mode.0 0 (λ (e : a.mode.0 ≡ 0). omega arith) in
    let named = rw half at (sym c.names.ensures ∙ c.if-names.true) in (
      rw half
          (codeword_mended a.mode.0 (names_in a.numbering) a.total a.numbering.radius.0 a.n (omega (arith, power, c.if-power-n.false)) c.requires.2 mends named),
      tt,
    )

pub returns : goal.returns
returns c =
    let a = c.args in
    let power = is_power a.total c.width-b.ensures c.power.ensures in
    let half = is_half a.total c.width-b.ensures c.power-2.ensures in
    let mends = ne_eqb a.mode.0 0 (λ (e : a.mode.0 ≡ 0). omega arith) in
    let empty = rw half at (sym c.names.ensures ∙ c.if-names.false) in
    (codeword_mended_empty a.mode.0 (names_in a.numbering) a.total a.numbering.radius.0 a.n (omega (arith, power, c.if-power-n.false)) c.requires.2 mends empty, tt)
