-- `shares::inner::divide` puts the whole parts and the remainders where they belong, coordinate by coordinate: what
-- is not reached yet is still the magnitude.
use Rattle.std.proofs.Common.{◌≡◌, ◌≤◌, ◌^◌, map, get_or, sym, ap, ◌∙◌}
use native.Mathlib.Omega.{arith}
use native.Mathlib.Nat.{le_trans, le_of_eq, lt_of_le_of_lt, mul-le-mul}
use lib.Dec.{lit<}
use lib.ListN.{length-map}
use Rattle.buffers.proofs.Writing.{fills_map, not_reached, all_written}
use Rattle.shares.specs.Shares.{whole_part, remainder}
use Rattle.shares.proofs.inner.divide.Goals as goal

pub overflow_mul-scaled : goal.overflow_mul-scaled
overflow_mul-scaled c =
    let i = c.loop-at in
    let ms = c.args.magnitudes.now in
    let same : get_or i.magnitudes i.at 0 ≡ get_or ms i.at 0 = not_reached ms (map (whole_part c.args.k c.args.total) ms) 0 i.at 0 (omega arith) i.invariant.0 in
    let top : get_or i.magnitudes i.at 0 ≤ 2 ^ 23 = le_trans (le_of_eq same) (c.requires.2 i.at (omega arith)) in
    record { fits = lt_of_le_of_lt (mul-le-mul c.requires.0 top) (lit< tt) }

pub loop-at-preserved : goal.loop-at-preserved
loop-at-preserved c =
    let i = c.loop-at in
    let ms = c.args.magnitudes.now in
    let k = c.args.k in
    let total = c.args.total in
    let same : get_or i.magnitudes i.at 0 ≡ get_or ms i.at 0 = not_reached ms (map (whole_part k total) ms) 0 i.at 0 (omega arith) i.invariant.0 in (
      fills_map (whole_part k total) ms ms 0 i.at 0 (omega arith) (omega arith) (ap (whole_part k total) same) i.invariant.0,
      fills_map (remainder k total) ms c.args.rests.now 0 i.at 0 (omega arith) (omega arith) (ap (remainder k total) same) i.invariant.1,
    )

pub returns : goal.returns
returns c =
    let i = c.loop-at in
    let ms = c.args.magnitudes.now in
    let k = c.args.k in
    let total = c.args.total in (
      i.invariant.0 ∙ all_written ms (map (whole_part k total) ms) i.at (omega arith) (length-map ms (whole_part k total)),
      i.invariant.1 ∙ all_written c.args.rests.now (map (remainder k total) ms) i.at (omega arith) (length-map ms (remainder k total) ∙ sym c.requires.3),
    )
