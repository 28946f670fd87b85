-- `sender::inner::run::run_of` writes the coefficients of a file one by one, if it has a whole number of fours.
use Rattle.std.proofs.Common.{◌≡◌, ◌≤◌, ◌/◌, ◌%◌, length, [], ap, sym, ◌∙◌, arith}
use borrow.Author.Tests.{eqb-true}
use native.Mathlib.Nat.{zero-add}
use lib.Ieee.{binary32, of_bits}
use lib.ListN.{length-set}
use Rattle.buffers.proofs.Writing.{fills_map}
use Rattle.runs.specs.File.{coefficient_of}
use Rattle.sender.proofs.Run.{coefficients_all}
use Rattle.sender.proofs.inner.run.run_of.Goals as goal

pub loop-i-preserved : goal.loop-i-preserved
loop-i-preserved c =
    let l = c.loop-i in
    let value = c.from_pattern.ensures ∙ ap (of_bits binary32) c.pattern.ensures in (
      length-set l.out l.i c.from_pattern.result ∙ l.invariant.0,
      fills_map coefficient_of c.as_chunks.result.0.now c.args.out.now 0 l.i [] c.loop-i-test.true (sym (zero-add l.i)) value l.invariant.1,
    )

pub returns : goal.returns
returns c =
    let a = c.args in
    let l = c.loop-i in
    let chunks = c.as_chunks.ensures in
    let room : length a.bytes.now / 4 ≤ length a.out.now = omega (arith, c.requires) in
    let whole : length a.bytes.now % 4 ≡ 0 = omega (arith, eqb-true _ _ (sym c.if-not-is_empty.ensures), chunks.back_len) in (
      omega (arith, l.invariant.0, room, chunks.front_len),
      coefficients_all a.out.now a.bytes.now l.i chunks.front chunks.front_len l.invariant.1 (omega (arith, c.loop-i-test.false)) room whole,
    )
