-- `coefficients::inner::coefficients::write_signed` fills the buffer with the signed magnitudes.
use Rattle.std.proofs.Common.{◌≡◌, Bool, get_or, pos, to_z, of_z, w32, sym, ap, ◌∙◌}
use native.Mathlib.Omega.{arith}
use lib.Ieee.{nan}
use borrow.Author.Rules.{sfits_of}
use Rattle.buffers.proofs.Writing.{fills, all_written}
use Rattle.enumeration.specs.Point.{signed}
use Rattle.floats.specs.Units.{negative}
use Rattle.coordinates.proofs.Coordinates.{kept}
use Rattle.coefficients.specs.Points.{signed_by}
use Rattle.coefficients.proofs.Points.{signed_length, signed_at}
use Rattle.coefficients.proofs.inner.coefficients.write_signed.Goals as goal

pub loop-at-preserved : goal.loop-at-preserved
loop-at-preserved c =
    let xs = c.args.coefficients.now in
    let ms = c.args.magnitudes.now in
    let i = c.loop-at in
    let z = c.signed.result in
    let stored = to_z w32 (of_z w32 z) in
    let next : stored ≡ signed (negative (get_or xs i.at nan)) (get_or ms i.at 0) =
    kept z (sfits_of c.signed.type_inv) ∙ c.signed.ensures ∙ ap (λ (b : Bool). signed b (get_or ms i.at 0)) c.is_negative.ensures in
    fills c.args.out.now (signed_by xs ms) 0 i.at (pos 0) (rw (signed_length xs ms c.requires.1) (omega arith)) (omega arith)
    (next ∙ sym (signed_at xs ms i.at (omega arith) c.requires.1)) i.invariant

pub returns : goal.returns
returns c =
    let xs = c.args.coefficients.now in
    let ms = c.args.magnitudes.now in
    c.loop-at.invariant
    ∙ all_written c.args.out.now (signed_by xs ms) c.loop-at.at (omega (arith, c.requires.2)) (signed_length xs ms c.requires.1 ∙ sym c.requires.2)
