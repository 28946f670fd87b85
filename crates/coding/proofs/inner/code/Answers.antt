-- The chosen radius number, and the index of the point at its radius. As much of the room is lent as the vector is
-- long.
use Rattle.std.proofs.Common.{◌<◌, ◌∙◌, arith}
use Rattle.tables.specs.Row.{radii_of}
use Rattle.coefficients.proofs.Radii.{number_below}
use Rattle.coding.proofs.Coding.{number_is, codeword_is, zero_coded, codable}
use Rattle.coding.proofs.inner.code.Goals as goal

pub returns-then-numbering-eq0 : goal.returns-then-numbering-eq0
returns-then-numbering-eq0 c =
    let xs = c.args.coefficients.now in
    let is_total = c.measure-total.ensures.0 in
    let chosen = c.choose-number.ensures.0 in
    let of_row = c.of_number-numbering.ensures in
    (number_is xs is_total chosen of_row, zero_coded xs is_total chosen of_row c.if-numbering-eq0.true)

pub of_number-numbering-requires : goal.of_number-numbering-requires
of_number-numbering-requires c =
    let row = c.args.row.now in
    let good = c.requires.0.row_good in
    let below : c.choose-number.result < radii_of row = rw c.choose-number.ensures.0 (number_below row good c.measure-total.result) in
    (omega (arith, good.radii_to), good.radius_usable c.choose-number.result below)

pub codeword-codeword-requires : goal.codeword-codeword-requires
codeword-codeword-requires c =
    let measured = c.measure-total.ensures in
    codable c.args.coefficients.now measured.0 c.choose-number.ensures.0 c.of_number-numbering.ensures c.requires.0.row_good c.requires.2 c.requires.1
    c.if-numbering-eq0.false measured.1

pub returns : goal.returns
returns c =
    let xs = c.args.coefficients.now in
    let is_total = c.measure-total.ensures.0 in
    let chosen = c.choose-number.ensures.0 in
    let of_row = c.of_number-numbering.ensures in
    (number_is xs is_total chosen of_row, c.codeword-codeword.ensures ∙ codeword_is xs is_total chosen of_row)
