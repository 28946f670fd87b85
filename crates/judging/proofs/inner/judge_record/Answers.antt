-- The radius number of a held record, then its codeword.
use Rattle.std.proofs.Common.{ℕ, ap₂, ◌∙◌, arith}
use Rattle.tables.specs.Row.{radius_at}
use Rattle.rules.specs.Judging.{judge_in}
use Rattle.judging.proofs.Judging.{record_10, record_judged, seen_as}
use Rattle.judging.proofs.inner.judge_record.Goals as goal

pub returns-then-radii-chosen : goal.returns-then-radii-chosen
returns-then-radii-chosen c =
    let row = c.args.row.now in
    let y = c.args.bytes.now in
    seen_as row c.unseen.result c.unseen.ensures tt
    (record_10 c.args.mode.0 row y (omega (arith, c.radius_number_in-chosen.ensures.0, c.radii.ensures, c.if-radii-chosen.true)))

pub returns : goal.returns
returns c =
    let row = c.args.row.now in
    let y = c.args.bytes.now in
    let chosen = c.radius_number_in-chosen.ensures.0 in
    let did = c.judge_codeword.ensures in
    let codeword = ap₂ (λ (number n : ℕ). judge_in c.args.mode.0 row (radius_at row number) n) chosen c.codeword_in.ensures.0 in
    (did.0 ∙ codeword ∙ record_judged c.args.mode.0 row y (omega (arith, chosen, c.radii.ensures, c.if-radii-chosen.false)), did.1)
