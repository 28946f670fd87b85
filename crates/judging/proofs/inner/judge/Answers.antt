-- A cell by its state.
use Rattle.std.proofs.Common.{◌∙◌}
use Rattle.judging.proofs.Judging.{seen_as}
use Rattle.judging.proofs.States.{judges_missing, judges_held, judges_contested}
use Rattle.judging.proofs.inner.judge.Goals as goal

pub returns-then-state-eq0 : goal.returns-then-state-eq0
returns-then-state-eq0 c =
    let said =
    seen_as c.args.row.now c.unseen.result c.unseen.ensures tt
    (judges_missing c.args.mode.0 c.args.row.now (record { state = c.args.state; bytes = c.args.bytes.now }) c.if-state-eq0.true) in
    record { is_judged = said.0; handed = said.1 }

pub returns-then-state-ne1 : goal.returns-then-state-ne1
returns-then-state-ne1 c =
    let seen = c.unseen-then-state-ne1 in
    let said =
    seen_as c.args.row.now seen.result seen.ensures tt
    (judges_contested c.args.mode.0 c.args.row.now (record { state = c.args.state; bytes = c.args.bytes.now }) c.if-state-eq0.false c.if-state-ne1.true) in
    record { is_judged = said.0; handed = said.1 }

pub returns : goal.returns
returns c =
    let did = c.judge_record.ensures in
    record {
      is_judged = did.0 ∙ judges_held c.args.mode.0 c.args.row.now (record { state = c.args.state; bytes = c.args.bytes.now }) c.if-state-ne1.false;
      handed = did.1;
    }
