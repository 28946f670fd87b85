-- A record that names a place goes to the cell of that place, unless refusal 12 is given for it.
use Rattle.std.proofs.Common.{length, sym, ◌∙◌}
use Rattle.answers.proofs.Lengths.{right_length}
use Rattle.records.specs.Record.{record_length}
use Rattle.page.proofs.Taking.{its_spot, its_cell, take_12}
use Rattle.page.proofs.inner.opened.Opened.take_record.Goals as goal

pub locate-spot-requires : goal.locate-spot-requires
locate-spot-requires c =
    let eight = sym c.wrong_record.ensures ∙ c.if-wrong_record.false in
    its_spot c.args.self.now.layout c.args.page.now c.requires.0 c.args.bytes.now eight c.named_in-named.ensures c.if-self-named.false c.if-self-named-2.false

pub arrive-requires : goal.arrive-requires
arrive-requires c =
    let x = c.args.bytes.now in
    let eight = sym c.wrong_record.ensures ∙ c.if-wrong_record.false in (
      its_cell c.args.self.now.layout c.args.page.now c.requires.0 x eight c.named_in-named.ensures c.if-self-named.false c.if-self-named-2.false c.requires.1
          c.if-foreign.false c.locate-spot.ensures,
      right_length (length x) record_length eight,
    )

pub returns-then-arrive : goal.returns-then-arrive
returns-then-arrive c =
    let eight = sym c.wrong_record.ensures ∙ c.if-wrong_record.false in
    let did = c.arrive.ensures in
    take_12 c.args.self.now.layout c.args.page.now c.requires.0 c.args.bytes.now eight c.named_in-named.ensures c.if-self-named.false c.if-self-named-2.false
    c.requires.1 c.if-foreign.false c.locate-spot.ensures did.0 c.arrive.new.page did.1 c.if-arrive.true
