-- The word, and the numbers behind it.
use Rattle.std.proofs.Common.{[], map, rules, arith}
use Rattle.wording.specs.Text.{decimal}
use Rattle.text.proofs.Writing.{begun, more, ended}
use Rattle.text.proofs.inner.lines.write_numbers_line.Goals as goal

pub returns : goal.returns
returns c =
    let word = c.args.word.now in
    let numbers = map decimal c.args.numbers.now in
    let with_all = more word [] (begun c.write_text.ensures) numbers c.write_numbers.ensures in
    let all = ended word numbers with_all (omega (arith, c.requires.0, c.requires.1)) c.write_byte.ensures in
    search (rules, all.wrote)
