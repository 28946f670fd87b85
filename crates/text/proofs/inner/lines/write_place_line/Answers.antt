-- The line of a place, field by field.
use Rattle.std.proofs.Common.{[], ◌∷◌, map, rules, arith}
use Rattle.wording.specs.Text.{decimal, integer, word}
use Rattle.text.proofs.Writing.{begun, more, one_more_lem, ended}
use Rattle.text.proofs.inner.lines.write_place_line.Goals as goal

pub returns : goal.returns
returns c =
    let place = decimal c.args.place in
    let answer = word c.args.answer in
    let third = decimal c.args.third in
    let coordinates = map integer c.args.coordinates.now in
    let with_answer = one_more_lem place [] (begun c.write_decimal.ensures) answer c.write_word.ensures in
    let with_third = one_more_lem place (answer ∷ []) with_answer third c.write_number.ensures in
    let with_all = more place (answer ∷ third ∷ []) with_third coordinates c.write_integers.ensures in
    let all = ended place (answer ∷ third ∷ coordinates) with_all (omega (arith, c.requires.0)) c.write_byte.ensures in
    search (rules, all.wrote)
