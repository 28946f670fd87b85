-- The numbers so far stand behind the line.
use Rattle.std.proofs.Common.{◌*◌, map, take}
use Rattle.text.specs.Line.{Writes}
use Rattle.wording.specs.Text.{decimal, spaced}
use Rattle.text.proofs.inner.fields.Line.write_numbers.Given as goal

abbrev pub invariant-loop-n : goal.invariant-loop-n
invariant-loop-n l = Writes l.initial.self l.self (spaced (map decimal (take l.n-index l.ns))) (21 * l.n-index)
