-- The integers so far stand behind the line.
use Rattle.std.proofs.Common.{◌*◌, map, take}
use Rattle.text.specs.Line.{Writes}
use Rattle.wording.specs.Text.{integer, spaced}
use Rattle.text.proofs.inner.fields.Line.write_integers.Given as goal

abbrev pub invariant-loop-x : goal.invariant-loop-x
invariant-loop-x l = Writes l.initial.self l.self (spaced (map integer (take l.x-index l.xs))) (12 * l.x-index)
