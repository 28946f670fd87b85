-- The lemmas by which the rows of a good table are summed, and where each begins is written.
use Rattle.std.proofs.lemmas.List.{length-take-le, get_or-take}
use Rattle.tables.proofs.Good.{right_size, good_total}
use Rattle.tables.proofs.Starting.{starts_first, starts_next}
use Rattle.tables.proofs.Walking.{none_before}

pub ruleset starting = (length-take-le, get_or-take, right_size, good_total, none_before, starts_first, starts_next)
