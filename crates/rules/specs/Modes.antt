-- The mode of a call that reads (docs/RULES.md, "Reading a place"): both readers, the tally and the lines are given
-- one. Taking a record has none.
use Rattle.std.specs.Prelude.{ℕ, Bool, [], eqb, ltb}
use Rattle.answers.specs.Checks.{Check}

-- plain: no codeword is mended; mending: an overflowing codeword is
abbrev pub plain : ℕ
plain = 0

abbrev pub mending : ℕ
mending = 1

-- 16: any other mode
abbrev pub no_such_mode : ℕ → Bool
no_such_mode mode = ltb mending mode

abbrev pub mode_check : ℕ → Check
mode_check mode = record { number = 16; values = []; fails = no_such_mode mode }

-- any other mode is refused before this is asked
abbrev pub is_plain : ℕ → Bool
is_plain mode = eqb mode plain
