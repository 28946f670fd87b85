-- `shell::check_shell` says what the checks 1, 2 and 3 say: at each return the tests on the way are the checks up
-- to there.
use mathlib.Core.List.{[], ◌∷◌}
use native.Mathlib.Omega.{arith}
use Rattle.tables.proofs.Usable.{past_says_lem, usable_says}
use Rattle.shell.proofs.check_shell.Goals as goal

pub returns-then-largest_radius-radius : goal.returns-then-largest_radius-radius
returns-then-largest_radius-radius c =
    past_says_lem c.args.field c.args.length.0 c.args.radius.0 (0 ∷ []) (omega arith) (omega arith) (omega arith) (omega arith)

pub returns : goal.returns
returns c = usable_says c.args.field c.args.length.0 c.args.radius.0 (0 ∷ []) (omega arith) (omega arith) (omega arith) (omega arith)
