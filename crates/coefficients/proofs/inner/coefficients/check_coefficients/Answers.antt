-- `coefficients::inner::coefficients::check_coefficients` refuses the first unusable coefficient.
use Rattle.std.proofs.Common.{[], ◌∷◌, length, sym}
use Rattle.answers.proofs.Each.{first_refused, none_refused}
use Rattle.coefficients.specs.Coefficients.{usable_check}
use Rattle.coefficients.proofs.inner.coefficients.check_coefficients.Goals as goal

pub returns-in-Some : goal.returns-in-Some
returns-in-Some c =
    let xs = c.args.coefficients.now in
    let (inside, found) = c.in-Some.ensures in
    sym (first_refused (usable_check xs) (0 ∷ []) c.in-Some.coordinate (length xs) inside found.before (found.here inside))

pub returns-in-None : goal.returns-in-None
returns-in-None c =
    let xs = c.args.coefficients.now in
    sym (none_refused (usable_check xs) (0 ∷ []) (length xs) c.in-None.ensures.before)
