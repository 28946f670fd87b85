-- What the programs take from the calls' contracts: the first bytes of a buffer, as many as a call says that it has
-- written; and how many places a table can have.
use Prim.Native.Nat.{ℕ, ◌≤◌}
use mathlib.Core.List.{List}
use mathlib.Core.Path.{◌≡◌, sym, ap, ◌∙◌}
use native.Mathlib.Omega.{arith}
use Rattle.std.specs.Prelude.{Result, Ok}
use Rattle.answers.specs.declared.Refusal.{Refusal}
use Rattle.tables.proofs.Good.{places_to}
use Rattle.tables.proofs.Seven.{check_good}
use Rattle.tables.specs.Table.{check_says}
use Rattle.pairing.specs.Meanings.{check_meaning}

-- a table that the check lets through has at most 4,096 places
pub places_few : (t : List ℕ) {answer : Result ℕ Refusal} {n : ℕ} → answer ≡ Ok n → check_meaning answer ≡ check_says t → n ≤ 4096
places_few t {n = n} same says =
    let of_good = check_good t n (ap check_meaning (sym same) ∙ says) in
    omega (arith, of_good.1, places_to t of_good.0)
