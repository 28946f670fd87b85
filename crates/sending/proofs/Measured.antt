-- What a run gives to those that walk through its places: its table is good, its places are those of the table, and it
-- has a coefficient for each coordinate. A run keeps all this as a fact that has one proof at most.
use Rattle.std.proofs.Common.{ℕ, ◌+◌, ◌≤◌, ◌<◌, List, [], ◌∷◌, Bool}
use Rattle.std.proofs.Math.Bool.{Bool-set}
use Rattle.std.proofs.Math.Nat.{ℕ_set}
use Rattle.std.proofs.Math.Logic.{∥∥₁_elim}
use mathlib.Core.HLevel.{×_prop}
use native.Mathlib.Omega.{arith}
use Rattle.answers.specs.Checks.{NoneOf}
use Rattle.tables.proofs.Good.{places_to}
use Rattle.tables.proofs.Walking.{placed_in, first_place}
use Rattle.tables.specs.Table.{places_in}
use Rattle.tables.specs.Way.{Placed}
use Rattle.sending.specs.Bounds.{Measured}
use Rattle.sending.specs.declared.inner.way.Run.{Run}

none_of_prop : (faults : List Bool) → IsProp (NoneOf faults)
none_of_prop [] = λ p q i. p
none_of_prop (fault ∷ faults) = ×_prop (Bool-set _ _) (none_of_prop faults)

module _ (run : Run) where
  pub measured : Measured run.table.now run.places run.first run.coefficients.now
  measured = ∥∥₁_elim run.measured (hlevel (none_of_prop, ℕ_set)) (λ m. m)

  -- the way begins at place 0
  pub place_0 : Placed run.table.now 0 run.first
  place_0 =
      let opened = measured.opened in
      placed_in opened.good (first_place run.table.now opened.good) opened.is_first

  module _ (p : ℕ) (h : p < run.places) where
    pub inside : p < places_in run.table.now
    inside = omega (arith, measured.opened.is_places)

    pub place_fits : p + 1 ≤ 4096
    place_fits = omega (arith, inside, places_to run.table.now measured.opened.good)
