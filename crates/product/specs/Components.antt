-- The components that a point is written from, and what is asked of them.
use Rattle.std.specs.Prelude.{ℕ, ◌≤◌, ◌<◌, ◌≡◌, List, ℤ}
use Rattle.counts.specs.Counts.{D, S, range_start}
use Rattle.counts.specs.Fields.{size_of, field_total}
use Rattle.enumeration.specs.Reading.{range_of, point_from}
use Rattle.ranges.specs.declared.inner.usable.Shell.{Shell}
use Rattle.product.specs.declared.inner.components.Components.{Components}
use Rattle.product.specs.declared.inner.range.Found.{Found}

-- an index of a shell, and the range that it was found in
pub record IsIndexOf (shell : Shell) (n : ℕ) (found : Found) : Type 0 where
  pub index_below : n < field_total (size_of shell.field) shell.length.0 shell.radius.0
  pub range_s : found.s ≡ range_of (size_of shell.field) shell.length.0 shell.radius.0 n
  pub range_start_lem : found.start ≡ range_start (size_of shell.field) found.s shell.length.0 shell.radius.0

-- components from which a point of length l can be written
pub record MakesPoint (components : Components) (l : ℕ) : Type 0 where
  pub length_to : l ≤ 16
  pub radius_to : components.k ≤ 32
  pub pattern_below : components.pattern < D components.s l
  pub shape_below : components.shape < S components.s components.k

-- the point of length l that they are the components of
abbrev pub written_from : Components → ℕ → List ℤ
written_from components l = point_from components.s l components.k components.pattern components.shape components.sign
