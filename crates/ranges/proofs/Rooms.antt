-- The room of a field for the shapes that the code has counted: small enough to be worked out, and the size of the
-- field.
use Prim.Native.Nat.{ℕ, ◌^◌, ◌≤◌, ◌<◌}
use mathlib.Core.Path.{◌≡◌, ap, ◌∙◌}
use Rattle.counts.specs.Counts.{S}
use Rattle.counts.specs.Fields.{size_of, room_for}
use Rattle.counts.specs.declared.Field.{Field}
use Rattle.counts.proofs.Fields.{size_room}
use Rattle.ranges.proofs.Sizes.{S_small_enough}

module _ (s k : ℕ) {shapes : ℕ} (counted : shapes ≡ S s k) where
  pub shapes_to : 0 < k → k ≤ 32 → shapes ≤ 2 ^ 31
  shapes_to p h = rw counted (S_small_enough s k p h)

  pub room_size : (f : Field) {room : ℕ} → room ≡ room_for f shapes → room ≡ size_of f s k
  room_size f e = e ∙ ap (room_for f) counted ∙ size_room f s k
