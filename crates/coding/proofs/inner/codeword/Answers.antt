-- The codeword is the index of the point, which is on the shell of its radius. As much of the room is lent as the
-- vector is long.
use Rattle.std.proofs.Common.{List, ℕ, ◌≤◌, length, ◌∙◌}
use native.Mathlib.Omega.{arith}
use lib.Ieee.{Float}
use lib.Seq.{length-take-le, take_at}
use Rattle.numbering.specs.declared.inner.Numbering.{Numbering}
use Rattle.coding.specs.Bounds.{Codable}
use Rattle.coding.proofs.Coding.{sharable, signable, indexable}
use Rattle.coding.proofs.inner.codeword.Goals as goal

up_to_16 : {m : Numbering} {total : ℕ} {xs : List Float} {magnitudes : List ℕ} → Codable m total xs magnitudes → length xs ≤ 16
up_to_16 {m} c = omega (arith, c.of_length, m.usable.length_to)

pub share-requires : goal.share-requires
share-requires c = sharable c.requires (length-take-le _ _ (up_to_16 c.requires))

pub write_signed-requires : goal.write_signed-requires
write_signed-requires c = signable c.requires c.share.ensures.0 _ (length-take-le _ _ (up_to_16 c.requires))

pub index-requires : goal.index-requires
index-requires c =
    let long = c.write_signed.auto.out ∙ length-take-le _ _ (up_to_16 c.requires) in
    rw (take_at _ _ _ long) (indexable c.requires c.share.ensures.0 c.write_signed.ensures)
