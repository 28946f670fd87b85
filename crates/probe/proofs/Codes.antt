-- One number for what a call says: the code of a refusal.
use Prim.Native.Nat.{◌+◌, ◌^◌}
use mathlib.Core.Path.{◌≡◌}
use Rattle.answers.specs.Refusals.{meaning, number_of}
use Rattle.answers.proofs.OneToOne.{said}
use Rattle.answers.specs.declared.Refusal.{Refusal}
use Rattle.probe.specs.Coded.{coded}

pub refusal_coded : (r : Refusal) → 2 ^ 40 + number_of r ≡ coded (meaning r)
unfolding coded
refusal_coded r = rw (said r).says
