-- The smaller of r and n - r: twice that number is at most n.
use Prim.Native.Nat.{ℕ, ◌-◌, ◌*◌, ◌≤◌, min}
use mathlib.Core.Path.{◌≡◌, ap, ◌∙◌}
use native.Mathlib.Decide.{dec_le}
use native.Mathlib.Omega.{arith}
use Rattle.counts.specs.Counts.{binomial}
use Rattle.binomials.proofs.Mirror.{mirrored}
use Rattle.binomials.proofs.inner.fewer.Goals as goal

smaller : (n r : ℕ) → r ≤ n → (2 * min r (n - r) ≤ n) × (binomial n (min r (n - r)) ≡ binomial n r)
smaller n r h = go (dec_le r (n - r))
  where
    go : Dec (r ≤ n - r) → (2 * min r (n - r) ≤ n) × (binomial n (min r (n - r)) ≡ binomial n r)
    go (yes q) = let same : min r (n - r) ≡ r = omega arith in (omega arith, ap (binomial n) same)
    go (no q) = let same : min r (n - r) ≡ n - r = omega arith in (omega arith, ap (binomial n) same ∙ mirrored n r h)

pub returns : goal.returns
returns c = rw c.min.ensures (smaller c.args.n c.args.r c.requires)
