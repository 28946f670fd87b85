-- The iterator sums up the magnitudes.
use Rattle.std.proofs.Common.{rules, ◌≡◌, ◌∙◌, map, sum, nat_abs}
use Rattle.coordinates.proofs.Sums.{sum_is_radius}
use Rattle.coordinates.proofs.inner.magnitude_sum.Goals as goal

pub returns : goal.returns
returns c =
    let magnitudes = map nat_abs c.args.x.now in
    let summed : c.sum.result ≡ sum magnitudes = search rules in
    summed ∙ sum_is_radius c.args.x.now
