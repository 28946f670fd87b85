-- Demand 3 of a whole page: from a, c and d.
use mathlib.Core.Path.{ap}
use Rattle.rules.specs.Taking.{Received, empty}
use Rattle.channel.specs.Demand3.{WholePage}
use Rattle.channel.proofs.AnyOrder.{any_order}
use Rattle.channel.proofs.Sent.{shown_as_sent, only_signs_change}

pub whole_page : WholePage
whole_page t books good w r q sent xs = record {
  any_order = λ ys steps. ap (λ (s : Received). s.page) (any_order t books (empty t books) xs ys steps);
  unchanged = λ book p k h among equal. shown_as_sent t books book p (w book p) (r book p) (q book p) (sent book p k h) xs among equal;
  signs_changed = λ book p k h lowest codeword same among equal.
      only_signs_change t books book p (w book p) (r book p) (q book p) (sent book p k h) lowest codeword same xs among equal;
}
