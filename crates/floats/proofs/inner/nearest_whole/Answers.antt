-- The negation of a coefficient below zero becomes the same whole number.
use Rattle.std.proofs.Common.{sym, ◌∙◌}
use denote.Floats.{passes}
use lib.Ieee.{binary32, fits}
use Rattle.floats.proofs.Signs.{neg_usable, neg_whole, neg_negative}
use Rattle.floats.proofs.inner.nearest_whole.Goals as goal

pub rounded-requires : goal.rounded-requires
rounded-requires c =
    let below = sym c.is_negative.ensures ∙ c.if-is_negative.true in
    (neg_usable c.args.x (passes (fits binary32 c.args.x) c.well_formed.0.1) ∙ c.requires, neg_negative c.args.x c.requires below)

pub returns-then-is_negative : goal.returns-then-is_negative
returns-then-is_negative c =
    (c.rounded.ensures.0 ∙ neg_whole c.args.x (passes (fits binary32 c.args.x) c.well_formed.0.1) c.requires, c.rounded.ensures.1)
