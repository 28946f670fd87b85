-- The product index is what the weight of the point makes up.
use mathlib.Core.Path.{ap, ◌∙◌}
use Rattle.counts.specs.Fields.{size_of}
use Rattle.counts.proofs.Fields.{is_field}
use Rattle.weighing.specs.Weights.{weighed}
use Rattle.weighing.proofs.Weighing.{weighable}
use Rattle.weighing.proofs.inner.index_of.Goals as goal

pub weigh-requires : goal.weigh-requires
weigh-requires c =
    let a = c.args in
    let F = size_of a.shell.field in
    rw c.weight_of.ensures (weighable F (is_field a.shell.field) a.shell.length.0 a.shell.radius.0 a.x.now c.requires a.shell.usable).0

pub returns : goal.returns
returns c =
    let a = c.args in
    let F = size_of a.shell.field in
    c.weigh.ensures
    ∙ ap (weighed F a.shell.length.0 a.shell.radius.0) c.weight_of.ensures
    ∙ (weighable F (is_field a.shell.field) a.shell.length.0 a.shell.radius.0 a.x.now c.requires a.shell.usable).1
