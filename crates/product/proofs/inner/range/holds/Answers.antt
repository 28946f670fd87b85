-- `product::inner::range::holds` tells whether the index is below the total: a range from 1 on is found exactly for
-- such an index, but at radius 0.
use Prim.Native.Nat.{ℕ, zero, suc}
use mathlib.Core.Path.{◌≡◌, sym, ◌∙◌}
use native.Mathlib.Omega.{arith}
use lib.Dec.{eqb, ltb}
use borrow.Author.Tests.{lt-ltb, le-ltb, ne_eqb}
use Rattle.counts.specs.Fields.{size_of, field_total}
use Rattle.counts.proofs.Fields.{is_field, total_at_0}
use Rattle.enumeration.specs.Reading.{range_of}
use Rattle.enumeration.proofs.RangeOf.{found_below, none_found}
use Rattle.product.proofs.inner.range.holds.Goals as goal

-- at radius 0 the one index is 0
at_0 : (F : ℕ → ℕ → ℕ) (l k n : ℕ) → k ≡ 0 → eqb n 0 ≡ ltb n (field_total F l k)
at_0 F l k zero e = rw (e, total_at_0 F l)
at_0 F l k (suc n) e = rw (e, total_at_0 F l) (ne_eqb (suc n) 0 (omega arith) ∙ sym (le-ltb (suc n) 1 (omega arith)))

pub returns-then-found-gt0 : goal.returns-then-found-gt0
returns-then-found-gt0 c =
    let F = size_of c.args.shell.field in
    let below = found_below F c.args.shell.length.0 c.args.shell.radius.0 c.args.n (omega (arith, c.if-found-gt0.true, c.requires)) in
    sym (lt-ltb c.args.n (field_total F c.args.shell.length.0 c.args.shell.radius.0) below)

pub returns-then-shell-gt0 : goal.returns-then-shell-gt0
returns-then-shell-gt0 c =
    let F = size_of c.args.shell.field in
    let none : range_of F c.args.shell.length.0 c.args.shell.radius.0 c.args.n ≡ 0 = omega (arith, c.if-found-gt0.false, c.requires) in
    let past = none_found F (is_field c.args.shell.field) c.args.shell.length.0 c.args.shell.radius.0 c.args.n none (omega arith) in
    sym (le-ltb c.args.n (field_total F c.args.shell.length.0 c.args.shell.radius.0) past)

pub returns : goal.returns
returns c = at_0 (size_of c.args.shell.field) c.args.shell.length.0 c.args.shell.radius.0 c.args.n (omega (arith, c.if-shell-gt0.false))
