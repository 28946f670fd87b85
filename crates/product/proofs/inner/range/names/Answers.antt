-- `product::inner::range::names` tells whether the index names a point: each does where the field is exact, and where
-- it has bits the shape field tells.
use Prim.Native.Nat.{ℕ, ◌<◌}
use mathlib.Core.Path.{◌≡◌, sym}
use mathlib.Core.Bool.{true}
use Rattle.counts.specs.Fields.{size_of, field_total}
use Rattle.counts.specs.declared.Field.{Field}
use Rattle.counts.specs.declared.Field.TheVariants as field
use Rattle.counts.proofs.Fields.{is_field}
use Rattle.enumeration.specs.Reading.{product_names}
use Rattle.enumeration.proofs.Product.{exact_names}
use Rattle.product.proofs.inner.range.names.Goals as goal

exact : (f : Field) (l k n : ℕ) → f ≡ field.Exact → n < field_total (size_of f) l k → true ≡ product_names (size_of f) l k n
exact f l k n e below =
    let named = exact_names (is_field field.Exact) l k n (rw e at below) in
    rw e (sym named)

pub returns-in-Exact : goal.returns-in-Exact
returns-in-Exact c =
    let shell = c.args.shell in
    exact shell.field shell.length.0 shell.radius.0 c.args.n c.in-Exact.is c.requires.index_below
