-- `product::inner::read::search_magnitude` is the first magnitude and the number of the shape that is left. The
-- loop passes the shapes that begin with 1, 2 and so on: with k left to sum to after the first magnitude, what is
-- left of the number is that of a shape which sums to k+1.
use Prim.Native.Nat.{ℕ, suc, ◌-◌, ◌≤◌, ◌<◌}
use mathlib.Core.Path.{◌≡◌}
use native.Mathlib.Omega.{arith}
use Rattle.counts.specs.Counts.{S}
use Rattle.enumeration.proofs.Passing.{Passing, pass_none, pass_one, pass_found}
use Rattle.enumeration.proofs.Shapes.{all_passed, shape_at_least}
use Rattle.product.proofs.inner.read.search_magnitude.Goals as goal

-- behind what is passed there is a shape of two magnitudes or more, so more than 1 is left to sum to
on : (s sum shape k left begin : ℕ) → 0 < s → (begin ≡ S s k) × Passing (S s) sum shape k left → begin ≤ left
    → (1 < k) × (k ≤ sum) × Passing (S s) sum shape (k - 1) (left - begin)
on s sum shape k left begin p h q =
    let next = pass_one (S s) sum shape k left h.1 (omega (arith, h.0)) in
    let same : suc (k - 1) ≡ k = omega (arith, next.0) in
    let below : left - S s k < S (suc s) k = rw (all_passed s k) (rw same at next.1.left_below) in
    (omega (arith, shape_at_least (suc s) k (left - S s k) below), omega (arith, h.1.in_sum), rw h.0 next.1)

pub overflow_sub-k : goal.overflow_sub-k
overflow_sub-k c = omega (arith, shape_at_least (suc c.args.s) c.args.radius.0 c.args.shape c.requires.3)

pub shape_count-begin-requires : goal.shape_count-begin-requires
shape_count-begin-requires c = omega (arith, shape_at_least (suc c.args.s) c.args.radius.0 c.args.shape c.requires.3)

pub loop-begin-init : goal.loop-begin-init
loop-begin-init c =
    (c.shape_count-begin.ensures, pass_none (S c.args.s) c.args.radius.0 c.args.shape (rw (← all_passed c.args.s c.args.radius.0) c.requires.3))

pub overflow_sub-k-in-loop-begin : goal.overflow_sub-k-in-loop-begin
overflow_sub-k-in-loop-begin c =
    let at = c.loop-begin in
    let next = on c.args.s c.args.radius.0 c.args.shape at.k at.left at.begin (omega arith) at.invariant (omega arith) in
    omega arith

pub shape_count-begin-requires-in-loop-begin : goal.shape_count-begin-requires-in-loop-begin
shape_count-begin-requires-in-loop-begin c =
    let at = c.loop-begin in
    let next = on c.args.s c.args.radius.0 c.args.shape at.k at.left at.begin (omega arith) at.invariant (omega arith) in
    omega arith

pub loop-begin-smaller : goal.loop-begin-smaller
loop-begin-smaller c =
    let at = c.loop-begin in
    let next = on c.args.s c.args.radius.0 c.args.shape at.k at.left at.begin (omega arith) at.invariant (omega arith) in
    omega arith

pub loop-begin-preserved : goal.loop-begin-preserved
loop-begin-preserved c =
    let at = c.loop-begin in
    let next = on c.args.s c.args.radius.0 c.args.shape at.k at.left at.begin (omega arith) at.invariant (omega arith) in
    (c.shape_count-begin-in-loop-begin.ensures, next.2)

pub returns : goal.returns
returns c =
    let at = c.loop-begin in
    let found = pass_found (S c.args.s) c.args.radius.0 c.args.shape at.k at.left at.invariant.1 (omega (arith, at.invariant.0)) in
    (found.0, found.1, omega arith)
