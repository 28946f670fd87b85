-- `magnitude::inner::weigh::with_coordinate` gives the tail from `at` on: a zero adds nothing, and another coordinate
-- its offset, which is made of the row and of the row above.
use borrow.Author.Rules.{rules}
use Prim.Native.Nat.{ℕ, suc, ◌<◌}
use mathlib.Core.Path.{◌≡◌, ap, ◌∙◌}
use mathlib.Core.List.{List}
use mathlib.Core.Logic.{inl, inr}
use native.Mathlib.Omega.{arith}
use lib.IntN.{ℤ, nat_abs, pos}
use lib.ListN.{length}
use lib.Signed.{lt_z}
use mir.Syntax.{w32}
use mir.Val.{SFits, to_z, of_z}
use Rattle.coordinates.proofs.Coordinates.{kept, zero_bits, nonzero_bits, negative_bits}
use Rattle.magnitude.specs.Rows.{counts_room, Raised}
use Rattle.magnitude.specs.Tails.{Weighable, Gathered}
use Rattle.magnitude.specs.declared.inner.weigh.Tail.{Tail}
use Rattle.magnitude.proofs.Tails.{here, Found, sum_inside, can_raise, with_zero, inside, differs, index_limited, with_nonzero}
use Rattle.magnitude.proofs.inner.weigh.with_coordinate.Goals.{then-c-lt0, else-c-lt0}
use Rattle.magnitude.proofs.inner.weigh.with_coordinate.Goals as goal

-- what is found of a coordinate that is no zero
found : {k : ℕ} {x : List ℤ} {at : ℕ} {row : List ℕ} {behind : Tail} {made : List ℕ} {m : ℕ} → SFits w32 (here x at)
    → (at < length x) × Weighable k x × Gathered k x (suc at) row behind
    → length made ≡ counts_room
    → Raised k row made
    → m ≡ nat_abs (to_z w32 (of_z w32 (here x at)))
    → (of_z w32 (here x at) ≡ 0 → ⊥)
    → Found k x at row behind made m (lt_z (to_z w32 (of_z w32 (here x at))) (pos 0))
found {x = x} {at = at} fits added room raised magnitude_is nonzero =
    let z = here x at in
    record {
      added = added;
      room = room;
      raised = raised;
      magnitude_is = magnitude_is ∙ ap nat_abs (kept z fits);
      sign_is = negative_bits z fits;
      nonzero = nonzero_bits z nonzero;
    }

pub offset_bounds-counts-left : goal.offset_bounds-counts-left
offset_bounds-counts-left c = record { fits = omega (arith, sum_inside c.requires) }

pub bounds-counts-left : goal.bounds-counts-left
bounds-counts-left c = omega (arith, sum_inside c.requires, c.requires.2.room)

pub raise-requires : goal.raise-requires
raise-requires c = can_raise c.requires

pub returns-then-c-eq0 : goal.returns-then-c-eq0
returns-then-c-eq0 c =
    with_zero c.requires c.raise.new.counts (search rules) c.raise.ensures (zero_bits (here c.args.x.now c.args.at) (search rules) c.if-c-eq0.true)

pub overflow_add-sum : goal.overflow_add-sum
overflow_add-sum c =
    let f = found (search rules) c.requires (search rules) c.raise.ensures c.magnitude.ensures.0 c.if-c-eq0.false in
    record { fits = omega (arith, inside f) }

pub offset_bounds-counts-sum : goal.offset_bounds-counts-sum
offset_bounds-counts-sum c =
    let f = found (search rules) c.requires (search rules) c.raise.ensures c.magnitude.ensures.0 c.if-c-eq0.false in
    record { fits = omega (arith, inside f) }

pub bounds-counts-sum : goal.bounds-counts-sum
bounds-counts-sum c =
    let f = found (search rules) c.requires (search rules) c.raise.ensures c.magnitude.ensures.0 c.if-c-eq0.false in
    omega (arith, inside f, f.room)

pub offset_bounds-counts-left-2 : goal.offset_bounds-counts-left-2
offset_bounds-counts-left-2 c = record { fits = omega (arith, sum_inside c.requires) }

pub bounds-counts-left-2 : goal.bounds-counts-left-2
bounds-counts-left-2 c = omega (arith, sum_inside c.requires, c.requires.2.room, c.raise.auto.counts)

pub overflow_sub-from : goal.overflow_sub-from
overflow_sub-from c =
    let f = found (search rules) c.requires (search rules) c.raise.ensures c.magnitude.ensures.0 c.if-c-eq0.false in
    omega (arith, differs f)

pub overflow_sub-offset : goal.overflow_sub-offset
overflow_sub-offset c =
    let f = found (search rules) c.requires (search rules) c.raise.ensures c.magnitude.ensures.0 c.if-c-eq0.false in
    omega (arith, differs f)

pub overflow_add-result : goal.overflow_add-result
overflow_add-result c =
    let f = found (search rules) c.requires (search rules) c.raise.ensures c.magnitude.ensures.0 c.if-c-eq0.false in
    let sum =
    index_limited f c.if-c-lt0.offset
    (elim c.if-c-lt0.branch [ then-c-lt0 w ↦ inl (w.if-c-lt0.true, w.offset-is) | else-c-lt0 w ↦ inr (w.if-c-lt0.false, w.offset-is) ]) in
    record { fits = omega (arith, sum) }

pub returns : goal.returns
returns c =
    let f = found (search rules) c.requires (search rules) c.raise.ensures c.magnitude.ensures.0 c.if-c-eq0.false in
    with_nonzero f c.if-c-lt0.offset
    (elim c.if-c-lt0.branch [ then-c-lt0 w ↦ inl (w.if-c-lt0.true, w.offset-is) | else-c-lt0 w ↦ inr (w.if-c-lt0.false, w.offset-is) ])
