-- For an index past the end there are as many as the last range ends at, and what was searched to is that end.
use Prim.Native.Nat.{ℕ, ◌≤◌, ◌<◌}
use mathlib.Core.Bool.{true, false}
use mathlib.Core.Path.{◌≡◌, sym, ap, ◌∙◌}
use native.Mathlib.Omega.{arith}
use lib.Dec.{ltb}
use borrow.Author.Tests.{ltb-true, ltb-false}
use Rattle.counts.specs.Counts.{range_start}
use Rattle.counts.specs.Fields.{size_of, field_total}
use Rattle.enumeration.specs.Reading.{range_of}
use Rattle.enumeration.proofs.RangeOf.{none_above}
use Rattle.product.specs.declared.inner.range.Found.{Found}
use Rattle.ranges.specs.declared.inner.usable.Shell.{Shell}
use Rattle.numbering.specs.Numbered.{IsShellOf, total_in}
use Rattle.numbering.specs.declared.inner.Numbering.{Numbering}
use Rattle.numbering.proofs.Selected.{total_of_shell, names_shell, found_shell, index_shell}
use Rattle.numbering.proofs.inner.Numbering.seek_range.Goals as goal

-- the test of the code, both ways
module _ (m : Numbering) (shell : Shell) (is : IsShellOf m shell) (n : ℕ) where
  abbrev many : ℕ
  many = field_total (size_of shell.field) shell.length.0 shell.radius.0

  below : true ≡ ltb n many → n < total_in m
  below test = omega (arith, ltb-true n many (sym test), total_of_shell m shell is)

  past : false ≡ ltb n many → many ≤ n
  past test = ltb-false n many (sym test)

-- past the end no range from 1 on is found
at_end : (F : ℕ → ℕ → ℕ) (l k n : ℕ) (found : Found) → found.s ≡ range_of F l k n → found.start ≡ range_start F found.s l k → field_total F l k ≤ n
    → found.start ≡ range_start F 0 l k
at_end F l k n found range start h = start ∙ ap (λ (s : ℕ). range_start F s l k) (range ∙ none_above F l k n h)

pub total-requires : goal.total-requires
total-requires c =
    let shell = c.shell-shell in
    let found = c.locate-found in
    at_end (size_of shell.result.field) shell.result.length.0 shell.result.radius.0 c.args.n found.result found.ensures.0 found.ensures.1
    (past c.args.self shell.result shell.ensures c.args.n c.if-not-holds.ensures)

pub returns-then-not-holds : goal.returns-then-not-holds
returns-then-not-holds c =
    let shell = c.shell-shell in
    let total = total_of_shell c.args.self shell.result shell.ensures in
    (omega (arith, total, past c.args.self shell.result shell.ensures c.args.n c.if-not-holds.ensures), c.total.ensures ∙ sym total)

pub names-requires : goal.names-requires
names-requires c =
    let m = c.args.self in
    let shell = c.shell-shell in
    let found = c.locate-found in
    index_shell m shell.result shell.ensures c.requires.1 c.args.n found.result (below m shell.result shell.ensures c.args.n c.if-not-holds.ensures)
    (found_shell m shell.result shell.ensures c.requires.1 c.args.n found.result found.ensures.0 found.ensures.1)

pub returns-then-not-names : goal.returns-then-not-names
returns-then-not-names c =
    let m = c.args.self in
    let shell = c.shell-shell in (
      below m shell.result shell.ensures c.args.n c.if-not-holds.ensures,
      sym (names_shell m shell.result shell.ensures c.requires.1 c.args.n c.if-not-names.ensures),
    )

pub returns : goal.returns
returns c =
    let m = c.args.self in
    let shell = c.shell-shell in
    let found = c.locate-found in (
      below m shell.result shell.ensures c.args.n c.if-not-holds.ensures,
      sym (names_shell m shell.result shell.ensures c.requires.1 c.args.n c.if-not-names.ensures),
      found_shell m shell.result shell.ensures c.requires.1 c.args.n found.result found.ensures.0 found.ensures.1,
    )
