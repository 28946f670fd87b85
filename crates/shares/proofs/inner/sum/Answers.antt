-- `shares::inner::sum` gives the sum, which at most 16 numbers of at most 2^23 keep within 2^27.
use Rattle.std.proofs.Common.{◌≡◌, ◌*◌, ◌^◌, ◌≤◌, ℕ, suc, List, [], ◌∷◌, length, sum, refl, sym, ◌∙◌, rules}
use native.Mathlib.Omega.{arith}
use Rattle.std.proofs.lemmas.List.Recursion.{is_sum_by}
use Rattle.enumeration.specs.Point.{sum_of}
use Rattle.shares.specs.Shares.{AllUpTo}
use Rattle.shares.proofs.inner.sum.Goals as goal

same : (ns : List ℕ) → sum_of ns ≡ sum ns
same = is_sum_by sum_of (λ n. n) refl (λ _ _. refl)

bounded : (most : ℕ) (ns : List ℕ) → AllUpTo most ns → sum_of ns ≤ length ns * most
bounded most [] all = omega arith
bounded most (n ∷ ns) all = omega (arith, all 0 (omega arith), bounded most ns (λ i below. all (suc i) (omega arith)))

small : (ns : List ℕ) → (length ns ≤ 16) × AllUpTo (2 ^ 23) ns → sum ns ≤ 2 ^ 27
small ns h = omega (arith, bounded (2 ^ 23) ns h.1, same ns)

pub sum-requires-clause-fits : goal.sum-requires-clause-fits
sum-requires-clause-fits c =
    let fits : sum c.args.numbers.now ≤ 2 ^ 27 = small c.args.numbers.now c.requires in search rules

pub returns : goal.returns
returns c =
    let numbers = c.args.numbers.now in
    let fits : sum numbers ≤ 2 ^ 27 = small numbers c.requires in
    let is : c.sum.result ≡ sum numbers = search rules in
    (is ∙ sym (same numbers), omega arith)
