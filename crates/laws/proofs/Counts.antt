-- The tally's five counts: they sum to the number of places, one place more adds 1 to the count of its answer alone,
-- where every place is sound they are the number of places and zeros, and an answer that no place has is counted 0
-- times.
use Prim.Native.Nat.{ℕ, zero, suc, ◌≤◌, ◌<◌}
use mathlib.Core.Path.{◌≡◌, refl, sym, ap, ◌∙◌}
use mathlib.Core.List.{List, [], ◌∷◌}
use mathlib.Core.Bool.{Bool, true, false}
use native.Mathlib.Omega.{arith}
use lib.Dec.{eqb}
use borrow.Author.Tests.{ne_eqb}
use lib.ListN.{length, get_or, set}
use Rattle.answers.specs.Checks.{pick}
use Rattle.enumeration.specs.Point.{sum_of}
use Rattle.tables.specs.Table.{places_in}
use Rattle.rules.specs.Judging.{judge_at, answer_number}
use Rattle.rules.specs.Tallying.{count_of, counts_of, answer_at, tally_of}
use Rattle.rules.specs.declared.Judged.{Judged}
use Rattle.rules.specs.declared.Judged.TheVariants as judged

-- there are five answers
pub five_answers : (j : Judged) → answer_number j < 5
five_answers (judged.Sound k n) = omega arith
five_answers (judged.Mended k n d) = omega arith
five_answers judged.Missing = omega arith
five_answers judged.Contested = omega arith
five_answers (judged.Unreadable why) = omega arith

-- 1 more in one of them is 1 more in their sum
one_more_lem : (ns : List ℕ) (a : ℕ) → a < length ns → sum_of (set ns a (suc (get_or ns a 0))) ≡ suc (sum_of ns)
one_more_lem [] a h = absurd (omega arith)
one_more_lem (n ∷ ns) zero h = omega arith
one_more_lem (n ∷ ns) (suc a) h = omega (arith, one_more_lem ns a (omega arith))

module _ (f : ℕ → ℕ) where
  -- one place more
  pub counts_next : (n a : ℕ) → f n ≡ a → a < 5 → set (counts_of f n) a (suc (get_or (counts_of f n) a 0)) ≡ counts_of f (suc n)
  unfolding count_of
  counts_next n zero e h = rw e refl
  counts_next n (suc zero) e h = rw e refl
  counts_next n (suc (suc zero)) e h = rw e refl
  counts_next n (suc (suc (suc zero))) e h = rw e refl
  counts_next n (suc (suc (suc (suc zero)))) e h = rw e refl
  counts_next n (suc (suc (suc (suc (suc a))))) e h = absurd (omega arith)

  -- every place has the first answer
  pub first_alone : (n : ℕ) → ((p : ℕ) → p < n → f p ≡ 0) → counts_of f n ≡ n ∷ 0 ∷ 0 ∷ 0 ∷ 0 ∷ []
  unfolding count_of
  first_alone zero all = refl
  first_alone (suc n) all =
      sym (counts_next n 0 (all n (omega arith)) (omega arith))
      ∙ ap (λ (counts : List ℕ). set counts 0 (suc (get_or counts 0 0))) (first_alone n (λ p h. all p (omega arith)))

  -- an answer that no place has
  pub none_counted : (a n : ℕ) → ((p : ℕ) → f p ≡ a → ⊥) → count_of f a n ≡ 0
  unfolding count_of
  none_counted a zero none = refl
  none_counted a (suc n) none = rw (ne_eqb (f n) a (none n)) (none_counted a n none)

  -- no count is above the number of places
  count_to : (a n : ℕ) → count_of f a n ≤ n
  unfolding count_of
  count_to a zero = omega arith
  count_to a (suc n) = go (eqb (f n) a) (count_to a n)
    where
      go : (b : Bool) → count_of f a n ≤ n → pick b (suc (count_of f a n)) (count_of f a n) ≤ suc n
      go true h = omega arith
      go false h = omega arith

  pub counts_to : (n a : ℕ) → get_or (counts_of f n) a 0 ≤ n
  counts_to n zero = count_to 0 n
  counts_to n (suc zero) = count_to 1 n
  counts_to n (suc (suc zero)) = count_to 2 n
  counts_to n (suc (suc (suc zero))) = count_to 3 n
  counts_to n (suc (suc (suc (suc zero)))) = count_to 4 n
  counts_to n (suc (suc (suc (suc (suc a))))) = omega arith

  pub counts_sum : (n : ℕ) → ((p : ℕ) → f p < 5) → sum_of (counts_of f n) ≡ n
  unfolding count_of
  counts_sum zero below = refl
  counts_sum (suc n) below =
      ap sum_of (sym (counts_next n (f n) refl (below n))) ∙ one_more_lem (counts_of f n) (f n) (below n) ∙ ap suc (counts_sum n below)

-- the five answers share out the places among them
pub tally_sum : (mode : ℕ) (t pg : List ℕ) (book : ℕ) → sum_of (tally_of mode t pg book) ≡ places_in t
tally_sum mode t pg book = counts_sum (answer_at mode t pg book) (places_in t) (λ p. five_answers (judge_at mode t pg book p))
