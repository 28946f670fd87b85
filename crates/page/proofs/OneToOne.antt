-- Two answers that the contract of a call of the page allows are equal: answers that say the same, and carry the
-- same values, are the same.
use Prim.Native.Nat.{ℕ, zero, suc}
use mathlib.Core.List.{List}
use mathlib.Core.Path.{◌≡◌, refl, sym, ap, ap₂, ◌∙◌}
use lib.Ieee.{Float, nan}
use lib.Dec.{eqb}
use lib.ListN.{get_or}
use Rattle.std.specs.Prelude.{Result, Ok, Err}
use Rattle.answers.proofs.OneToOne.{result_of, refusal_back, result_one_to_one, verdict_one_to_one}
use Rattle.answers.specs.Checks.{pick}
use Rattle.answers.specs.declared.Refusal.{Refusal}
use Rattle.rules.specs.Judging.{reason_number, reason_distance}
use Rattle.rules.specs.declared.Reason.TheVariants as reason
use Rattle.rules.specs.declared.Reason.{Reason}
use Rattle.page.specs.Meanings.{answer_tells, values_in, take_meaning, read_meaning, coefficient_meaning, coefficient_values, counts_meaning, tally_meaning}
use Rattle.page.specs.declared.Answer.TheVariants as answer
use Rattle.page.specs.declared.Answer.{Answer}
use Rattle.page.specs.declared.Counts.{Counts}

pub take_one_to_one : (a b : Result (Unit {0}) Refusal) → take_meaning a ≡ take_meaning b → a ≡ b
take_one_to_one = verdict_one_to_one

-- ---- the answer of a place, read back from what it tells and from the value that it carries
-- the reasons by number, an empty shape for the rest
why_of : ℕ → ℕ → Reason
why_of number distance =
    pick (eqb number 10) reason.NoSuchRadius (pick (eqb number 14) reason.TooWide (pick (eqb number 6) (reason.PastEnd distance) reason.EmptyShape))

why_back : (why : Reason) → why_of (reason_number why) (get_or (reason_distance why) 0 0) ≡ why
unfolding why_of
why_back reason.NoSuchRadius = refl
why_back reason.TooWide = refl
why_back (reason.PastEnd distance) = refl
why_back reason.EmptyShape = refl

-- the answers by number, unreadable for the rest
by_number : {A : Type 0} → A → ℕ → ℕ → ℕ → Answer A
by_number v zero number distance = answer.Sound v
by_number v (suc zero) number distance = answer.Mended v distance
by_number v (suc (suc zero)) number distance = answer.Missing
by_number v (suc (suc (suc zero))) number distance = answer.Contested
by_number v (suc (suc (suc (suc n)))) number distance = answer.Unreadable (why_of number distance)

answer_of : {A : Type 0} → A → List ℕ → Answer A
answer_of v vs = by_number v (get_or vs 0 0) (get_or vs 1 0) (get_or vs 2 0)

answer_back : {A : Type 0} (other : A) (a : Answer A) → answer_of (get_or (values_in a) 0 other) (answer_tells a) ≡ a
unfolding answer_of by_number
answer_back other (answer.Sound v) = refl
answer_back other (answer.Mended v distance) = refl
answer_back other answer.Missing = refl
answer_back other answer.Contested = refl
answer_back other (answer.Unreadable why) = ap answer.Unreadable (why_back why)

-- ---- read, which carries nothing
pub read_one_to_one : (a b : Result (Answer (Unit {0})) Refusal) → read_meaning a ≡ read_meaning b → a ≡ b
read_one_to_one = result_one_to_one answer_tells (answer_of tt) (answer_back tt)

-- ---- coefficient, with the values that it carries
valued_of : List ℕ → List Float → Result (Answer Float) Refusal
valued_of vs values = result_of (answer_of (get_or values 0 nan)) vs

valued_back : (a : Result (Answer Float) Refusal) → valued_of (coefficient_meaning a) (coefficient_values a) ≡ a
unfolding valued_of result_of
valued_back (Ok a) = ap Ok (answer_back nan a)
valued_back (Err r) = refusal_back (answer_of nan) r

pub coefficient_one_to_one : (a b : Result (Answer Float) Refusal) → coefficient_meaning a ≡ coefficient_meaning b → coefficient_values a ≡ coefficient_values b → a ≡ b
coefficient_one_to_one a b said carried = sym (valued_back a) ∙ ap₂ valued_of said carried ∙ valued_back b

-- ---- tally
counted_of : List ℕ → Counts
counted_of ns = record { sound = get_or ns 0 0; mended = get_or ns 1 0; missing = get_or ns 2 0; contested = get_or ns 3 0; unreadable = get_or ns 4 0 }

pub tally_one_to_one : (a b : Result Counts Refusal) → tally_meaning a ≡ tally_meaning b → a ≡ b
unfolding counted_of
tally_one_to_one = result_one_to_one counts_meaning counted_of (λ c. refl)
