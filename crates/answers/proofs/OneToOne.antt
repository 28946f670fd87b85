-- Answers that say the same are the same: what was said is read back, a refusal by `refusal_of` and any call's
-- answer by `result_of`. A refusal begins with a number above 0, and an answer with 0, so neither is taken for the
-- other.
use Prim.Native.Nat.{ℕ, zero, suc, ◌≤◌}
use mathlib.Core.Path.{◌≡◌, refl, sym, ap, ◌∙◌}
use mathlib.Core.List.{List, [], ◌∷◌}
use native.Mathlib.Omega.{arith}
use lib.Dec.{lit≤}
use lib.ListN.{length, get_or, get_or-eq_default}
use Rattle.std.specs.Prelude.{Result, Ok, Err}
use Rattle.answers.specs.declared.Refusal.{Refusal}
use Rattle.answers.specs.declared.Refusal.TheVariants as refusal
use Rattle.answers.specs.Refusals.{meaning, number_of, first_named, result_meaning, no_values, verdict_meaning}

-- 11 names a coordinate, or a place and a coordinate
coefficient_of : List ℕ → Refusal
coefficient_of [] = refusal.LengthOutside
coefficient_of (i ∷ []) = refusal.UnusableCoefficient i
coefficient_of (p ∷ i ∷ vs) = refusal.UnusableCoefficientAt p i

-- 12 names a place or none
cell_of : List ℕ → Refusal
cell_of [] = refusal.BadCell
cell_of (place ∷ vs) = refusal.BadCellAt place

-- the refusals by number, with the values vs; no refusal has the numbers 0, 10, 14, 18 and 19
by_number : List ℕ → List Refusal
by_number vs =
    refusal.LengthOutside
    ∷ refusal.LengthOutside
    ∷ refusal.RadiusAbove
    ∷ refusal.ShellTooLarge
    ∷ refusal.BufferLength
    ∷ refusal.MagnitudeSum
    ∷ refusal.IndexPastEnd (get_or vs 0 0)
    ∷ refusal.BadTable (get_or vs 0 0)
    ∷ refusal.NoSuchPlace
    ∷ refusal.ForeignRow
    ∷ refusal.LengthOutside
    ∷ coefficient_of vs
    ∷ cell_of vs
    ∷ refusal.NoSuchCoordinate
    ∷ refusal.LengthOutside
    ∷ refusal.EmptyShape
    ∷ refusal.NoSuchMode
    ∷ refusal.BooksOutside
    ∷ refusal.LengthOutside
    ∷ refusal.LengthOutside
    ∷ refusal.NoSuchEnumeration
    ∷ []

pub refusal_of : List ℕ → Refusal
refusal_of [] = refusal.LengthOutside
refusal_of (n ∷ vs) = get_or (by_number vs) n refusal.LengthOutside

-- The law of a refusal: it says a number above 0 and at most two values, and is read back from them.
pub record Said (r : Refusal) : Type 0 where
  pub before : ℕ
  pub values : List ℕ
  pub says : meaning r ≡ suc before ∷ values
  pub back : refusal_of (suc before ∷ values) ≡ r
  pub two : length values ≤ 2

says_back : {r : Refusal} (n : ℕ) (vs : List ℕ) → meaning r ≡ suc n ∷ vs → refusal_of (suc n ∷ vs) ≡ r → length vs ≤ 2 → Said r
says_back n vs says back two = record { before = n; values = vs; says = says; back = back; two = two }

pub said : (r : Refusal) → Said r
unfolding refusal_of by_number coefficient_of cell_of
said refusal.LengthOutside = says_back 0 [] refl refl (lit≤ tt)
said refusal.RadiusAbove = says_back 1 [] refl refl (lit≤ tt)
said refusal.ShellTooLarge = says_back 2 [] refl refl (lit≤ tt)
said refusal.BufferLength = says_back 3 [] refl refl (lit≤ tt)
said refusal.MagnitudeSum = says_back 4 [] refl refl (lit≤ tt)
said (refusal.IndexPastEnd distance) = says_back 5 (distance ∷ []) refl refl (lit≤ tt)
said (refusal.BadTable row) = says_back 6 (row ∷ []) refl refl (lit≤ tt)
said refusal.NoSuchPlace = says_back 7 [] refl refl (lit≤ tt)
said refusal.ForeignRow = says_back 8 [] refl refl (lit≤ tt)
said (refusal.UnusableCoefficient coordinate) = says_back 10 (coordinate ∷ []) refl refl (lit≤ tt)
said (refusal.UnusableCoefficientAt place coordinate) = says_back 10 (place ∷ coordinate ∷ []) refl refl (lit≤ tt)
said refusal.BadCell = says_back 11 [] refl refl (lit≤ tt)
said (refusal.BadCellAt place) = says_back 11 (place ∷ []) refl refl (lit≤ tt)
said refusal.NoSuchCoordinate = says_back 12 [] refl refl (lit≤ tt)
said refusal.EmptyShape = says_back 14 [] refl refl (lit≤ tt)
said refusal.NoSuchMode = says_back 15 [] refl refl (lit≤ tt)
said refusal.BooksOutside = says_back 16 [] refl refl (lit≤ tt)
said refusal.NoSuchEnumeration = says_back 19 [] refl refl (lit≤ tt)

-- 7 is the refusal of a table
pub of_7 : (r : Refusal) → number_of r ≡ 7 → r ≡ refusal.BadTable (first_named r)
unfolding refusal_of by_number
of_7 r is =
    let s = said r in
    let seven : suc s.before ≡ 7 = ap (λ (vs : List ℕ). get_or vs 0 0) (sym s.says) ∙ is in
    sym (rw seven at s.back) ∙ ap (λ (vs : List ℕ). refusal.BadTable (get_or vs 1 0)) (sym s.says)

-- what can be read back is one to one
pub one_to_one : {A : Type 0} (says : A → List ℕ) (back : List ℕ → A) → ((a : A) → back (says a) ≡ a) → (a b : A) → says a ≡ says b → a ≡ b
one_to_one says back h a b e = sym (h a) ∙ ap back e ∙ h b

-- past the number and the two values it says nothing
pub nothing_more : (r : Refusal) (n : ℕ) → get_or (meaning r) (suc (suc (suc n))) 0 ≡ 0
nothing_more r n =
    let s = said r in
    ap (λ (vs : List ℕ). get_or vs (suc (suc (suc n))) 0) s.says ∙ get_or-eq_default s.values 0 {n = suc (suc n)} (omega (arith, s.two))

pub meaning_one_to_one : (r r' : Refusal) → meaning r ≡ meaning r' → r ≡ r'
meaning_one_to_one = one_to_one meaning refusal_of (λ r. ap refusal_of (said r).says ∙ (said r).back)

-- an answer is read back from 0 and what it tells, or from a refusal
unfoldable pub result_of : {A : Type 0} → (List ℕ → A) → List ℕ → Result A Refusal
result_of back [] = Ok (back [])
result_of back (zero ∷ vs) = Ok (back vs)
result_of back (suc n ∷ vs) = Err (refusal_of (suc n ∷ vs))

pub refusal_back : {A : Type 0} (back : List ℕ → A) (r : Refusal) → result_of back (meaning r) ≡ Err r
unfolding result_of
refusal_back back r = ap (result_of back) (said r).says ∙ ap Err (said r).back

-- The law of every call: where what an answer tells can be read back, answers that say the same are the same.
pub result_one_to_one : {A : Type 0} (tells : A → List ℕ) (back : List ℕ → A) → ((a : A) → back (tells a) ≡ a)
    → (r s : Result A Refusal) → result_meaning tells r ≡ result_meaning tells s → r ≡ s
unfolding result_of
result_one_to_one {A = A} tells back h = one_to_one (result_meaning tells) (result_of back) whole
  where
    whole : (r : Result A Refusal) → result_of back (result_meaning tells r) ≡ r
    whole (Ok a) = ap Ok (h a)
    whole (Err r) = refusal_back back r

pub verdict_one_to_one : (r s : Result (Unit {0}) Refusal) → verdict_meaning r ≡ verdict_meaning s → r ≡ s
verdict_one_to_one = result_one_to_one no_values (λ vs. tt) (λ passed. refl)
