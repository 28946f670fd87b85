-- Demand 1 argued once for all calls: what a call says is the first check that fails, and what it leaves goes by
-- the same checks.
use Prim.Native.Nat.{ℕ, suc, ◌<◌}
use mathlib.Core.Path.{◌≡◌, refl, sym, ap, ◌∙◌}
use mathlib.Core.List.{List, [], ◌∷◌, ◌++◌, Memᴰ}
use mathlib.Core.Bool.{Bool, true, false, ◌&&◌, false≢true}
use mathlib.Core.Logic.{inl, inr, ⊎_elim}
use native.Mathlib.Omega.{arith}
use lib.Dec.{ltb}
use lib.ListN.{length}
use borrow.Author.Tests.{ltb-true}
use Rattle.answers.specs.Checks.{number_said, Check, pick, first_of, leaves, Refuses, Passes}
use Rattle.answers.proofs.InOrder.{refuses_says, says_refuses, passes_says, refuses_leaves, passes_leaves, passed_says, passed_leaves}
use Rattle.channel.specs.Demand1.{numbers_of, Refusing, Unchanged}
use Rattle.channel.proofs.Conditions.{Alike}

-- ---- conditions name nothing
abbrev pub named_by : List Check → List ℕ
named_by [] = []
named_by (c ∷ cs) = c.values ++ named_by cs

-- two lists that make up none are none
both_none : (vs ws : List ℕ) → vs ++ ws ≡ [] → (vs ≡ []) × (ws ≡ [])
both_none [] ws e = (refl, e)
both_none (v ∷ vs) ws e = absurd (omega (arith, ap length e))

plain_names : (cs : List Check) (n : ℕ) (vs : List ℕ) → named_by cs ≡ [] → Refuses cs n vs → Refuses cs n []
plain_names [] n vs p r = r
plain_names (c ∷ cs) n vs p r =
    let none = both_none c.values (named_by cs) p in
    ⊎_elim (λ h. inl (h.0, h.1, none.0)) (λ h. inr (h.0, plain_names cs n vs none.1 h.1)) r

refuses_listed : (cs : List Check) (n : ℕ) (vs : List ℕ) → Refuses cs n vs → Memᴰ n (numbers_of cs)
refuses_listed [] n vs r = absurd r
refuses_listed (c ∷ cs) n vs r = ⊎_elim (λ h. Memᴰ.head (sym h.1)) (λ h. Memᴰ.tail (refuses_listed cs n vs h.1)) r

-- ---- no condition has number 0
abbrev pub no_zero : List Check → Bool
no_zero [] = true
no_zero (c ∷ cs) = ltb 0 c.number && no_zero cs

both_true : (a b : Bool) → a && b ≡ true → (a ≡ true) × (b ≡ true)
both_true true b e = (refl, e)
both_true false b e = absurd (false≢true e)

none_said : (a : List ℕ) (cs : List Check) → no_zero cs ≡ true → number_said (first_of cs (0 ∷ a)) ≡ 0 → Passes cs
none_said a [] p e = tt
none_said a (c ∷ cs) p e =
    let above = both_true (ltb 0 c.number) (no_zero cs) p in
    go (ltb-true 0 c.number above.0) (none_said a cs above.1) c.fails refl e
  where
    go : 0 < c.number → (number_said (first_of cs (0 ∷ a)) ≡ 0 → Passes cs) → (b : Bool) → c.fails ≡ b
        → number_said (pick b (c.number ∷ c.values) (first_of cs (0 ∷ a))) ≡ 0 → Passes (c ∷ cs)
    go above rest true f h = absurd (omega arith)
    go above rest false f h = (f, rest h)

-- what begins with a number above 0 is that number and the rest
begins : (says : List ℕ) (n : ℕ) → number_said says ≡ suc n → (vs : List ℕ) × (says ≡ suc n ∷ vs)
begins [] n e = absurd (omega arith)
begins (m ∷ vs) n e = (vs, ap (λ (i : ℕ). i ∷ vs) e)

-- ---- checks cs and then checks ds, all of which pass
module _ (cs ds : List Check) where
  pub says_through : (answer : List ℕ) → Passes cs → Passes ds → first_of (cs ++ ds) answer ≡ answer
  says_through answer first second = sym (passed_says cs ds answer first) ∙ passes_says answer ds second

  pub leaves_through : {A : Type 0} (made held : A) → Passes cs → Passes ds → leaves (cs ++ ds) made held ≡ made
  leaves_through made held first second = sym (passed_leaves cs ds made held first) ∙ passes_leaves made held ds second

-- ---- a call
module _ (a : List ℕ) (checks : List Check) where
  -- the number that is said is that of the conditions
  pub refusing : (conditions : List Check) → named_by conditions ≡ [] → no_zero conditions ≡ true → Alike checks conditions
      → Refusing (numbers_of conditions) conditions checks (first_of checks (0 ∷ a))
  refusing conditions plain above alike = record {
    in_order = refl;
    exactly = λ n. (refused n, λ r. same ∙ ap number_said (refuses_says (0 ∷ a) conditions (suc n) [] r));
    answered = (λ e. none_said a conditions above (sym same ∙ e), λ p. same ∙ ap number_said (passes_says (0 ∷ a) conditions p));
    naming = λ n vs. (says_refuses a checks n vs, refuses_says (0 ∷ a) checks (suc n) vs);
    listed = λ n e. refuses_listed conditions (suc n) [] (refused n e);
  }
    where
      same : number_said (first_of checks (0 ∷ a)) ≡ number_said (first_of conditions (0 ∷ a))
      same = alike.said (0 ∷ a)

      refused : (n : ℕ) → number_said (first_of checks (0 ∷ a)) ≡ suc n → Refuses conditions (suc n) []
      refused n e =
          let b = begins (first_of conditions (0 ∷ a)) n (sym same ∙ e) in
          plain_names conditions (suc n) b.0 plain (says_refuses a conditions n b.0 b.1)

  pub unchanged : {B : Type 0} (made held : B) → Unchanged (first_of checks (0 ∷ a)) (leaves checks made held) held
  unchanged made held n e =
      let b = begins (first_of checks (0 ∷ a)) n e in
      refuses_leaves made held checks (suc n) b.0 (says_refuses a checks n b.0 b.1)
