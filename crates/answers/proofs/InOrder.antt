-- The law of the order of checks, once for all calls: a call says number n exactly when n's check fails and none
-- before it does, and it answers exactly when none fails. Each way round is a law of its own. A call that refuses
-- leaves a lent buffer as it was.
use Prim.Native.Nat.{ℕ, suc, ◌<◌}
use mathlib.Core.Path.{◌≡◌, refl, sym, ap, ap₂, ◌∙◌}
use mathlib.Core.List.Memᴰ
use mathlib.Core.List.{List, [], ◌∷◌, ◌++◌, Memᴰ}
use mathlib.Core.Bool.{Bool, true, false, ◌||◌, false≢true}
use mathlib.Core.Logic.{inl, inr, ⊎_elim}
use native.Mathlib.Omega.{arith}
use Rattle.answers.specs.declared.Refusal.{Refusal}
use Rattle.answers.specs.Refusals.{meaning}
use Rattle.answers.specs.Checks.{Check, any_of, NoneOf, first_of, leaves, pick, fails_of, Refuses, Passes}
use Rattle.answers.proofs.OneToOne.{said}

-- a check of several faults passes: then there is none
pub none_of : (faults : List Bool) → any_of faults ≡ false → NoneOf faults
none_of [] e = tt
none_of (true ∷ faults) e = absurd (false≢true (sym e))
none_of (false ∷ faults) e = (refl, none_of faults e)

pub refuses_says : (answer : List ℕ) (cs : List Check) (n : ℕ) (vs : List ℕ) → Refuses cs n vs → first_of cs answer ≡ n ∷ vs
refuses_says answer [] n vs r = absurd r
refuses_says answer (c ∷ cs) n vs r =
    ⊎_elim (λ h. rw h.0 (ap₂ ◌∷◌ h.1 h.2)) (λ h. rw h.0 (refuses_says answer cs n vs h.1)) r

pub passes_says : (answer : List ℕ) (cs : List Check) → Passes cs → first_of cs answer ≡ answer
passes_says answer [] p = refl
passes_says answer (c ∷ cs) p = rw p.0 (passes_says answer cs p.1)

pub says_refuses : (a : List ℕ) (cs : List Check) (n : ℕ) (vs : List ℕ) → first_of cs (0 ∷ a) ≡ suc n ∷ vs → Refuses cs (suc n) vs
says_refuses a [] n vs e = let z : 0 ≡ suc n = cc in omega arith
says_refuses a (c ∷ cs) n vs e = go c.fails refl e (says_refuses a cs n vs)
  where
    go : (b : Bool) → c.fails ≡ b → pick b (c.number ∷ c.values) (first_of cs (0 ∷ a)) ≡ suc n ∷ vs
        → (first_of cs (0 ∷ a) ≡ suc n ∷ vs → Refuses cs (suc n) vs) → Refuses (c ∷ cs) (suc n) vs
    go true t h rest = inl (t, cc, cc)
    go false t h rest = inr (t, rest h)

pub refuses_leaves : {A : Type 0} (made held : A) (cs : List Check) (n : ℕ) (vs : List ℕ) → Refuses cs n vs → leaves cs made held ≡ held
refuses_leaves made held [] n vs r = absurd r
refuses_leaves made held (c ∷ cs) n vs r =
    ⊎_elim (λ h. rw h.0) (λ h. rw h.0 (refuses_leaves made held cs n vs h.1)) r

pub passes_leaves : {A : Type 0} (made held : A) (cs : List Check) → Passes cs → leaves cs made held ≡ made
passes_leaves made held [] p = refl
passes_leaves made held (c ∷ cs) p = rw p.0 (passes_leaves made held cs p.1)

-- whether any check fails, as one test
pub fails_then : (cs ds : List Check) → any_of (fails_of (cs ++ ds)) ≡ any_of (fails_of cs) || any_of (fails_of ds)
fails_then [] ds = refl
fails_then (c ∷ cs) ds = go c.fails (fails_then cs ds)
  where
    go : (b : Bool) → any_of (fails_of (cs ++ ds)) ≡ any_of (fails_of cs) || any_of (fails_of ds)
        → b || any_of (fails_of (cs ++ ds)) ≡ b || any_of (fails_of cs) || any_of (fails_of ds)
    go true rest = refl
    go false rest = rest

pub passes_fails : (cs : List Check) → Passes cs → any_of (fails_of cs) ≡ false
passes_fails [] p = refl
passes_fails (c ∷ cs) p = rw p.0 (passes_fails cs p.1)

pub one_fails : (cs : List Check) (c : Check) → Memᴰ c cs → c.fails ≡ true → any_of (fails_of cs) ≡ true
one_fails [] c m e = absurd (Memᴰ.not-nil m)
one_fails (d ∷ cs) c m e =
    ⊎_elim (λ same. rw (← same, e) refl) (λ later. go d.fails (one_fails cs c later e)) (Memᴰ.cases_cons m)
  where
    go : (b : Bool) → any_of (fails_of cs) ≡ true → b || any_of (fails_of cs) ≡ true
    go true rest = refl
    go false rest = rest

-- both of two lists of checks pass
pub passes_apart : (cs ds : List Check) → Passes (cs ++ ds) → Passes cs × Passes ds
passes_apart [] ds p = (tt, p)
passes_apart (c ∷ cs) ds p = let rest = passes_apart cs ds p.1 in ((p.0, rest.0), rest.1)

pub passes_then : (cs ds : List Check) → Passes cs → Passes ds → Passes (cs ++ ds)
passes_then [] ds p q = q
passes_then (c ∷ cs) ds p q = (p.0, passes_then cs ds p.1 q)

pub refuses_fails : (cs : List Check) (n : ℕ) (vs : List ℕ) → Refuses cs n vs → any_of (fails_of cs) ≡ true
refuses_fails [] n vs r = absurd r
refuses_fails (c ∷ cs) n vs r = ⊎_elim (λ h. rw h.0) (λ h. rw h.0 (refuses_fails cs n vs h.1)) r

pub fails_leaves : {A : Type 0} (made held : A) (cs : List Check) → any_of (fails_of cs) ≡ true → leaves cs made held ≡ held
fails_leaves made held [] e = absurd (false≢true e)
fails_leaves made held (c ∷ cs) e = go c.fails e (fails_leaves made held cs)
  where
    go : (b : Bool) → b || any_of (fails_of cs) ≡ true → (any_of (fails_of cs) ≡ true → leaves cs made held ≡ held)
        → pick b held (leaves cs made held) ≡ held
    go true h rest = refl
    go false h rest = rest h

-- every number of the list is above 0
abbrev pub Numbered : List Check → Type 0
Numbered [] = Unit {0}
Numbered (c ∷ cs) = (0 < c.number) × Numbered cs

pub numbered_then : (cs ds : List Check) → Numbered cs → Numbered ds → Numbered (cs ++ ds)
numbered_then [] ds p q = q
numbered_then (c ∷ cs) ds p q = (p.0, numbered_then cs ds p.1 q)

pub says_passes : (a a' : List ℕ) (cs : List Check) → Numbered cs → first_of cs (0 ∷ a) ≡ 0 ∷ a' → Passes cs
says_passes a a' [] p e = tt
says_passes a a' (c ∷ cs) p e = go c.fails refl e (says_passes a a' cs p.1)
  where
    go : (b : Bool) → c.fails ≡ b → pick b (c.number ∷ c.values) (first_of cs (0 ∷ a)) ≡ 0 ∷ a'
        → (first_of cs (0 ∷ a) ≡ 0 ∷ a' → Passes cs) → Passes (c ∷ cs)
    go true t h rest = let z : c.number ≡ 0 = cc in absurd (omega (arith, p.0))
    go false t h rest = (t, rest h)

-- a refusal is one of the list's
refusal_refuses : (a : List ℕ) (cs : List Check) (r : Refusal) → meaning r ≡ first_of cs (0 ∷ a)
    → (n : ℕ) × (vs : List ℕ) × (meaning r ≡ suc n ∷ vs) × Refuses cs (suc n) vs
refusal_refuses a cs r e =
    let b = said r in
    (b.before, b.values, b.says, says_refuses a cs b.before b.values (sym e ∙ b.says))

pub refusal_fails : (a : List ℕ) (cs : List Check) (r : Refusal) → meaning r ≡ first_of cs (0 ∷ a) → any_of (fails_of cs) ≡ true
refusal_fails a cs r e = let b = refusal_refuses a cs r e in refuses_fails cs (suc b.0) b.1 b.3

-- so it stands whatever the call would have answered, and leaves a lent buffer as it was
pub refusal_stands : (a answer : List ℕ) (cs : List Check) (r : Refusal) → meaning r ≡ first_of cs (0 ∷ a) → meaning r ≡ first_of cs answer
refusal_stands a answer cs r e =
    let b = refusal_refuses a cs r e in
    b.2 ∙ sym (refuses_says answer cs (suc b.0) b.1 b.3)

pub refusal_leaves : {A : Type 0} (made held : A) (a : List ℕ) (cs : List Check) (r : Refusal) → meaning r ≡ first_of cs (0 ∷ a)
    → held ≡ leaves cs made held
refusal_leaves made held a cs r e =
    let b = refusal_refuses a cs r e in
    sym (refuses_leaves made held cs (suc b.0) b.1 b.3)

-- Checks cs, and then checks ds: a refusal of cs stands and leaves a lent buffer as it was, and where cs pass, ds
-- decide.
module _ (cs ds : List Check) where
  pub says_then : (answer : List ℕ) → first_of (cs ++ ds) answer ≡ first_of cs (first_of ds answer)
  says_then answer = go cs
    where
      go : (es : List Check) → first_of (es ++ ds) answer ≡ first_of es (first_of ds answer)
      go [] = refl
      go (c ∷ es) = ap (pick c.fails (c.number ∷ c.values)) (go es)

  leaves_then : {A : Type 0} (made held : A) → leaves (cs ++ ds) made held ≡ leaves cs (leaves ds made held) held
  leaves_then made held = go cs
    where
      go : (es : List Check) → leaves (es ++ ds) made held ≡ leaves es (leaves ds made held) held
      go [] = refl
      go (c ∷ es) = ap (pick c.fails held) (go es)

  pub refused_says : (a answer : List ℕ) (r : Refusal) → meaning r ≡ first_of cs (0 ∷ a) → meaning r ≡ first_of (cs ++ ds) answer
  refused_says a answer r e = refusal_stands a (first_of ds answer) cs r e ∙ sym (says_then answer)

  pub refused_leaves : {A : Type 0} (made held : A) (a : List ℕ) (r : Refusal) → meaning r ≡ first_of cs (0 ∷ a) → held ≡ leaves (cs ++ ds) made held
  refused_leaves made held a r e = refusal_leaves (leaves ds made held) held a cs r e ∙ sym (leaves_then made held)

  pub passed_says : (answer : List ℕ) → Passes cs → first_of ds answer ≡ first_of (cs ++ ds) answer
  passed_says answer p = sym (says_then answer ∙ passes_says (first_of ds answer) cs p)

  pub passed_leaves : {A : Type 0} (made held : A) → Passes cs → leaves ds made held ≡ leaves (cs ++ ds) made held
  passed_leaves made held p = sym (leaves_then made held ∙ passes_leaves (leaves ds made held) held cs p)
