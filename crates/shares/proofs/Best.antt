-- The first best of some numbers is unbeaten, and better than all before it; only one number is so. Both for the
-- smaller and for the larger being better.
use Prim.Native.Nat.{ℕ, zero, suc, ◌+◌, ◌-◌, ◌≤◌, ◌<◌}
use mathlib.Core.Path.{◌≡◌, refl, sym, ap, ◌∙◌}
use mathlib.Core.Bool.{Bool, true, false, cond, false≢true}
use native.Mathlib.Omega.{arith}
use native.Mathlib.Decide.{dec_lt}
use borrow.Author.Tests.{lt-ltb, le-ltb, ltb-true, ltb-false}
use Rattle.shares.specs.Best.{first_best, smaller, larger, IsFirstBest}

-- what being better must be: never both ways, and what beats one beats all that do not beat that one
pub record Order (beats : ℕ → ℕ → Bool) : Type 0 where
  pub one_way : (x y : ℕ) → beats x y ≡ true → beats y x ≡ false
  pub onward : (x y z : ℕ) → beats x y ≡ true → beats z y ≡ false → beats x z ≡ true

pub smaller_order : Order smaller
smaller_order = record {
  one_way = λ x y h. le-ltb y x (omega (arith, ltb-true x y h));
  onward = λ x y z h g. lt-ltb x z (omega (arith, ltb-true x y h, ltb-false z y g));
}

pub larger_order : Order larger
larger_order = record {
  one_way = λ x y h. le-ltb x y (omega (arith, ltb-true y x h));
  onward = λ x y z h g. lt-ltb z x (omega (arith, ltb-true y x h, ltb-false y z g));
}

module _ (beats : ℕ → ℕ → Bool) (order : Order beats) (f : ℕ → ℕ) where
  -- nothing beats itself
  even_with : (x : ℕ) (t : Bool) → beats x x ≡ t → beats x x ≡ false
  even_with x true h = order.one_way x x h
  even_with x false h = h

  -- one number more, which is better than the best before it, or not
  taken : (n b : ℕ) → IsFirstBest beats f n b → beats (f (suc n)) (f b) ≡ true → IsFirstBest beats f (suc n) (suc n)
  taken n b best h = record {
    among = omega arith;
    unbeaten = λ i to. go i to (dec_lt n i);
    first = λ i to. order.onward (f (suc n)) (f b) (f i) h (best.unbeaten i (omega arith));
  }
    where
      go : (i : ℕ) → i ≤ suc n → Dec (n < i) → beats (f i) (f (suc n)) ≡ false
      go i to (yes last) = let same : i ≡ suc n = omega arith in rw same (even_with (f (suc n)) (beats (f (suc n)) (f (suc n))) refl)
      go i to (no earlier) = order.one_way (f (suc n)) (f i) (order.onward (f (suc n)) (f b) (f i) h (best.unbeaten i (omega arith)))

  passed : (n b : ℕ) → IsFirstBest beats f n b → beats (f (suc n)) (f b) ≡ false → IsFirstBest beats f (suc n) b
  passed n b best h = record { among = omega (arith, best.among); unbeaten = λ i to. go i to (dec_lt n i); first = best.first }
    where
      go : (i : ℕ) → i ≤ suc n → Dec (n < i) → beats (f i) (f b) ≡ false
      go i to (yes last) = let same : i ≡ suc n = omega arith in rw same h
      go i to (no earlier) = best.unbeaten i (omega arith)

  pub first_best_lem : (n : ℕ) → IsFirstBest beats f n (first_best beats f n)
  unfolding first_best
  first_best_lem zero = record { among = omega arith; unbeaten = λ i to. let same : i ≡ 0 = omega arith in rw same (even_with (f 0) (beats (f 0) (f 0)) refl); first = λ i to. absurd (omega arith) }
  first_best_lem (suc n) = go (beats (f (suc n)) (f (first_best beats f n))) refl (first_best_lem n)
    where
      go : (t : Bool) → beats (f (suc n)) (f (first_best beats f n)) ≡ t → IsFirstBest beats f n (first_best beats f n)
          → IsFirstBest beats f (suc n) (cond t (suc n) (first_best beats f n))
      go true h best = taken n (first_best beats f n) best h
      go false h best = passed n (first_best beats f n) best h

  -- of two, one would come before the other and be beaten by it
  pub best_unique : (n b c : ℕ) → IsFirstBest beats f n b → IsFirstBest beats f n c → b ≡ c
  best_unique n b c p q = go (dec_lt b c) (dec_lt c b)
    where
      go : Dec (b < c) → Dec (c < b) → b ≡ c
      go (yes h) g = absurd (false≢true (sym (p.unbeaten c q.among) ∙ q.first b h))
      go (no h) (yes g) = absurd (false≢true (sym (q.unbeaten b p.among) ∙ p.first c g))
      go (no h) (no g) = omega arith

-- a loop that goes through the numbers has at n the first best of those before n, and its value; at 0 it has 0
pub record Scan (beats : ℕ → ℕ → Bool) (f : ℕ → ℕ) (n b v : ℕ) : Type 0 where
  pub reached : b ≤ n - 1
  pub best : b ≡ first_best beats f (n - 1)
  pub value : v ≡ f b

module _ (beats : ℕ → ℕ → Bool) (f : ℕ → ℕ) where
  pub scan_begins : (n v : ℕ) → n ≤ 1 → v ≡ f 0 → Scan beats f n 0 v
  unfolding first_best
  scan_begins n v h same = let none : n - 1 ≡ 0 = omega arith in record { reached = omega arith; best = rw none refl; value = same }

  tested : {n b v w : ℕ} (t : Bool) → Scan beats f (suc n) b v → w ≡ f (suc n) → beats w v ≡ t → beats (f (suc n)) (f (first_best beats f n)) ≡ t
  tested {n} {b} {v} {w} t scan same h =
      let back : suc n - 1 ≡ n = omega arith in
      ap (λ (x : ℕ). beats x (f (first_best beats f n))) (sym same)
      ∙ ap (λ (y : ℕ). beats w y) (ap f (sym (rw back at scan.best)) ∙ sym scan.value)
      ∙ h

  pub scan_takes : (n : ℕ) {b v w : ℕ} → Scan beats f n b v → w ≡ f n → beats w v ≡ true → Scan beats f (n + 1) n w
  unfolding first_best
  scan_takes zero scan same h = scan_begins 1 _ (omega arith) same
  scan_takes (suc n) scan same h =
      let back : suc n + 1 - 1 ≡ suc n = omega arith in
      record { reached = omega arith; best = rw (back, tested true scan same h) refl; value = same }

  pub scan_passes : (n : ℕ) {b v w : ℕ} → Scan beats f n b v → w ≡ f n → beats w v ≡ false → Scan beats f (n + 1) b v
  unfolding first_best
  scan_passes zero scan same h = record { reached = omega (arith, scan.reached); best = scan.best; value = scan.value }
  scan_passes (suc n) scan same h =
      let back : suc n + 1 - 1 ≡ suc n = omega arith in
      let before : suc n - 1 ≡ n = omega arith in
      record { reached = omega (arith, scan.reached); best = rw (back, tested false scan same h) (rw before at scan.best); value = scan.value }
