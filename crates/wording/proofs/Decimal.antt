-- The decimal digits of a number: one below ten, and one more than its tenth has.
--     decimal_one, decimal_more       the two steps
--     decimal_size                    a number below 10^(k+1) has at most k+1 digits
--     decimal_back, decimal_only      the digits read as the number again, so no other number has them
use Prim.Native.Nat.{ℕ, zero, suc, ◌+◌, ◌-◌, ◌*◌, ◌/◌, ◌%◌, ◌^◌, ◌≤◌, ◌<◌}
use mathlib.Core.List.{List, [], ◌∷◌, ◌++◌}
use mathlib.Core.Path.{◌≡◌, refl, sym, ap, ◌∙◌}
use native.Mathlib.Decide.{dec_lt}
use native.Mathlib.Nat.{pow-succ', le_refl, div-lt_iff_lt-mul, mul_comm}
use native.Mathlib.Omega.{arith}
use borrow.Author.Tests.{lt-ltb, le-ltb}
use lib.Dec.{ltb, lit<}
use lib.ListN.{length, length-append}
use Rattle.wording.specs.Text.{digit, digits_of, decimal, said_by}

-- the digits do not depend on f as long as it is no less than n
enough : (f g n : ℕ) → n ≤ f → n ≤ g → digits_of f (ltb n 10) n ≡ digits_of g (ltb n 10) n
unfolding digits_of
enough zero zero n hf hg = refl
enough zero (suc g) n hf hg = rw (lt-ltb n 10 (omega arith)) refl
enough (suc f) zero n hf hg = rw (lt-ltb n 10 (omega arith)) refl
enough (suc f) (suc g) n hf hg = go (dec_lt n 10) (λ h. enough f g (n / 10) (omega arith) (omega arith))
  where
    go : Dec (n < 10) → (10 ≤ n → digits_of f (ltb (n / 10) 10) (n / 10) ≡ digits_of g (ltb (n / 10) 10) (n / 10))
        → digits_of (suc f) (ltb n 10) n ≡ digits_of (suc g) (ltb n 10) n
    go (yes h) rest = rw (lt-ltb n 10 h) refl
    go (no h) rest = rw (le-ltb n 10 (omega arith)) (ap (λ (ds : List ℕ). ds ++ (digit (n % 10) ∷ [])) (rest (omega arith)))

pub decimal_one : (n : ℕ) → n < 10 → decimal n ≡ digit n ∷ []
unfolding decimal digits_of
decimal_one zero h = refl
decimal_one (suc n) h = rw (lt-ltb (suc n) 10 h) refl

pub decimal_more : (n : ℕ) → 10 ≤ n → decimal n ≡ decimal (n / 10) ++ (digit (n % 10) ∷ [])
unfolding decimal digits_of
decimal_more zero h = absurd (omega arith)
decimal_more (suc n) h =
    rw (le-ltb (suc n) 10 h)
    (ap (λ (ds : List ℕ). ds ++ (digit (suc n % 10) ∷ [])) (enough n (suc n / 10) (suc n / 10) (omega arith) (omega arith)))

pub decimal_size : (k n : ℕ) → n < 10 ^ suc k → length (decimal n) ≤ suc k
decimal_size zero n h = rw (decimal_one n h) (omega arith)
decimal_size (suc k) n h = go (dec_lt n 10) (decimal_size k (n / 10) ((div-lt_iff_lt-mul (lit< tt)).1 (rw (pow-succ' 10 (suc k), mul_comm 10 (10 ^ suc k)) at h)))
  where
    go : Dec (n < 10) → length (decimal (n / 10)) ≤ suc k → length (decimal n) ≤ suc (suc k)
    go (yes below) rest = rw (decimal_one n below) (omega arith)
    go (no from) rest = rw (decimal_more n (omega arith), length-append (decimal (n / 10)) (digit (n % 10) ∷ [])) (omega (arith, rest))

-- ---- read again
pub said_then : (v : ℕ) (ds es : List ℕ) → said_by v (ds ++ es) ≡ said_by (said_by v ds) es
said_then v [] es = refl
said_then v (d ∷ ds) es = said_then (10 * v + (d - 48)) ds es

back : (f n : ℕ) → n ≤ f → said_by 0 (decimal n) ≡ n
back zero n h = rw (decimal_one n (omega arith)) (omega arith)
back (suc f) n h = go (dec_lt n 10) (λ from. back f (n / 10) (omega arith))
  where
    go : Dec (n < 10) → (10 ≤ n → said_by 0 (decimal (n / 10)) ≡ n / 10) → said_by 0 (decimal n) ≡ n
    go (yes below) rest = rw (decimal_one n below) (omega arith)
    go (no from) rest =
        rw (decimal_more n (omega arith), said_then 0 (decimal (n / 10)) (digit (n % 10) ∷ []), rest (omega arith)) (omega arith)

pub decimal_back : (n : ℕ) → said_by 0 (decimal n) ≡ n
decimal_back n = back n n (le_refl n)

pub decimal_only : (m n : ℕ) → decimal m ≡ decimal n → m ≡ n
decimal_only m n same = sym (decimal_back m) ∙ ap (said_by 0) same ∙ decimal_back n
