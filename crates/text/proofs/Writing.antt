-- What the methods that write a line put together: a number by its digits, an integer behind a space, fields one
-- by one, and a line from its first field to its newline.
use Prim.Native.Nat.{ℕ, suc, ◌+◌, ◌*◌, ◌/◌, ◌%◌, ◌^◌, ◌≤◌, ◌<◌}
use mathlib.Core.Bool.{true, false, false≢true}
use mathlib.Core.List.{List, [], ◌∷◌, ◌++◌, map, append-nil, append_assoc, map-append}
use mathlib.Core.Path.{◌≡◌, refl, sym, ap, ◌∙◌}
use native.Mathlib.Nat.{mul-suc, lt_trans, lt_of_le_of_lt, div-lt_iff_lt-mul}
use native.Mathlib.Numerals.{add-one}
use native.Mathlib.Omega.{arith}
use borrow.Author.Tests.{ltb-true}
use lib.Dec.{lit<}
use lib.IntN.{ℤ, pos, negsuc, nat_abs}
use lib.ListN.{length, get_or, take}
use lib.Seq.{take-suc}
use lib.Signed.{lt_z}
use Rattle.buffers.specs.Written.{Wrote}
use Rattle.buffers.proofs.Writing.{wrote_then, wrote_to}
use Rattle.text.specs.Line.{Writes}
use Rattle.text.specs.declared.inner.fields.Line.{Line}
use Rattle.wording.specs.Text.{ascii, digit, decimal, integer, spaced, line}
use Rattle.wording.proofs.Decimal.{decimal_one, decimal_more, decimal_size}

-- ---- one text behind another; another bound
pub writes_then : {a b c : Line} {s t : List ℕ} {m m' : ℕ} → Writes a b s m → Writes b c t m' → Writes a c (s ++ t) (m + m')
writes_then one two = record {
  wrote = wrote_then one.wrote two.wrote;
  same_length = two.same_length ∙ one.same_length;
  same_buffer = two.same_buffer ∙ one.same_buffer;
}

pub writes_to : {a b : Line} {s : List ℕ} {m : ℕ} (most : ℕ) → length s ≤ most → Writes a b s m → Writes a b s most
writes_to most h w = record { wrote = wrote_to most h w.wrote; same_length = w.same_length; same_buffer = w.same_buffer }

-- ---- decimal numbers of 64 bits: one digit, or those of the tenth and one more
pub digit_written : {held x : List ℕ} {at r : ℕ} (n : ℕ) → n < 10 → Wrote held at (digit n ∷ []) 1 r x → Wrote held at (decimal n) 20 r x
digit_written n h w = rw (decimal_one n h) (wrote_to 20 (omega arith) w)

pub tenth_room : {held x : List ℕ} {at r m : ℕ} (n : ℕ) → n < 2 ^ 64 → Wrote held at (decimal (n / 10)) m r x → r + 1 ≤ at + 20
tenth_room n h w =
    let below : n / 10 < 10 ^ 19 = (div-lt_iff_lt-mul (lit< tt)).1 (lt_trans h (lit< tt)) in
    omega (arith, w.ends, decimal_size 18 (n / 10) below)

pub digits_written : {held x y : List ℕ} {at r r' m : ℕ} (n : ℕ) → 10 ≤ n → n < 2 ^ 64
    → Wrote held at (decimal (n / 10)) m r x → Wrote x r (digit (n % 10) ∷ []) 1 r' y → Wrote held at (decimal n) 20 r' y
digits_written {m = m} n from to tenth last =
    wrote_to {m = m + 1} 20 (decimal_size 19 n (lt_trans to (lit< tt))) (rw (decimal_more n from) (wrote_then tenth last))

-- ---- integers of 32 bits behind a space
module _ {a b : Line} (space : Writes a b (ascii " ") 1) where
  pub plain_written : {c : Line} {m : ℕ} (z : ℤ) → lt_z z (pos 0) ≡ false → nat_abs z ≤ 2 ^ 31
      → Writes b c (decimal (nat_abs z)) m → Writes a c (ascii " " ++ integer z) 12
  plain_written {m = m} (pos n) sign h w =
      let size = decimal_size 9 n (lt_of_le_of_lt h (lit< tt)) in
      writes_to {m = 1 + m} 12 (omega arith) (writes_then space w)
  plain_written (negsuc n) sign h w = absurd (false≢true (sym sign))

  pub minus_written : {c d : Line} {m : ℕ} (z : ℤ) → lt_z z (pos 0) ≡ true → nat_abs z ≤ 2 ^ 31
      → Writes b c (ascii "-") 1 → Writes c d (decimal (nat_abs z)) m → Writes a d (ascii " " ++ integer z) 12
  minus_written (pos n) sign h minus w = absurd (omega (arith, ltb-true n 0 sign))
  minus_written {m = m} (negsuc n) sign h minus w =
      let size = decimal_size 9 (suc n) (lt_of_le_of_lt h (lit< tt)) in
      writes_to {m = 1 + (1 + m)} 12 (omega arith) (writes_then space (writes_then minus w))

-- ---- fields, one after the other, each written by `f`
spaced_one : (field : List ℕ) → spaced (field ∷ []) ≡ ascii " " ++ field
spaced_one field = rw (append-nil field) refl

spaced_append : (fields more : List (List ℕ)) → spaced (fields ++ more) ≡ spaced fields ++ spaced more
spaced_append [] more = refl
spaced_append (first ∷ fields) more =
    ap (λ (rest : List ℕ). ascii " " ++ rest)
    (ap (λ (rest : List ℕ). first ++ rest) (spaced_append fields more) ∙ sym (append_assoc first (spaced fields) (spaced more)))

module _ {A : Type 0} (f : A → List ℕ) where
  pub fields_next : {a b c : Line} {m : ℕ} (xs : List A) (i : ℕ) (d : A) → i < length xs
      → Writes a b (spaced (map f (take i xs))) (m * i) → Writes b c (ascii " " ++ f (get_or xs i d)) m
      → Writes a c (spaced (map f (take (i + 1) xs))) (m * (i + 1))
  fields_next {m = m} xs i d h w one =
      rw (
        add-one i,
        take-suc xs i d h,
        map-append f (take i xs) (get_or xs i d ∷ []),
        spaced_append (map f (take i xs)) (f (get_or xs i d) ∷ []),
        spaced_one (f (get_or xs i d)),
        mul-suc m i,
      )
      (writes_then w one)

-- ---- a line: a field, more of them, and the newline
pub begun : {a b : Line} {first : List ℕ} {m : ℕ} → Writes a b first m → Writes a b (first ++ spaced []) m
begun {first = first} w = rw (append-nil first) w

module _ {a b : Line} {m : ℕ} (first : List ℕ) (fields : List (List ℕ)) (so_far : Writes a b (first ++ spaced fields) m) where
  pub more : {c : Line} {m' : ℕ} (others : List (List ℕ)) → Writes b c (spaced others) m' → Writes a c (first ++ spaced (fields ++ others)) (m + m')
  more others w =
      rw (spaced_append fields others, ← append_assoc first (spaced fields) (spaced others)) (writes_then so_far w)

  pub one_more_lem : {c : Line} {m' : ℕ} (field : List ℕ) → Writes b c (ascii " " ++ field) m'
      → Writes a c (first ++ spaced (fields ++ (field ∷ []))) (m + m')
  one_more_lem field w = more (field ∷ []) (rw (spaced_one field) w)

  pub ended : {c : Line} → m + 1 ≤ 256 → Writes b c (ascii "\n") 1 → Writes a c (line first fields) 256
  ended h w =
      let all = writes_then so_far w in
      rw (← append_assoc first (spaced fields) (ascii "\n")) (writes_to 256 (omega (arith, all.wrote.ends, all.wrote.to)) all)
