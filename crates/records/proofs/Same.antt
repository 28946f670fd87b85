-- The test whether bytes are the same tells whether the lists are equal.
use Prim.Native.Nat.{ℕ}
use mathlib.Core.Bool.{true, false}
use mathlib.Core.List.{List}
use mathlib.Core.Path.{◌≡◌, refl}
use Rattle.std.proofs.lemmas.Bool.{false_from_ne_true}
use Rattle.std.proofs.lemmas.Bool.Decides.{not_from_Decides}
use Rattle.std.proofs.lemmas.Slice.Eq.{bytes_eq-Decides}
use Rattle.records.specs.Record.{same_bytes}

pub same_bytes_lem : (xs : List ℕ) → same_bytes xs xs ≡ true
same_bytes_lem xs = (bytes_eq-Decides xs xs).1 refl

pub bytes_same : (xs ys : List ℕ) → same_bytes xs ys ≡ true → xs ≡ ys
bytes_same xs ys = (bytes_eq-Decides xs ys).0

pub differ_bytes : (xs ys : List ℕ) → same_bytes xs ys ≡ false → xs ≡ ys → ⊥
differ_bytes xs ys = not_from_Decides (same_bytes xs ys) (bytes_eq-Decides xs ys)

pub bytes_differ : (xs ys : List ℕ) → (xs ≡ ys → ⊥) → same_bytes xs ys ≡ false
bytes_differ xs ys apart = false_from_ne_true (same_bytes xs ys) (λ e. apart (bytes_same xs ys e))
