-- The run of a file: how long it is, and each of its coefficients by its four bytes; written one by one; and too long
-- for any page where the file is.
use Prim.Native.Nat.{ℕ, suc, ◌/◌, ◌%◌, ◌≤◌, ◌<◌}
use mathlib.Core.Bool.{true}
use mathlib.Core.List.{List, [], ◌∷◌, map}
use mathlib.Core.Path.{◌≡◌, refl, sym, ap, ◌∙◌}
use native.Mathlib.Decide.{dec_lt}
use native.Mathlib.Omega.{arith}
use borrow.Author.Tests.{eq-eqb, ne_eqb}
use lib.Ieee.{Float}
use lib.ListN.{length, take, drop}
use lib.Seq.{take-append_seam}
use Rattle.std.specs.Simd.{first_chunks}
use Rattle.answers.specs.Checks.{wrong_length}
use Rattle.buffers.proofs.Writing.{begins_with}
use Rattle.buffers.specs.Written.{written}
use Rattle.runs.specs.File.{coefficient_of, each_four, run_of, run_room}

pub four_length : (bytes : List ℕ) → length (each_four bytes) ≡ length bytes / 4
unfolding each_four
four_length [] = refl
four_length (a ∷ []) = refl
four_length (a ∷ b ∷ []) = refl
four_length (a ∷ b ∷ c ∷ []) = refl
four_length (a ∷ b ∷ c ∷ d ∷ bytes) = omega (arith, four_length bytes)

-- by the chunks of four bytes
four_chunks : (bytes : List ℕ) → map coefficient_of (first_chunks 4 (length bytes / 4) bytes) ≡ each_four bytes
unfolding each_four
four_chunks [] = refl
four_chunks (a ∷ []) = refl
four_chunks (a ∷ b ∷ []) = refl
four_chunks (a ∷ b ∷ c ∷ []) = refl
four_chunks (a ∷ b ∷ c ∷ d ∷ bytes) =
    let on : length (a ∷ b ∷ c ∷ d ∷ bytes) / 4 ≡ suc (length bytes / 4) = omega arith in
    rw on (ap (λ (run : List Float). coefficient_of (a ∷ b ∷ c ∷ d ∷ []) ∷ run) (four_chunks bytes))

pub run_whole : (bytes : List ℕ) → length bytes % 4 ≡ 0 → run_of bytes ≡ each_four bytes
run_whole bytes whole = rw (eq-eqb (length bytes % 4) 0 whole) refl

pub run_cut : (bytes : List ℕ) → (length bytes % 4 ≡ 0 → ⊥) → run_of bytes ≡ []
run_cut bytes cut = rw (ne_eqb (length bytes % 4) 0 cut) refl

-- ---- the chunks of four bytes, and their coefficients written one by one into a buffer that held `held`
pub coefficients_all : (held : List Float) (bytes : List ℕ) {fours : List (List ℕ)} {so_far : List Float} (i : ℕ)
    → fours ≡ first_chunks 4 (length bytes / 4) bytes → length fours ≡ length bytes / 4 → so_far ≡ written held 0 (map coefficient_of fours) i
    → i ≡ length fours → length bytes / 4 ≤ length held → length bytes % 4 ≡ 0 → take (length fours) so_far ≡ run_of bytes
coefficients_all held bytes i chunks number filled all room whole =
    let run = each_four bytes in
    let count = four_length bytes in
    let made = filled ∙ ap (λ (l : List (List ℕ)). written held 0 (map coefficient_of l) i) chunks ∙ ap (λ (l : List Float). written held 0 l i) (four_chunks bytes)
    ∙ ap (written held 0 run) (all ∙ number ∙ sym count) ∙ begins_with held run (omega arith) in
    rw (made, number, ← count) (take-append_seam run (drop (length run) held)) ∙ sym (run_whole bytes whole)

-- ---- one byte more than any page has, or more: the run has not the length of a page with n coordinates
pub too_long : (bytes : List ℕ) (n : ℕ) → run_room ≤ length bytes → 0 < n → n ≤ 65536 → wrong_length (length (run_of bytes)) n ≡ true
too_long bytes n long from to = go (dec_lt 0 (length bytes % 4))
  where
    go : Dec (0 < length bytes % 4) → wrong_length (length (run_of bytes)) n ≡ true
    go (yes cut) = rw (run_cut bytes (λ h. omega arith), ne_eqb 0 n (λ h. omega arith)) refl
    go (no whole) =
        rw (run_whole bytes (omega arith), four_length bytes, ne_eqb (length bytes / 4) n (λ h. omega arith)) refl
