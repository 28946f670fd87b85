-- What a place shows: its index, mended or not, names a point of a usable shell of the row, for any lawful enumeration;
-- and a mended place, or an unreadable one of reason 6, tells the codeword that was received.
use Prim.Native.Nat.{ℕ, zero, suc, ◌≤◌, ◌<◌}
use mathlib.Core.Path.{◌≡◌, refl, ap}
use mathlib.Core.Bool.{true}
use mathlib.Core.List.{List, ◌∷◌}
use native.Mathlib.Omega.{arith}
use lib.IntN.{pos}
use lib.ListN.{replicate, length-replicate}
use Rattle.enumeration.specs.Enumeration.{Enumeration, Lawful}
use Rattle.enumeration.specs.Point.{OnShell, radius_of}
use Rattle.tables.specs.Row.{length_of, radii_of, enumeration_of, GoodRow}
use Rattle.layout.specs.Layout.{Cell}
use Rattle.rules.specs.Judging.{mended_index, index_names, judge, NamesPoint, Shows, TellsCodeword}
use Rattle.laws.proofs.InEachCase.{radius_number, radius, total, codeword, in_each}
use Rattle.laws.proofs.Mending.{past_by, mended_below, mends}

-- some point is on every shell of length 1 or more, so its total is not 0
zeros_sum : (n : ℕ) → radius_of (replicate n (pos 0)) ≡ 0
zeros_sum zero = refl
zeros_sum (suc n) = omega (arith, zeros_sum n)

some_point : (l k : ℕ) → OnShell (suc l) k (pos k ∷ replicate l (pos 0))
some_point l k = record { of_length = ap suc (length-replicate l (pos 0)); of_radius = omega (arith, zeros_sum l) }

pub total_positive : {e : Enumeration} → Lawful e → (l k : ℕ) → 1 ≤ l → 0 < e.total l k
total_positive lawful zero k h = absurd (omega arith)
total_positive lawful (suc l) k h = omega (arith, lawful.index_below (suc l) k (pos k ∷ replicate l (pos 0)) (some_point l k))

-- in a good row whose enumeration is lawful, in any mode
module _ (mode : ℕ) (row : List ℕ) (lawful : Lawful (enumeration_of row)) (good : GoodRow row) (c : Cell) where
  some : 0 < total row c
  some = total_positive lawful (length_of row) (radius row c) good.length_from

  pub judge_tells : TellsCodeword row c.bytes (judge mode row c)
  judge_tells =
      in_each row c mode (TellsCodeword row c.bytes)
      (record {
        missing = tt;
        contested = tt;
        no_radius_lem = tt;
        too_wide_lem = tt;
        past_end_lem = λ is inside above. past_by (total row c) (codeword row c) inside above;
        empty_shape = tt;
        sound = λ h below named. tt;
        mended = λ is h inside above named. mends (total row c) (codeword row c) some inside above;
      })

  shows_named : (m : ℕ) → radius_number row c < radii_of row → m < total row c → index_names row (radius row c) m ≡ true → NamesPoint row (radius row c) m
  shows_named m h below named = record { usable = good.radius_usable (radius_number row c) h; below = below; named = named }

  pub judge_shows : Shows row (judge mode row c)
  judge_shows =
      in_each row c mode (Shows row)
      (record {
        missing = tt;
        contested = tt;
        no_radius_lem = tt;
        too_wide_lem = tt;
        past_end_lem = λ is inside above. tt;
        empty_shape = tt;
        sound = shows_named (codeword row c);
        mended = λ is h inside above.
            shows_named (mended_index (total row c) (codeword row c)) h (mended_below (total row c) (codeword row c) some inside above);
      })
