-- The whole case as text (docs/RULES.md, "Worked cases"), and the numbers at the ends. proofs/Example.antt computes
-- every line.
use Rattle.std.specs.Prelude.{◌≡◌, [], ◌∷◌, pos, negsuc}
use Rattle.wording.specs.Text.{ascii, decimal, integer, place_text, last_text, refused_text}

pub record Example : Type 0 where
  pub decimal_0 : decimal 0 ≡ ascii "0"
  pub decimal_9 : decimal 9 ≡ ascii "9"
  pub decimal_10 : decimal 10 ≡ ascii "10"
  pub decimal_4095 : decimal 4095 ≡ ascii "4095"
  pub decimal_largest : decimal 18446744073709551615 ≡ ascii "18446744073709551615"
  pub integer_32 : integer (negsuc 31) ≡ ascii "-32"
  pub integer_lowest : integer (negsuc 2147483647) ≡ ascii "-2147483648"
  pub place_0 : place_text 0 0 0 (pos 1 ∷ pos 0 ∷ negsuc 0 ∷ []) ≡ ascii "0 sound 0 1 0 -1\n"
  pub place_1 : place_text 1 1 0 (pos 0 ∷ negsuc 0 ∷ pos 1 ∷ []) ≡ ascii "1 mended 0 0 -1 1\n"
  pub past : place_text 1 1 2 (pos 1 ∷ pos 0 ∷ pos 1 ∷ []) ≡ ascii "1 mended 2 1 0 1\n"
  pub missing : place_text 2 2 0 (pos 0 ∷ []) ≡ ascii "2 missing 0 0\n"
  pub contested : place_text 3 3 0 (pos 0 ∷ []) ≡ ascii "3 contested 0 0\n"
  pub unreadable : place_text 10 4 14 (pos 0 ∷ []) ≡ ascii "10 unreadable 14 0\n"
  pub last : last_text (1 ∷ 1 ∷ 0 ∷ 0 ∷ 0 ∷ 0 ∷ []) ≡ ascii "tally 1 1 0 0 0 0\n"
  pub refused : refused_text (7 ∷ []) ≡ ascii "refused 7\n"
  pub refused_at : refused_text (11 ∷ 4095 ∷ 15 ∷ []) ≡ ascii "refused 11 4095 15\n"
