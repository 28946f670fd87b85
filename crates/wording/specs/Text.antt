-- The text of the listing, as bytes (docs/RULES.md, "Listing program": "Numbers are decimal, with a minus sign
-- where negative", "One space stands between two fields", and each line "ends in a newline character").
use Prim.Native.Char.{code}
use Rattle.std.specs.Prelude.{ℕ, zero, suc, ◌+◌, ◌-◌, ◌*◌, ◌/◌, ◌%◌, Bool, true, false, List, [], ◌∷◌, ◌++◌, map, ltb, ℤ, pos, negsuc}
use Prim.Native.String.{String, [] as end_of, ◌∷◌ as ◌then◌}

-- the bytes of a text: the code of each character
abbrev pub ascii : String → List ℕ
ascii end_of = []
ascii (c then s) = code c ∷ ascii s

-- the digit of a number below 10: `0` is 48
abbrev pub digit : ℕ → ℕ
digit d = 48 + d

-- the digits of n, the most significant first: one if n is below 10, and else those of n / 10 and that of n % 10; f
-- is as large as n at the least
unfoldable pub digits_of : ℕ → Bool → ℕ → List ℕ
digits_of zero below n = digit n ∷ []
digits_of (suc f) true n = digit n ∷ []
digits_of (suc f) false n = digits_of f (ltb (n / 10) 10) (n / 10) ++ (digit (n % 10) ∷ [])

unfoldable pub decimal : ℕ → List ℕ
decimal n = digits_of n (ltb n 10) n

-- the number that digits say, behind v; proofs/Decimal.antt has it that those of n say n
abbrev pub said_by : ℕ → List ℕ → ℕ
said_by v [] = v
said_by v (d ∷ ds) = said_by (10 * v + (d - 48)) ds

-- with a minus sign where negative
abbrev pub integer : ℤ → List ℕ
integer (pos n) = decimal n
integer (negsuc n) = ascii "-" ++ decimal (suc n)

-- fields, each with one space before it
abbrev pub spaced : List (List ℕ) → List ℕ
spaced [] = []
spaced (field ∷ fields) = ascii " " ++ (field ++ spaced fields)

-- a line: a field, more of them, one space between each two, and a newline
abbrev pub line : List ℕ → List (List ℕ) → List ℕ
line field fields = field ++ (spaced fields ++ ascii "\n")

-- the words of the five answers, in the order in which the tally counts them
abbrev pub word : ℕ → List ℕ
word zero = ascii "sound"
word (suc zero) = ascii "mended"
word (suc (suc zero)) = ascii "missing"
word (suc (suc (suc zero))) = ascii "contested"
word (suc (suc (suc (suc n)))) = ascii "unreadable"

-- "place, answer, reason or distance (0 where there is neither), then the l coordinates"; the answer by its number, and
-- the reason or the distance as the third number
abbrev pub place_text : ℕ → ℕ → ℕ → List ℤ → List ℕ
place_text place answer third coordinates = line (decimal place) (word answer ∷ decimal third ∷ map integer coordinates)

-- the last line, "`tally`, the five counts of the tally, the number of refused takes": the six numbers
abbrev pub last_text : List ℕ → List ℕ
last_text numbers = line (ascii "tally") (map decimal numbers)

-- "With a bad table the program prints the line `refused 7` and nothing else"; the numbers of a refusal, of which the
-- first is its own
abbrev pub refused_text : List ℕ → List ℕ
refused_text numbers = line (ascii "refused") (map decimal numbers)
