-- Checks in turn, written out: the first that fails is told, with what it names, and a buffer is then left as it
-- was; and each refusal by its number and what it names. proofs/Example.antt computes every line.
use Rattle.std.specs.Prelude.{ℕ, ◌≡◌, [], ◌∷◌, Bool, true, false, ltb}
use Rattle.answers.specs.Checks.{Check, any_of, first_of, leaves, number_said, wrong_length, length_check, each_from}
use Rattle.answers.specs.Refusals.{meaning, number_of, first_named, second_named, named_by, printed}
use Rattle.answers.specs.declared.Refusal.TheVariants as refusal

-- a check of number 4, and one of number 11 that names i, from 5 on failing
abbrev pub four : Bool → Check
four fails = record { number = 4; values = []; fails = fails }

abbrev pub eleven : ℕ → Check
eleven i = record { number = 11; values = i ∷ []; fails = ltb 4 i }

pub record Example : Type 0 where
  pub first_told : first_of (four true ∷ eleven 7 ∷ []) (0 ∷ 3 ∷ []) ≡ 4 ∷ []
  pub second_told : first_of (four false ∷ eleven 7 ∷ []) (0 ∷ 3 ∷ []) ≡ 11 ∷ 7 ∷ []
  pub answered : first_of (four false ∷ eleven 2 ∷ []) (0 ∷ 3 ∷ []) ≡ 0 ∷ 3 ∷ []
  pub refused_leaves : leaves {A = ℕ} (four false ∷ eleven 7 ∷ []) 5 9 ≡ 9
  pub answered_leaves : leaves {A = ℕ} (four false ∷ eleven 2 ∷ []) 5 9 ≡ 5
  pub number_told : number_said (11 ∷ 7 ∷ []) ≡ 11
  -- one for each number: the lowest at fault is named
  pub lowest_named : first_of (each_from eleven 2 6) (0 ∷ []) ≡ 11 ∷ 5 ∷ []
  pub none_named : first_of (each_from eleven 2 3) (0 ∷ []) ≡ 0 ∷ []
  -- shorter and longer are both wrong
  pub shorter : wrong_length 2 3 ≡ true
  pub right : wrong_length 3 3 ≡ false
  pub longer : wrong_length 4 3 ≡ true
  pub refused_4 : first_of (length_check 2 3 ∷ []) (0 ∷ []) ≡ 4 ∷ []
  -- a check of several faults fails at any of them
  pub no_fault : any_of [] ≡ false
  pub a_fault : any_of (false ∷ true ∷ false ∷ []) ≡ true
  pub none_of_two : any_of (false ∷ false ∷ []) ≡ false
  -- the refusals
  pub refusal_1 : number_of refusal.LengthOutside ≡ 1
  pub refusal_2 : number_of refusal.RadiusAbove ≡ 2
  pub refusal_3 : number_of refusal.ShellTooLarge ≡ 3
  pub refusal_4 : number_of refusal.BufferLength ≡ 4
  pub refusal_5 : number_of refusal.MagnitudeSum ≡ 5
  pub refusal_6 : meaning (refusal.IndexPastEnd 2) ≡ 6 ∷ 2 ∷ []
  pub refusal_7 : meaning (refusal.BadTable 30) ≡ 7 ∷ 30 ∷ []
  pub refusal_8 : number_of refusal.NoSuchPlace ≡ 8
  pub refusal_9 : number_of refusal.ForeignRow ≡ 9
  pub refusal_11 : meaning (refusal.UnusableCoefficient 15) ≡ 11 ∷ 15 ∷ []
  pub refusal_11_at : meaning (refusal.UnusableCoefficientAt 4095 15) ≡ 11 ∷ 4095 ∷ 15 ∷ []
  pub refusal_12 : meaning refusal.BadCell ≡ 12 ∷ []
  pub refusal_12_at : meaning (refusal.BadCellAt 4095) ≡ 12 ∷ 4095 ∷ []
  pub refusal_13 : number_of refusal.NoSuchCoordinate ≡ 13
  pub refusal_15 : meaning refusal.EmptyShape ≡ 15 ∷ []
  pub refusal_16 : meaning refusal.NoSuchMode ≡ 16 ∷ []
  pub refusal_17 : meaning refusal.BooksOutside ≡ 17 ∷ []
  pub refusal_20 : meaning refusal.NoSuchEnumeration ≡ 20 ∷ []
  pub distance_named : first_named (refusal.IndexPastEnd 18446744073709551597) ≡ 18446744073709551597
  pub row_named : first_named (refusal.BadTable 30) ≡ 30
  pub coordinate_named : first_named (refusal.UnusableCoefficient 15) ≡ 15
  pub place_named_lem : first_named (refusal.BadCellAt 4095) ≡ 4095
  pub nothing_named : first_named refusal.BufferLength ≡ 0
  pub one_named : second_named (refusal.BadTable 30) ≡ 0
  pub two_named : second_named (refusal.UnusableCoefficientAt 4095 15) ≡ 15
  pub names_none : named_by refusal.BufferLength ≡ 0
  pub names_one : named_by (refusal.BadTable 30) ≡ 1
  pub names_two : named_by (refusal.UnusableCoefficientAt 4095 15) ≡ 2
  -- what is printed of them
  pub number_printed : printed (meaning refusal.BufferLength) ≡ 4 ∷ []
  pub row_not_printed : printed (meaning (refusal.BadTable 30)) ≡ 7 ∷ []
  pub two_printed : printed (meaning (refusal.UnusableCoefficientAt 4095 15)) ≡ 11 ∷ 4095 ∷ 15 ∷ []
