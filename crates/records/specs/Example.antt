-- A record in which every byte differs from the others, written and read: another order of the fields, or another
-- size of one, disagrees. proofs/Example.antt computes every line.
use Rattle.std.specs.Prelude.{ℕ, ◌≡◌, List, [], ◌∷◌, ◌++◌, true, false, take, drop}
use Rattle.records.specs.Record.{record_of, field_of, book_in, place_in, row_in, radius_number_in, codeword_in, record_check, same_bytes}

abbrev pub bytes : List ℕ
bytes = 1 ∷ 2 ∷ 3 ∷ 4 ∷ 5 ∷ 6 ∷ 7 ∷ 8 ∷ []

pub record Example : Type 0 where
  -- book 0 and place 1 x 256 + 2, row 3, radius number 4, and the codeword of the bytes 5 to 8
  pub written : record_of 0 258 3 4 84281096 ≡ bytes
  pub book : book_in bytes ≡ 0
  pub place : place_in bytes ≡ 258
  pub row : row_in bytes ≡ 3
  pub number : radius_number_in bytes ≡ 4
  pub codeword : codeword_in bytes ≡ 84281096
  -- the upper four bits of the first byte are the book: 93 02 is book 9, place 3 x 256 + 2; 10 00 is place 0 of book 1,
  -- and 0f ff place 4,095 of book 0
  pub book_9 : record_of 9 770 3 4 84281096 ≡ 0x93 ∷ drop 1 bytes
  pub book_of_9 : book_in (0x93 ∷ drop 1 bytes) ≡ 9
  pub place_of_9 : place_in (0x93 ∷ drop 1 bytes) ≡ 770
  pub next_book : field_of 1 0 ≡ 4096
  pub book_of_next : book_in (0x10 ∷ 0 ∷ []) ≡ 1
  pub place_of_next : place_in (0x10 ∷ 0 ∷ []) ≡ 0
  pub book_of_last : book_in (0x0f ∷ 0xff ∷ []) ≡ 0
  pub place_of_last : place_in (0x0f ∷ 0xff ∷ []) ≡ 4095
  -- 7 and 9 bytes are no record
  pub short : (record_check 7).fails ≡ true
  pub right : (record_check 8).fails ≡ false
  pub long : (record_check 9).fails ≡ true
  -- all bytes are compared, the first and the last among them
  pub same : same_bytes bytes bytes ≡ true
  pub first_differs : same_bytes bytes (0 ∷ drop 1 bytes) ≡ false
  pub last_differs : same_bytes bytes (take 7 bytes ++ 0 ∷ []) ≡ false
  pub cut : same_bytes bytes (take 7 bytes) ≡ false
