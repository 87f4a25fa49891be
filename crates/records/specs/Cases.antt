-- Records worked by hand from the exam frames, to be met by the definitions (request E11). Assumes nothing.
use Rattle.std.specs.Prelude.{ℕ, List, [], ◌∷◌, ◌++◌, take, replicate}

-- kind 3, grade 1, 00 08: under number 1 a 4 and seven zeros; under 4,294,967,294 (FE FF FF FF) a −4 (FC FF FF FF) and seven zeros
abbrev pub plus_four : List ℕ
plus_four = 76 ∷ 70 ∷ 3 ∷ 1 ∷ 1 ∷ 0 ∷ 0 ∷ 0 ∷ 4 ∷ 0 ∷ 0 ∷ 0 ∷ replicate 28 0

abbrev pub minus_four : List ℕ
minus_four = 76 ∷ 70 ∷ 3 ∷ 1 ∷ 254 ∷ 255 ∷ 255 ∷ 255 ∷ 252 ∷ 255 ∷ 255 ∷ 255 ∷ replicate 28 0

-- a buffer of 42 bytes, each 9, and what is left in it by the writer at place 1
abbrev pub lent : List ℕ
lent = replicate 42 9

abbrev pub left : List ℕ
left = 9 ∷ minus_four ++ 9 ∷ []

-- ---- the tests in their order

-- what the reader is given, a buffer, a place and so many coordinates lent, and the number that it answers
pub record Read : Type 0 where
  pub buffer : List ℕ
  pub place : ℕ
  pub n : ℕ
  pub answer : ℕ

-- the record of number 0 at kind k, grade 1, whose coordinates have the bytes x and then so many zeros
abbrev pub zeros : ℕ → List ℕ → ℕ → List ℕ
zeros k x n = (76 ∷ 70 ∷ k ∷ 1 ∷ 0 ∷ 0 ∷ 0 ∷ 0 ∷ []) ++ x ++ replicate n 0

abbrev pub reads : List Read
reads =
    -- no mark: nothing, one byte of it, past the end, the mark of a sheet, which comes before a wrong kind
    record { buffer = []; place = 0; n = 8; answer = 10 }
    ∷ record { buffer = 76 ∷ []; place = 0; n = 8; answer = 10 }
    ∷ record { buffer = minus_four; place = 40; n = 8; answer = 10 }
    ∷ record { buffer = minus_four; place = 18446744073709551615; n = 8; answer = 10 }
    ∷ record { buffer = 76 ∷ 67 ∷ 7 ∷ []; place = 0; n = 8; answer = 10 }
    -- no kind byte, a wrong kind with nothing behind it, no grade byte, a wrong grade
    ∷ record { buffer = 76 ∷ 70 ∷ []; place = 0; n = 8; answer = 19 }
    ∷ record { buffer = 76 ∷ 70 ∷ 7 ∷ []; place = 0; n = 8; answer = 1 }
    ∷ record { buffer = 76 ∷ 70 ∷ 3 ∷ []; place = 0; n = 7; answer = 19 }
    ∷ record { buffer = 76 ∷ 70 ∷ 3 ∷ 5 ∷ []; place = 0; n = 7; answer = 2 }
    -- a frame of another length before the record's end; the end
    ∷ record { buffer = 76 ∷ 70 ∷ 3 ∷ 1 ∷ []; place = 0; n = 7; answer = 4 }
    ∷ record { buffer = 76 ∷ 70 ∷ 3 ∷ 1 ∷ []; place = 0; n = 8; answer = 19 }
    ∷ record { buffer = take 39 minus_four; place = 0; n = 8; answer = 19 }
    -- 16,777,217 and −16,777,217; 1 and zeros; 2 and zeros at kind 4; 4 and zeros at kind 6
    ∷ record { buffer = zeros 3 (1 ∷ 0 ∷ 0 ∷ 1 ∷ []) 28; place = 0; n = 8; answer = 6 }
    ∷ record { buffer = zeros 3 (255 ∷ 255 ∷ 255 ∷ 254 ∷ []) 28; place = 0; n = 8; answer = 6 }
    ∷ record { buffer = zeros 3 (1 ∷ 0 ∷ 0 ∷ 0 ∷ []) 28; place = 0; n = 8; answer = 7 }
    ∷ record { buffer = zeros 4 (2 ∷ 0 ∷ 0 ∷ 0 ∷ []) 60; place = 0; n = 16; answer = 8 }
    ∷ record { buffer = zeros 6 (4 ∷ 0 ∷ 0 ∷ 0 ∷ []) 252; place = 0; n = 64; answer = 13 }
    -- 16,777,216 and −16,777,216, which are read and are no sent frames; 4 and zeros under an even number; and records that are passed, the second at place 1
    ∷ record { buffer = zeros 3 (0 ∷ 0 ∷ 0 ∷ 1 ∷ []) 28; place = 0; n = 8; answer = 9 }
    ∷ record { buffer = zeros 3 (0 ∷ 0 ∷ 0 ∷ 255 ∷ []) 28; place = 0; n = 8; answer = 9 }
    ∷ record { buffer = zeros 3 (4 ∷ 0 ∷ 0 ∷ 0 ∷ []) 28; place = 0; n = 8; answer = 9 }
    ∷ record { buffer = plus_four; place = 0; n = 8; answer = 0 }
    ∷ record { buffer = left; place = 1; n = 8; answer = 0 }
    ∷ []

-- what the writer is given, kind, grade, message, place and the length of the buffer, and the number that it answers
pub record Write : Type 0 where
  pub kind : ℕ
  pub grade : ℕ
  pub message : List ℕ
  pub place : ℕ
  pub room : ℕ
  pub answer : ℕ

abbrev pub writes : List Write
writes =
    record { kind = 7; grade = 5; message = []; place = 0; room = 0; answer = 1 }
    ∷ record { kind = 3; grade = 5; message = []; place = 0; room = 0; answer = 2 }
    ∷ record { kind = 3; grade = 1; message = 0 ∷ []; place = 0; room = 0; answer = 3 }
    ∷ record { kind = 3; grade = 1; message = 0 ∷ 16 ∷ []; place = 0; room = 0; answer = 5 }
    ∷ record { kind = 3; grade = 1; message = 0 ∷ 8 ∷ []; place = 1; room = 40; answer = 19 }
    ∷ record { kind = 3; grade = 1; message = 0 ∷ 8 ∷ []; place = 18446744073709551615; room = 40; answer = 19 }
    ∷ record { kind = 3; grade = 1; message = 0 ∷ 8 ∷ []; place = 0; room = 40; answer = 0 }
    ∷ []
