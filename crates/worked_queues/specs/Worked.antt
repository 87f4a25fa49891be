-- Queues worked by hand from the exam frames of document 01, to be met by the definitions (request E4), also across a changeover (request E5).
-- Assumes nothing.
use Rattle.std.specs.Prelude.{ℕ, zero, suc, ◌≡◌, List, [], ◌∷◌, ◌++◌, map, ℤ, pos, negsuc, length, replicate}
use Rattle.power_account.specs.declared.Account.{Account}
use Rattle.worked_accounts.specs.Worked.{held_with, held}
use Rattle.queue_turns.specs.Queue.{Queued, queue_outcome, queue_frames}

-- the values from x on, another at each place
abbrev pub from : ℕ → ℕ → List ℤ
from x zero = []
from x (suc n) = pos x ∷ from (suc x) n

-- a queue: kind, grade, the message bytes, the coordinates lent and the account; what it answers, and what it leaves in the coordinates
pub record Case : Type 0 where
  pub kind : ℕ
  pub grade : ℕ
  pub bytes : List ℕ
  pub lent : List ℤ
  pub with : Account
  pub outcome : Queued
  pub left : List ℤ

abbrev pub answered : ℕ → ℕ → Account → Queued
answered number sent a = record { number = number; sent = sent; account = a }

-- Frames of kind 3, grade 1: 01 00 is all −1 (power 1, a block of 8), 00 08 is −4 and zeros (power 2, a block of 16); 00 10 has a spare bit
-- set. Of kind 4: 01 00 00 00 00 is all 1 (power 1, blocks of 8), 20 00 00 00 00 is all −2 (power 4, blocks of 32)
abbrev pub all_minus : List ℤ
all_minus = replicate 8 (negsuc 0)

abbrev pub minus_four : List ℤ
minus_four = negsuc 3 ∷ replicate 7 (pos 0)

-- 00 08 under an odd number
abbrev pub plus_four : List ℤ
plus_four = pos 4 ∷ replicate 7 (pos 0)

abbrev pub queues : List Case
queues =
    -- all are sent; the third is refused, by 5, and the fourth is not sent
    record {
      kind = 3;
      grade = 1;
      bytes = 1 ∷ 0 ∷ 0 ∷ 8 ∷ [];
      lent = from 100 16;
      with = held 0 0 0;
      outcome = answered 0 2 (held 2 3 16);
      left = all_minus ++ minus_four;
    }
    ∷ record {
      kind = 3;
      grade = 1;
      bytes = 1 ∷ 0 ∷ 0 ∷ 8 ∷ 0 ∷ 16 ∷ 1 ∷ 0 ∷ [];
      lent = from 100 32;
      with = held 5 7 9;
      outcome = answered 5 2 (held 7 10 16);
      left = all_minus ++ (minus_four ++ from 116 16);
    }
    ∷ record {
      kind = 4;
      grade = 1;
      bytes = 1 ∷ 0 ∷ 0 ∷ 0 ∷ 0 ∷ 32 ∷ 0 ∷ 0 ∷ 0 ∷ 0 ∷ [];
      lent = from 100 32;
      with = held 0 0 0;
      outcome = answered 0 2 (held 2 5 32);
      left = replicate 16 (pos 1) ++ replicate 16 (negsuc 1);
    }
    -- the account is full after the first: 11; full before, 11, and 5 comes first
    ∷ record {
      kind = 3;
      grade = 1;
      bytes = 1 ∷ 0 ∷ 0 ∷ 8 ∷ [];
      lent = from 100 16;
      with = held 999999 0 0;
      outcome = answered 11 1 (held 1000000 1 8);
      left = all_minus ++ from 108 8;
    }
    ∷ record {
      kind = 3;
      grade = 1;
      bytes = 1 ∷ 0 ∷ [];
      lent = from 100 8;
      with = held 1000000 1 8;
      outcome = answered 11 0 (held 1000000 1 8);
      left = from 100 8;
    }
    ∷ record {
      kind = 3;
      grade = 1;
      bytes = 0 ∷ 16 ∷ [];
      lent = from 100 8;
      with = held 1000000 1 8;
      outcome = answered 5 0 (held 1000000 1 8);
      left = from 100 8;
    }
    -- an empty queue, also with a full account
    ∷ record { kind = 3; grade = 1; bytes = []; lent = []; with = held 5 7 9; outcome = answered 0 0 (held 5 7 9); left = [] }
    ∷ record { kind = 6; grade = 4; bytes = []; lent = []; with = held 1000000 1 8; outcome = answered 0 0 (held 1000000 1 8); left = [] }
    -- cut bytes, 3, before coordinates that do not fit, 4; a frame too few, a coordinate too many, a frame and no message
    ∷ record {
      kind = 3;
      grade = 1;
      bytes = 1 ∷ 0 ∷ 0 ∷ [];
      lent = from 100 9;
      with = held 5 7 9;
      outcome = answered 3 0 (held 5 7 9);
      left = from 100 9;
    }
    ∷ record {
      kind = 3;
      grade = 1;
      bytes = 1 ∷ 0 ∷ 0 ∷ 8 ∷ [];
      lent = from 100 8;
      with = held 5 7 9;
      outcome = answered 4 0 (held 5 7 9);
      left = from 100 8;
    }
    ∷ record { kind = 3; grade = 1; bytes = 1 ∷ 0 ∷ []; lent = from 100 9; with = held 5 7 9; outcome = answered 4 0 (held 5 7 9); left = from 100 9 }
    ∷ record { kind = 3; grade = 1; bytes = []; lent = from 100 8; with = held 5 7 9; outcome = answered 4 0 (held 5 7 9); left = from 100 8 }
    -- kind and grade come before them, 1 and 2
    ∷ record { kind = 7; grade = 0; bytes = 1 ∷ []; lent = from 100 9; with = held 5 7 9; outcome = answered 1 0 (held 5 7 9); left = from 100 9 }
    ∷ record { kind = 3; grade = 5; bytes = 1 ∷ []; lent = from 100 9; with = held 5 7 9; outcome = answered 2 0 (held 5 7 9); left = from 100 9 }
    -- the new rule from frame 1 on: frame 1 is odd, frame 2 even
    ∷ record {
      kind = 3;
      grade = 1;
      bytes = 0 ∷ 8 ∷ 0 ∷ 8 ∷ 0 ∷ 8 ∷ [];
      lent = from 100 24;
      with = held_with 1 0 0 0;
      outcome = answered 0 3 (held_with 1 3 6 16);
      left = minus_four ++ (plus_four ++ minus_four);
    }
    -- from frame 7 on: frame 5 is odd, and below it; the fourth message is refused
    ∷ record {
      kind = 3;
      grade = 1;
      bytes = 0 ∷ 8 ∷ 0 ∷ 8 ∷ 0 ∷ 8 ∷ 0 ∷ 16 ∷ [];
      lent = from 100 32;
      with = held_with 7 5 7 9;
      outcome = answered 5 3 (held_with 7 8 13 16);
      left = minus_four ++ (minus_four ++ (plus_four ++ from 124 8));
    }
    -- the new rule throughout: the last frame before the account is full
    ∷ record {
      kind = 3;
      grade = 1;
      bytes = 0 ∷ 8 ∷ 0 ∷ 8 ∷ [];
      lent = from 100 16;
      with = held_with 0 999999 0 0;
      outcome = answered 11 1 (held_with 0 1000000 2 16);
      left = plus_four ++ from 108 8;
    }
    ∷ []

-- the definitions give what is worked by hand
pub record AsWorked : Type 0 where
  pub answers : map (λ (c : Case). queue_outcome c.kind c.grade c.bytes (length c.lent) c.with) queues ≡ map (λ (c : Case). c.outcome) queues
  pub frames : map (λ (c : Case). queue_frames c.kind c.grade c.bytes c.lent c.with) queues ≡ map (λ (c : Case). c.left) queues
