-- Accounts worked by hand, to be met by the definitions (requests E2, E5 and E10): after calls one after the other from the beginning, and from
-- elsewhere; the frames before and after a changeover; opening. Assumes nothing.
use Rattle.std.specs.Prelude.{ℕ, ◌^◌, ◌-◌, ◌≡◌, List, [], ◌∷◌, map, ℤ, pos, negsuc, get_or}
use Rattle.std.specs.Float.{binary64}
use Rattle.std.specs.Float.Ieee.{of_int}
use Rattle.frames.specs.Exam.{minus, frame_of1}
use Rattle.power_account.specs.declared.Account.{Account}
use Rattle.power_account.specs.Power.{power_of, begun}
use Rattle.power_account.specs.Opening.{Opened, opened_with}
use Rattle.power_account.specs.History.{Call, after, sent_by}

-- an account of these figures, the sum being a whole number, and of a changeover
abbrev pub held_with : ℕ → ℕ → ℕ → ℕ → Account
held_with changeover count sum largest = record { count = count; sum = of_int binary64 (pos sum); largest = largest; changeover = changeover }

-- by the old rule throughout
abbrev pub held : ℕ → ℕ → ℕ → Account
held = held_with 1000000

-- the same, the sum being so many halves
abbrev pub held_in2 : ℕ → ℕ → ℕ → Account
held_in2 count sum largest = record { count = count; sum = power_of sum 2; largest = largest; changeover = 1000000 }

-- a call at grade 1 that lends as many coordinates as the kind has
abbrev pub free_call : ℕ → ℕ → List ℕ → Call
free_call kind free message = record { kind = kind; grade = 1; free = free; message = message; n = 2 ^ kind }

-- and leaves no bit free
abbrev pub call_of : ℕ → List ℕ → Call
call_of kind message = free_call kind 0 message

-- a call, and the account after it
pub record Case : Type 0 where
  pub call : Call
  pub left : Account

-- Kind 4, 4 at coordinate 9: blocks of 0 and 16, power 1. −4 at coordinates 1 and 2: blocks of 32 and 0, power 2. All −2: two blocks of 32,
-- energy 64, power 4. A spare bit set: refused. Kind 3, −4 at coordinate 0: a block of 16, power 2
abbrev pub steps : List Case
steps =
    record { call = call_of 4 (0 ∷ 0 ∷ 0 ∷ 16 ∷ 0 ∷ []); left = held 1 1 16 }
    ∷ record { call = call_of 4 (0 ∷ 0 ∷ 48 ∷ 0 ∷ 0 ∷ []); left = held 2 3 32 }
    ∷ record { call = call_of 4 (32 ∷ 0 ∷ 0 ∷ 0 ∷ 0 ∷ []); left = held 3 7 32 }
    ∷ record { call = call_of 3 (0 ∷ 16 ∷ []); left = held 3 7 32 }
    ∷ record { call = call_of 3 (0 ∷ 8 ∷ []); left = held 4 9 32 }
    ∷ []

-- with free bits. Kind 3, 12 00: 2 bits free, the fillings have 12, 4, 4 and 12, a power of 1/2; twice. None free: 12, a power of 3/2. A free bit set, five
-- free bits: refused
abbrev pub free_steps : List Case
free_steps =
    record { call = free_call 3 2 (18 ∷ 0 ∷ []); left = held_in2 1 1 4 }
    ∷ record { call = free_call 3 2 (18 ∷ 0 ∷ []); left = held 2 1 4 }
    ∷ record { call = free_call 3 2 (18 ∷ 4 ∷ []); left = held 2 1 4 }
    ∷ record { call = free_call 3 5 (18 ∷ 0 ∷ []); left = held 2 1 4 }
    ∷ record { call = free_call 3 2 (18 ∷ 0 ∷ []); left = held_in2 3 3 4 }
    ∷ record { call = call_of 3 (18 ∷ 0 ∷ []); left = held 4 3 12 }
    ∷ []

-- the frames that they send: three times that of filling 1, and with no bit free that of 12 00 itself
abbrev pub free_frames : List (List ℤ)
free_frames =
    frame_of1 ∷ frame_of1 ∷ frame_of1 ∷ (pos 0 ∷ minus 1 ∷ pos 0 ∷ minus 3 ∷ pos 0 ∷ pos 1 ∷ pos 0 ∷ pos 1 ∷ []) ∷ []

-- the accounts after the calls, each made with the account that the call before it left
abbrev pub lefts : Account → List Case → List Account
lefts a [] = []
lefts a (c ∷ cs) = after a c.call ∷ lefts (after a c.call) cs

-- accounts from elsewhere and their figure after all −2 was sent, whose blocks have 32: the larger one, up to the largest that it can hold
pub record Elsewhere : Type 0 where
  pub before : ℕ
  pub left : ℕ

abbrev pub elsewhere : List Elsewhere
elsewhere =
    record { before = 0; left = 32 }
    ∷ record { before = 31; left = 32 }
    ∷ record { before = 32; left = 32 }
    ∷ record { before = 33; left = 33 }
    ∷ record { before = 2 ^ 64 - 1; left = 2 ^ 64 - 1 }
    ∷ []

-- the figure that the definitions give
abbrev pub left_by : Elsewhere → ℕ
left_by e = (after (held 5 0 e.before) (call_of 4 (32 ∷ 0 ∷ 0 ∷ 0 ∷ 0 ∷ []))).largest

-- 00 08 at kind 3, grade 1, is sent as −4 and zeros by the old rule and under even numbers, as 4 and zeros under odd ones
abbrev pub tied : Call
tied = call_of 3 (0 ∷ 8 ∷ [])

-- the first coordinates of the frames that five such calls send with an account
abbrev pub firsts : Account → List ℤ
firsts a = map (λ (f : List ℤ). get_or f 0 (pos 0)) (sent_by a (tied ∷ tied ∷ tied ∷ tied ∷ tied ∷ []))

-- changeovers, with the count at the start, and these coordinates: 0 is the new rule throughout, 3 makes frame 3 the first one by the new rule, 4 the
-- fourth; past the count it changes nothing until it is reached
pub record Change : Type 0 where
  pub changeover : ℕ
  pub count : ℕ
  pub firsts : List ℤ

abbrev pub low : ℤ
low = negsuc 3

abbrev pub high : ℤ
high = pos 4

abbrev pub changes : List Change
changes =
    record { changeover = 0; count = 0; firsts = low ∷ high ∷ low ∷ high ∷ low ∷ [] }
    ∷ record { changeover = 1; count = 0; firsts = low ∷ high ∷ low ∷ high ∷ low ∷ [] }
    ∷ record { changeover = 2; count = 0; firsts = low ∷ low ∷ low ∷ high ∷ low ∷ [] }
    ∷ record { changeover = 3; count = 0; firsts = low ∷ low ∷ low ∷ high ∷ low ∷ [] }
    ∷ record { changeover = 4; count = 0; firsts = low ∷ low ∷ low ∷ low ∷ low ∷ [] }
    ∷ record { changeover = 4; count = 1; firsts = low ∷ low ∷ low ∷ low ∷ high ∷ [] }
    ∷ record { changeover = 4294967295; count = 1; firsts = low ∷ low ∷ low ∷ low ∷ low ∷ [] }
    ∷ record { changeover = 999997; count = 999995; firsts = low ∷ low ∷ high ∷ low ∷ high ∷ [] }
    ∷ record { changeover = 1000000; count = 999998; firsts = low ∷ low ∷ [] }
    ∷ record { changeover = 0; count = 999998; firsts = low ∷ high ∷ [] }
    ∷ []

-- the coordinates that the definitions give
abbrev pub firsts_by : Change → List ℤ
firsts_by e = firsts (held_with e.changeover e.count 0 0)

-- an account opened with a changeover: the number, and what is handed out
pub record Opening : Type 0 where
  pub changeover : ℕ
  pub number : ℕ
  pub kept : ℕ

abbrev pub openings : List Opening
openings =
    record { changeover = 0; number = 0; kept = 0 }
    ∷ record { changeover = 1; number = 0; kept = 1 }
    ∷ record { changeover = 1000000; number = 0; kept = 1000000 }
    ∷ record { changeover = 1000001; number = 14; kept = 0 }
    ∷ record { changeover = 4294967295; number = 14; kept = 0 }
    ∷ []

-- so handed out, with zero in the other figures
abbrev pub handed_out : Opening → Opened
handed_out o = record { number = o.number; account = held_with o.kept 0 0 0 }

-- the definitions give what is worked by hand
pub record AsWorked : Type 0 where
  pub grown : lefts (begun 1000000) steps ≡ map (λ (c : Case). c.left) steps
  pub with-free : lefts (begun 1000000) free_steps ≡ map (λ (c : Case). c.left) free_steps
  pub free-frames : sent_by (begun 1000000) (map (λ (c : Case). c.call) free_steps) ≡ free_frames
  pub taken : map left_by elsewhere ≡ map (λ (e : Elsewhere). e.left) elsewhere
  pub changed : map firsts_by changes ≡ map (λ (e : Change). e.firsts) changes
  pub opened : map (λ (o : Opening). opened_with o.changeover) openings ≡ map handed_out openings
