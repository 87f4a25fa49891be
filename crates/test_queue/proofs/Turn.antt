-- The first of several messages sent by itself, and the rest after it: what `in_turn` makes of the two. Assumes nothing.
use Prim.Native.Nat.{ℕ, zero, suc, ◌+◌, ◌-◌, ◌*◌, ◌^◌, ◌≤◌}
use mathlib.Core.Path.{◌≡◌, refl, sym, ap, ap₂, ◌∙◌}
use mathlib.Core.Bool.{Bool, cond}
use mathlib.Core.List.{List, ◌∷◌, ◌++◌, append-nil}
use native.Mathlib.Nat.{sub-zero}
use native.Mathlib.Omega.{arith}
use lib.IntN.{ℤ}
use lib.ListN.{length, take, drop, length-drop, length-append, take-append-drop, drop_of_length-le}
use lib.Seq.{length-take-le, take_all, take_at, drop_at}
use borrow.Rule.Slice.PartMut.{post_of, put_mid, Post-is}
use borrow.Author.Tests.{eq-eqb, ne_eqb}
use Rattle.refusals.specs.declared.Refusal.{Refusal}
use Rattle.refusals.specs.Number.{code}
use Rattle.frames.specs.Kind.{message_bytes}
use Rattle.frames.specs.Sending.{frame_after}
use Rattle.power_account.specs.declared.Account.{Account}
use Rattle.power_account.specs.Counted.{number_for, counted_refusal, counted_account}
use Rattle.power_account.specs.History.{Call, answer, after}
use Rattle.queue_turns.specs.Queue.{Queued, calls_for, one_more, in_turn, frames_in_turn}
use Rattle.power_account.proofs.History.{frame-of}
use Rattle.queue_turns.proofs.Turns.{sent-answer, sent-frames, refused-answer, refused-frames}

-- no refusal is a success
pub no-success : (r : Refusal) → code r ≡ 0 → ⊥
no-success r e = grind arith

-- a call with a message of m bytes, into n coordinates
abbrev call_of : (k b m n : ℕ) → List ℕ → Call
call_of k b m n bytes = record { kind = k; grade = b; free = 0; message = take m bytes; n = n }

-- the first call, and the others
calls-first : (k b count : ℕ) (bytes : List ℕ) → (count ≡ 0 → ⊥)
    → calls_for count k b bytes
    ≡ call_of k b (message_bytes k b) (2 ^ k) bytes ∷ calls_for (count - 1) k b (drop (message_bytes k b) bytes)
unfolding calls_for
calls-first k b zero bytes s = absurd (s refl)
calls-first k b (suc q) bytes s =
    let e : q ≡ suc q - 1 = omega arith in
    ap (λ (x : ℕ). call_of k b (message_bytes k b) (2 ^ k) bytes ∷ calls_for x k b (drop (message_bytes k b) bytes)) e

-- no message
pub none : (k b count : ℕ) (bytes : List ℕ) (f : List ℤ) (a : Account) → count ≡ 0
    → (record { number = 0; sent = 0; account = a } ≡ in_turn a (calls_for count k b bytes)) × (f ≡ frames_in_turn a (calls_for count k b bytes) f)
unfolding in_turn frames_in_turn calls_for
none k b count bytes f a e = rw e (refl, refl)

-- one of `count` pieces stands in the whole, and the others after it
one_piece : (m count : ℕ) → (count ≡ 0 → ⊥) → m * count ≡ m + m * (count - 1)
one_piece m zero s = absurd (s refl)
one_piece m (suc q) s = let e : suc q - 1 ≡ q = omega arith in rw e (omega arith)

-- a part from m on, to the end
to_the_end : {A : Type 0} (m : ℕ) (xs : List A) → take (length xs - m) (drop m xs) ≡ drop m xs
to_the_end m xs = take_all (length xs - m) (drop m xs) (omega (arith, length-drop m xs))

-- nothing stands behind it
nothing-behind : {A : Type 0} (m : ℕ) (xs ys : List A) → m ≤ length xs → (ys ++ post_of m (length xs - m) xs) ≡ ys
nothing-behind m xs ys h =
    ap (λ (l : List _). ys ++ l) (Post-is m (length xs) xs h ∙ drop_of_length-le xs {i = length xs} (omega arith)) ∙ append-nil ys

module _ (k b : ℕ) (bytes : List ℕ) (f : List ℤ) (a : Account) {m n count : ℕ} (message : m ≡ message_bytes k b) (frame : n ≡ 2 ^ k)
    (some : count ≡ 0 → ⊥) (long-bytes : length bytes ≡ m * count) (long : length f ≡ n * count) where
  frames-room : n ≤ length f
  frames-room = omega (arith, long, one_piece n count some)

  abbrev the_call : Call
  the_call = call_of k b m n bytes

  abbrev others : List Call
  others = calls_for (count - 1) k b (drop m bytes)

  calls : calls_for count k b bytes ≡ the_call ∷ others
  calls =
      calls-first k b count bytes some
      ∙ ap₂ (λ (x y : ℕ). call_of k b x y bytes ∷ calls_for (count - 1) k b (drop x bytes)) (sym message) (sym frame)

  -- the first is sent with the number z, and leaves x in its coordinates
  module _ {z : ℕ} {x : List ℤ} (number : z ≡ counted_refusal k b 0 (take (m - 0) bytes) (length (take (n - 0) f)) a)
      (written : x ≡ frame_after z k b 0 (number_for a) (take (m - 0) bytes) (take (n - 0) f)) where
    first-bytes : take (m - 0) bytes ≡ take m bytes
    first-bytes = ap (λ (i : ℕ). take i bytes) (sub-zero m)

    first_frame : take (n - 0) f ≡ take n f
    first_frame = ap (λ (i : ℕ). take i f) (sub-zero n)

    first-long : length (take (n - 0) f) ≡ n
    first-long = ap (λ (l : List ℤ). length l) first_frame ∙ length-take-le n f frames-room

    answer-is : z ≡ answer a the_call
    answer-is = number ∙ ap₂ (λ (l : List ℕ) (i : ℕ). counted_refusal k b 0 l i a) first-bytes first-long

    x-is : x ≡ frame_after (answer a the_call) k b 0 (number_for a) (take m bytes) (take n f)
    x-is =
        written
        ∙ ap₂ (λ (l : List ℕ) (y : List ℤ). frame_after z k b 0 (number_for a) l y) first-bytes first_frame
        ∙ ap (λ (i : ℕ). frame_after i k b 0 (number_for a) (take m bytes) (take n f)) answer-is

    rest-is : post_of 0 (n - 0) f ≡ drop n f
    rest-is = Post-is 0 n f (omega arith)

    -- what is written, by the answer
    x-refused : (answer a the_call ≡ 0 → ⊥) → x ≡ take n f
    unfolding frame_after
    x-refused r = x-is ∙ ap (λ (t : Bool). cond t (frame-of a the_call) (take n f)) (ne_eqb (answer a the_call) 0 r)

    x-sent : answer a the_call ≡ 0 → x ≡ frame-of a the_call
    unfolding frame_after
    x-sent e = x-is ∙ ap (λ (t : Bool). cond t (frame-of a the_call) (take n f)) (eq-eqb (answer a the_call) 0 e)

    pub stopped : (z ≡ 0 → ⊥) → record { number = z; sent = 0; account = a } ≡ in_turn a (calls_for count k b bytes)
    stopped r =
        ap (λ (i : ℕ). record { number = i; sent = 0; account = a }) answer-is
        ∙ sym (refused-answer a the_call others f (λ e. r (answer-is ∙ e)))
        ∙ ap (in_turn a) (sym calls)

    pub stopped-frames : (z ≡ 0 → ⊥) → (x ++ post_of 0 (n - 0) f) ≡ frames_in_turn a (calls_for count k b bytes) f
    stopped-frames r =
        ap₂ ◌++◌ (x-refused (λ e. r (answer-is ∙ e))) rest-is
        ∙ take-append-drop n f
        ∙ sym (refused-frames a the_call others f (λ e. r (answer-is ∙ e)))
        ∙ ap (λ (cs : List Call). frames_in_turn a cs f) (sym calls)

    -- it is accepted, and leaves the account g; x has as many coordinates as were lent
    module _ {g : Account} (grown : g ≡ counted_account z k b 0 (take (m - 0) bytes) a) (accepted : z ≡ 0)
        (kept : length x ≡ length (take (n - 0) f)) where
      as_long : length x ≡ n
      as_long = kept ∙ first-long

      abbrev whole : List ℤ
      whole = x ++ post_of 0 (n - 0) f

      inside-whole : n ≤ length whole
      inside-whole = omega (arith, as_long, length-append x (post_of 0 (n - 0) f))

      behind : drop n whole ≡ drop n f
      behind = drop_at x (post_of 0 (n - 0) f) n as_long ∙ rest-is

      grown-is : g ≡ after a the_call
      grown-is =
          grown
          ∙ ap (λ (l : List ℕ). counted_account z k b 0 l a) first-bytes
          ∙ ap (λ (i : ℕ). counted_account i k b 0 (take m bytes) a) answer-is

      pub further : {r : Queued} → r ≡ in_turn g (calls_for (count - 1) k b (take (length bytes - m) (drop m bytes)))
          → one_more r ≡ in_turn a (calls_for count k b bytes)
      further e =
          ap one_more (e ∙ ap₂ (λ (c : Account) (l : List ℕ). in_turn c (calls_for (count - 1) k b l)) grown-is (to_the_end m bytes))
          ∙ sym (sent-answer a the_call others f (sym answer-is ∙ accepted))
          ∙ ap (in_turn a) (sym calls)

      pub further-frames : {y : List ℤ}
          → y ≡ frames_in_turn g (calls_for (count - 1) k b (take (length bytes - m) (drop m bytes))) (take (length whole - n) (drop n whole))
          → put_mid n (length whole - n) whole y ≡ frames_in_turn a (calls_for count k b bytes) f
      further-frames {y} e =
          let passed : answer a the_call ≡ 0 = sym answer-is ∙ accepted in
          let lent : List ℤ = take (length whole - n) (drop n whole) in
          let rest : y ≡ frames_in_turn (after a the_call) others (drop n f) =
          e
          ∙ ap₂ (λ (c : Account) (l : List ℕ). frames_in_turn c (calls_for (count - 1) k b l) lent) grown-is (to_the_end m bytes)
          ∙ ap (frames_in_turn (after a the_call) others) (to_the_end n whole ∙ behind) in
          ap₂ ◌++◌ (take_at x (post_of 0 (n - 0) f) n as_long ∙ x-sent passed)
          (nothing-behind n whole y inside-whole ∙ rest)
          ∙ sym (sent-frames a the_call others f passed)
          ∙ ap (λ (cs : List Call). frames_in_turn a cs f) (sym calls)
