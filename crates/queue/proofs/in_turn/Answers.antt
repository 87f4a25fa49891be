-- What is left to show of `in_turn`: a turn sends the message of its place or stops there. Assumes nothing.
use Rattle.std.proofs.Common.{◌≡◌, ℕ, ◌+◌, ◌-◌, ◌*◌, ◌/◌, ◌^◌, ◌≤◌, ◌<◌, List, length, take, drop, refl, sym, ap, ap₂, ◌∙◌, subst, arith}
use lib.IntN.{ℤ}
use native.Mathlib.Nat.{mul-le-mul_left}
use lib.ListN.{length-take, length-drop}
use borrow.Rule.Slice.PartMut.{put_mid}
use Rattle.refusals.specs.declared.Refusal.{Refusal}
use Rattle.refusals.specs.Number.{code}
use Rattle.frames.specs.Kind.{message_bytes}
use Rattle.frames.specs.Free.{quiet_frame}
use Rattle.frames.proofs.Rows.{grade-high}
use Rattle.power_account.specs.declared.Account.{Account}
use Rattle.power_account.specs.Power.{grown}
use Rattle.power_account.specs.Counted.{number_for, counted_refusal}
use Rattle.power_account.specs.History.{answer}
use Rattle.power_account.proofs.Answers.{account-sent}
use Rattle.queue_turns.specs.Queue.{messages_in, calls_of, in_turn, frames_in_turn, piece}
use Rattle.queue_turns.proofs.Tests.{fits, some_bytes}
use Rattle.queue_turns.proofs.Turns.{SoFar, call_at, none_yet, all-answer, all-frames, stop-answer, stop-frames, one_further}
use Rattle.queue.proofs.in_turn.Goals as goal

-- the part of place i, as it is lent
part-is : {X : Type 0} {m n : ℕ} (i : ℕ) (xs : List X) → m ≡ n → take (m * i + m - m * i) (drop (m * i) xs) ≡ piece n i xs
part-is {X} {m} {n} i xs e =
    let k : m * i + m - m * i ≡ m = omega arith in
    ap (λ (x : ℕ). take x (drop (m * i) xs)) k ∙ ap (λ (x : ℕ). take x (drop (x * i) xs)) e

part-long : {X : Type 0} (n i : ℕ) (xs : List X) → n * i + n ≤ length xs → length (take (n * i + n - n * i) (drop (n * i) xs)) ≡ n
part-long n i xs h = simp (length-take, length-drop) (omega arith)

-- and where there are q of them it is within
within : (n : ℕ) {i q long : ℕ} → i < q → long ≡ n * q → n * i + n ≤ long
within n {i} {q} {long} h e = omega (arith, e, mul-le-mul_left n h)

-- ---- the turn of message i

module _ {k b : ℕ} {messages : List ℕ} {f₀ : List ℤ} {a₀ : Account} {i : ℕ} {f : List ℤ} {a : Account}
    (s : SoFar k b messages f₀ a₀ i f a) (h : i < messages_in k b messages)
    {m n : ℕ} (bytes : m ≡ message_bytes k b) (coordinates : n ≡ 2 ^ k) (room : n * i + n ≤ length f) where
  -- what it sends
  abbrev message : List ℕ
  message = take (m * i + m - m * i) (drop (m * i) messages)

  module _ {q : ℕ} (e : q ≡ counted_refusal k b 0 message n a) where
    answer-is : q ≡ answer a (call_at k b messages i)
    answer-is = e ∙ ap₂ (λ (x : List ℕ) (y : ℕ). counted_refusal k b 0 x y a) (part-is i messages bytes) coordinates

    -- it is refused
    module _ (no : q ≡ 0 → ⊥) where
      stops : record { number = q; sent = i; account = a } ≡ in_turn a₀ (calls_of k b messages)
      stops = ap (λ (v : ℕ). record { number = v; sent = i; account = a }) answer-is ∙ stop-answer k b messages s h (λ z. no (answer-is ∙ z))

      keeps : f ≡ frames_in_turn a₀ (calls_of k b messages) f₀
      keeps = stop-frames k b messages s h (λ z. no (answer-is ∙ z))

    -- it is sent
    goes-on : q ≡ 0 → {g : List ℤ} → g ≡ quiet_frame k b 0 (number_for a) message → {x : Account} → x ≡ grown a (quiet_frame k b 0 (number_for a) message)
        → SoFar k b messages f₀ a₀ (i + 1) (put_mid (n * i) (n * i + n - n * i) f g) x
    goes-on z {g} p {x} r =
        let c = call_at k b messages i in
        let zero : answer a c ≡ 0 = sym answer-is ∙ z in
        let frame : quiet_frame k b 0 (number_for a) message ≡ quiet_frame k b 0 (number_for a) c.message =
        ap (λ (y : List ℕ). quiet_frame k b 0 (number_for a) y) (part-is i messages bytes) in
        one_further k b messages s h zero (subst (λ (y : ℕ). y * i + y ≤ length f) coordinates room) (p ∙ frame) (sym coordinates)
        (account-sent (answer a c) k b 0 c.message a zero ∙ sym (r ∙ ap (grown a) frame))

-- no refusal is a success
no-success : (r : Refusal) → code r ≡ 0 → ⊥
no-success r e = grind arith

pub message_bytes-m-requires : goal.message_bytes-m-requires
message_bytes-m-requires c = let f = fits _ _ _ _ c.requires in (f.kind, grade-high _ f.grade)

pub positions-n-requires : goal.positions-n-requires
positions-n-requires c = (fits _ _ _ _ c.requires).kind

pub nonzero_div-count : goal.nonzero_div-count
nonzero_div-count c = let f = fits _ _ _ _ c.requires in omega (arith, c.message_bytes-m.ensures, some_bytes _ _ f.kind f.grade)

pub loop-sent-init : goal.loop-sent-init
loop-sent-init c = record {
  so_far = none_yet _ _ _;
  frames = let f = (fits _ _ _ _ c.requires).coordinates in rw (c.message_bytes-m.ensures, c.positions-n.ensures) f;
}

pub returns-in-Err-clause-queued : goal.returns-in-Err-clause-queued
returns-in-Err-clause-queued c =
    let l = c.loop-sent in
    let h : l.sent < messages_in c.args.kind c.args.grade c.args.messages.now = rw c.message_bytes-m.ensures at c.loop-sent-test.true in
    let room = within _ c.loop-sent-test.true l.invariant.frames in
    stops l.invariant.so_far h c.message_bytes-m.ensures c.positions-n.ensures room c.in-Err.ensures (no-success c.in-Err.refusal)

pub returns-in-Err-clause-frames : goal.returns-in-Err-clause-frames
returns-in-Err-clause-frames c =
    let l = c.loop-sent in
    let h : l.sent < messages_in c.args.kind c.args.grade c.args.messages.now = rw c.message_bytes-m.ensures at c.loop-sent-test.true in
    let room = within _ c.loop-sent-test.true l.invariant.frames in
    keeps l.invariant.so_far h c.message_bytes-m.ensures c.positions-n.ensures room c.in-Err.ensures (no-success c.in-Err.refusal)

pub write_counted-requires : goal.write_counted-requires
write_counted-requires c =
    let l = c.loop-sent in
    let m = c.message_bytes-m.result in
    let message = take (m * l.sent + m - m * l.sent) (drop (m * l.sent) c.args.messages.now) in
    let long = part-long c.positions-n.result l.sent l.frames (within _ c.loop-sent-test.true l.invariant.frames) in
    ap (λ (y : ℕ). counted_refusal c.args.kind c.args.grade 0 message y l.grown) long ∙ sym c.in_default.ensures

pub loop-sent-preserved : goal.loop-sent-preserved
loop-sent-preserved c =
    let l = c.loop-sent in
    let h : l.sent < messages_in c.args.kind c.args.grade c.args.messages.now = rw c.message_bytes-m.ensures at c.loop-sent-test.true in
    let room = within _ c.loop-sent-test.true l.invariant.frames in
    let w = c.write_counted.ensures in
    let next = goes-on l.invariant.so_far h c.message_bytes-m.ensures c.positions-n.ensures room c.in_default.ensures refl w.frame w.account in record {
      so_far = next;
      frames = next.long ∙ sym l.invariant.so_far.long ∙ l.invariant.frames;
    }

pub returns-clause-queued : goal.returns-clause-queued
returns-clause-queued c =
    let l = c.loop-sent in
    let e : length c.args.messages.now / c.message_bytes-m.result ≡ messages_in c.args.kind c.args.grade c.args.messages.now = rw c.message_bytes-m.ensures refl in
    let n : length c.args.messages.now / c.message_bytes-m.result ≡ l.sent = omega (arith, e, l.invariant.so_far.inside) in
    ap (λ (x : ℕ). record { number = 0; sent = x; account = l.grown }) n ∙ all-answer _ _ _ l.invariant.so_far (omega (arith, e))

pub returns-clause-frames : goal.returns-clause-frames
returns-clause-frames c =
    let l = c.loop-sent in
    let e : length c.args.messages.now / c.message_bytes-m.result ≡ messages_in c.args.kind c.args.grade c.args.messages.now = rw c.message_bytes-m.ensures refl in
    all-frames _ _ _ l.invariant.so_far (omega (arith, e))
