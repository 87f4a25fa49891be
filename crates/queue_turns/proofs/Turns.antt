-- A queue turn by turn: what the first call makes of the rest, and what holds while a loop sends message after message. Assumes nothing.
use Prim.Native.Nat.{ℕ, suc, ◌+◌, ◌-◌, ◌*◌, ◌^◌, ◌<◌, ◌≤◌}
use mathlib.Core.Path.{◌≡◌, refl, sym, ap, ap₂, ◌∙◌, subst}
use mathlib.Core.Bool.{true, false}
use mathlib.Core.List.{List, [], ◌∷◌, ◌++◌, append_assoc}
use native.Mathlib.Nat.{zero-add}
use native.Mathlib.Omega.{arith}
use lib.Dec.{eqb}
use lib.IntN.{ℤ}
use lib.ListN.{length, take, drop, take-append-drop, length-append, length-drop}
use lib.Seq.{take_at, drop_at, drop-drop, length-take-le}
use borrow.Author.Tests.{eq-eqb, ne_eqb}
use borrow.Rule.Slice.PartMut.{put_mid}
use Rattle.frames.specs.Kind.{message_bytes}
use Rattle.power_account.specs.declared.Account.{Account}
use Rattle.power_account.specs.Counted.{number_for}
use Rattle.power_account.specs.History.{Call, answer as answer-of, after}
use Rattle.power_account.proofs.History.{frame-of, frame-length, after-refused}
use Rattle.queue_turns.specs.Queue.{Queued, messages_in, calls_for, calls_of, one_more, in_turn, frames_in_turn, piece}

-- ---- the first call, accepted or refused

module _ (a : Account) (c : Call) (cs : List Call) (f : List ℤ) where
  pub sent-answer : answer-of a c ≡ 0 → in_turn a (c ∷ cs) ≡ one_more (in_turn (after a c) cs)
  unfolding in_turn
  sent-answer e = let q : eqb (answer-of a c) 0 ≡ true = eq-eqb _ _ e in simp q

  pub sent-frames : answer-of a c ≡ 0 → frames_in_turn a (c ∷ cs) f ≡ frame-of a c ++ frames_in_turn (after a c) cs (drop c.n f)
  unfolding frames_in_turn
  sent-frames e = let q : eqb (answer-of a c) 0 ≡ true = eq-eqb _ _ e in simp q

  pub refused-answer : (answer-of a c ≡ 0 → ⊥) → in_turn a (c ∷ cs) ≡ record { number = answer-of a c; sent = 0; account = a }
  unfolding in_turn
  refused-answer e =
      let q : eqb (answer-of a c) 0 ≡ false = ne_eqb _ _ e in
      simp q (ap (λ (x : Account). record { number = answer-of a c; sent = 0; account = x }) (after-refused a c q))

  pub refused-frames : (answer-of a c ≡ 0 → ⊥) → frames_in_turn a (c ∷ cs) f ≡ f
  unfolding frames_in_turn
  refused-frames e =
      let q : eqb (answer-of a c) 0 ≡ false = ne_eqb _ _ e in
      simp q (take-append-drop c.n f)

-- ---- a queue cut at message i

-- i messages were sent before those of q
abbrev pub ahead : ℕ → Queued → Queued
ahead i q = record { number = q.number; sent = q.sent + i; account = q.account }

ahead_none : (i number : ℕ) (a : Account) → record { number = number; sent = i; account = a } ≡ ahead i (record { number = number; sent = 0; account = a })
ahead_none i number a = ap (λ (s : ℕ). record { number = number; sent = s; account = a }) (sym (zero-add i))

ahead_more : (i : ℕ) (q : Queued) → ahead i (one_more q) ≡ ahead (i + 1) q
ahead_more i q =
    let e : q.sent + 1 + i ≡ q.sent + (i + 1) = omega arith in
    ap (λ (s : ℕ). record { number = q.number; sent = s; account = q.account }) e

module _ (k b : ℕ) (bytes : List ℕ) where
  -- the call that sends message i, and those from message i on
  abbrev pub call_at : ℕ → Call
  call_at i = record { kind = k; grade = b; free = 0; message = piece (message_bytes k b) i bytes; n = 2 ^ k }

  abbrev pub calls-from : ℕ → List Call
  calls-from i = calls_for (messages_in k b bytes - i) k b (drop (message_bytes k b * i) bytes)

  next-call : (i : ℕ) → i < messages_in k b bytes → calls-from i ≡ call_at i ∷ calls-from (i + 1)
  unfolding calls_for
  next-call i h =
      let B = message_bytes k b in
      let e : messages_in k b bytes - i ≡ suc (messages_in k b bytes - (i + 1)) = omega arith in
      let d : B * i + B ≡ B * (i + 1) = omega arith in
      ap (λ (q : ℕ). calls_for q k b (drop (B * i) bytes)) e
      ∙ ap (λ (xs : List ℕ). call_at i ∷ calls_for (messages_in k b bytes - (i + 1)) k b xs) (drop-drop B (B * i) bytes ∙ ap (λ (x : ℕ). drop x bytes) d)

  last-call : (i : ℕ) → messages_in k b bytes ≤ i → calls-from i ≡ []
  unfolding calls_for
  last-call i h =
      let e : messages_in k b bytes - i ≡ 0 = omega arith in
      ap (λ (q : ℕ). calls_for q k b (drop (message_bytes k b * i) bytes)) e

  -- the first i messages are sent: what stands so far, with what those from message i on will do, makes the whole
  pub record SoFar (f₀ : List ℤ) (a₀ : Account) (i : ℕ) (f : List ℤ) (a : Account) : Type 0 where
    pub inside : i ≤ messages_in k b bytes
    pub long : length f ≡ length f₀
    pub answer : ahead i (in_turn a (calls-from i)) ≡ in_turn a₀ (calls_of k b bytes)
    pub frames : take (2 ^ k * i) f ++ frames_in_turn a (calls-from i) (drop (2 ^ k * i) f) ≡ frames_in_turn a₀ (calls_of k b bytes) f₀

  first-call : calls-from 0 ≡ calls_of k b bytes
  first-call =
      let e : messages_in k b bytes - 0 ≡ messages_in k b bytes = omega arith in
      let z : message_bytes k b * 0 ≡ 0 = omega arith in
      ap₂ (λ (q x : ℕ). calls_for q k b (drop x bytes)) e z

  module _ {f₀ : List ℤ} {a₀ : Account} where
    pub none_yet : SoFar f₀ a₀ 0 f₀ a₀
    none_yet =
        let z : 2 ^ k * 0 ≡ 0 = omega arith in
        let q : (in_turn a₀ (calls-from 0)).sent + 0 ≡ (in_turn a₀ (calls-from 0)).sent = omega arith in
        record {
          inside = omega arith;
          long = refl;
          answer = ap (λ (n : ℕ). record { number = (in_turn a₀ (calls-from 0)).number; sent = n; account = (in_turn a₀ (calls-from 0)).account }) q
              ∙ ap (in_turn a₀) first-call;
          frames = ap₂ (λ (x : ℕ) (cs : List Call). take x f₀ ++ frames_in_turn a₀ cs (drop x f₀)) z first-call;
        }

    module _ {i : ℕ} {f : List ℤ} {a : Account} (s : SoFar f₀ a₀ i f a) where
      -- all are sent
      pub all-answer : messages_in k b bytes ≤ i → record { number = 0; sent = i; account = a } ≡ in_turn a₀ (calls_of k b bytes)
      unfolding in_turn
      all-answer h = ahead_none i 0 a ∙ sym (ap (λ (cs : List Call). ahead i (in_turn a cs)) (last-call i h)) ∙ s.answer

      pub all-frames : messages_in k b bytes ≤ i → f ≡ frames_in_turn a₀ (calls_of k b bytes) f₀
      unfolding frames_in_turn
      all-frames h =
          sym (take-append-drop (2 ^ k * i) f)
          ∙ sym (ap (λ (cs : List Call). take (2 ^ k * i) f ++ frames_in_turn a cs (drop (2 ^ k * i) f)) (last-call i h)) ∙ s.frames

      module _ (h : i < messages_in k b bytes) where
        -- message i is refused
        pub stop-answer : (answer-of a (call_at i) ≡ 0 → ⊥) → record { number = answer-of a (call_at i); sent = i; account = a } ≡ in_turn a₀ (calls_of k b bytes)
        stop-answer e =
            ahead_none i (answer-of a (call_at i)) a
            ∙ sym (ap (ahead i) (ap (in_turn a) (next-call i h) ∙ refused-answer a (call_at i) (calls-from (i + 1)) f e)) ∙ s.answer

        pub stop-frames : (answer-of a (call_at i) ≡ 0 → ⊥) → f ≡ frames_in_turn a₀ (calls_of k b bytes) f₀
        stop-frames e =
            let g = drop (2 ^ k * i) f in
            sym (take-append-drop (2 ^ k * i) f)
            ∙ sym (ap (λ (x : List ℤ). take (2 ^ k * i) f ++ x)
            (ap (λ (cs : List Call). frames_in_turn a cs g) (next-call i h) ∙ refused-frames a (call_at i) (calls-from (i + 1)) g e))
            ∙ s.frames

        -- message i is sent: y stands in the place of its frame
        module _ (e : answer-of a (call_at i) ≡ 0) (room : 2 ^ k * i + 2 ^ k ≤ length f) {y : List ℤ} (is : y ≡ frame-of a (call_at i)) where
          whole : length y ≡ 2 ^ k
          whole = ap length is ∙ frame-length a (call_at i) e (number_for a)

          abbrev put : List ℤ
          put = put_mid (2 ^ k * i) (2 ^ k * i + 2 ^ k - 2 ^ k * i) f y

          put_is : put ≡ (take (2 ^ k * i) f ++ y) ++ drop (2 ^ k * (i + 1)) f
          put_is =
              let q : 2 ^ k * i + 2 ^ k - 2 ^ k * i ≡ 2 ^ k = omega arith in
              let r : 2 ^ k * i + 2 ^ k ≡ 2 ^ k * (i + 1) = omega arith in
              rw (q, drop-drop, r, append_assoc)

          done : length (take (2 ^ k * i) f ++ y) ≡ 2 ^ k * (i + 1)
          done =
              let l = length-take-le (2 ^ k * i) f (omega arith) in
              length-append (take (2 ^ k * i) f) y ∙ omega (arith, l, whole)

          -- what those from message i on do, seen from the next
          unrolled : frames_in_turn a (calls-from i) (drop (2 ^ k * i) f)
              ≡ frame-of a (call_at i) ++ frames_in_turn (after a (call_at i)) (calls-from (i + 1)) (drop (2 ^ k * (i + 1)) f)
          unrolled =
              let g = drop (2 ^ k * i) f in
              let r : 2 ^ k * i + 2 ^ k ≡ 2 ^ k * (i + 1) = omega arith in
              ap (λ (cs : List Call). frames_in_turn a cs g) (next-call i h) ∙ sent-frames a (call_at i) (calls-from (i + 1)) g e
              ∙ ap (λ (x : List ℤ). frame-of a (call_at i) ++ frames_in_turn (after a (call_at i)) (calls-from (i + 1)) x)
              (drop-drop (2 ^ k) (2 ^ k * i) f ∙ ap (λ (n : ℕ). drop n f) r)

          further : SoFar f₀ a₀ (i + 1) put (after a (call_at i))
          further =
              let c = call_at i in
              let n = 2 ^ k * (i + 1) in
              let p = take (2 ^ k * i) f ++ y in
              let rest = frames_in_turn (after a c) (calls-from (i + 1)) in
              record {
                inside = omega arith;
                long = ap length put_is ∙ length-append p (drop n f) ∙ simp length-drop (omega (arith, done, s.long));
                answer = sym (ahead_more i (in_turn (after a c) (calls-from (i + 1))))
                    ∙ sym (ap (ahead i) (ap (in_turn a) (next-call i h) ∙ sent-answer a c (calls-from (i + 1)) f e)) ∙ s.answer;
                frames = ap (λ (x : List ℤ). take n x ++ rest (drop n x)) put_is
                    ∙ ap₂ (λ (x z : List ℤ). x ++ rest z) (take_at p (drop n f) n done) (drop_at p (drop n f) n done)
                    ∙ append_assoc (take (2 ^ k * i) f) y (rest (drop n f))
                    ∙ ap (λ (x : List ℤ). take (2 ^ k * i) f ++ (x ++ rest (drop n f))) is
                    ∙ ap (λ (x : List ℤ). take (2 ^ k * i) f ++ x) (sym unrolled) ∙ s.frames;
              }

          -- with the length and the account by other names
          pub one_further : {n : ℕ} {x : Account} → 2 ^ k ≡ n → after a (call_at i) ≡ x → SoFar f₀ a₀ (i + 1) (put_mid (n * i) (n * i + n - n * i) f y) x
          one_further {n} {x} p q =
              subst (λ (m : ℕ). SoFar f₀ a₀ (i + 1) (put_mid (m * i) (m * i + m - m * i) f y) x) p (subst (SoFar f₀ a₀ (i + 1) put) q further)
