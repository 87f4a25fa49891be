-- What the definition of a queue comes to (specs/InTurn), by induction on the number of messages; and what follows for the account of a
-- longer history and for the energy of each frame. Assumes nothing.
use Prim.Native.Nat.{ℕ, zero, suc, ◌+◌, ◌*◌, ◌^◌, ◌<◌, ◌≤◌}
use mathlib.Core.Path.{◌≡◌, refl, sym, ap, ap₂, ◌∙◌, subst}
use mathlib.Core.Bool.{Bool, true, false}
use mathlib.Core.List.{List, [], ◌∷◌, ◌++◌}
use native.Mathlib.Nat.{zero-mod, zero-div}
use native.Mathlib.Decide.{ℕ_discrete}
use native.Mathlib.Omega.{arith}
use lib.Dec.{eqb}
use lib.IntN.{ℤ}
use lib.ListN.{length, take, drop, get_or, length-append, length-drop}
use lib.Seq.{take_at, drop_at, drop-drop}
use borrow.Author.Tests.{eq-eqb, ne_eqb, eqb-true, eqb-false}
use Rattle.e8.specs.Energy.{energy}
use Rattle.frames.specs.Kind.{is_kind, is_grade, message_bytes}
use Rattle.frames.specs.Frame.{numbered_frame}
use Rattle.frames.proofs.Rows.{grade-low}
use Rattle.frames.proofs.Demands.{least-energy}
use Rattle.free_bits.proofs.Fillings.{none-quiet}
use Rattle.power_account.specs.declared.Account.{Account}
use Rattle.power_account.specs.Power.{begun}
use Rattle.power_account.specs.Counted.{number_at, number_for, counted_refusal}
use Rattle.power_account.specs.History.{Call, answer, after, account_after, sent_by, Holds}
use Rattle.power_account.proofs.History.{frame-of, first-number, tests, frame-length, after-refused, by-sent, by-refused, next-numbers, calls-after, history}
use Rattle.power_account.proofs.Changeover.{changeover-kept}
use Rattle.queue_turns.specs.Queue.{Queued, queue_refusal, messages_in, calls_for, calls_of, one_more, in_turn, frames_in_turn, queue_outcome, queue_frames, piece, EachLeast}
use Rattle.queue_turns.specs.InTurn.{account_at, answer_at, calls_made, InTurn}
use Rattle.queue_turns.proofs.Tests.{fits, all_fit}
use Rattle.queue_turns.proofs.Turns.{sent-answer, sent-frames, refused-answer, refused-frames}

-- ---- pieces, from the first

piece-first : {A : Type 0} (n : ℕ) (xs : List A) → piece n 0 xs ≡ take n xs
piece-first n xs = let z : n * 0 ≡ 0 = omega arith in ap (λ (x : ℕ). take n (drop x xs)) z

piece-next : {A : Type 0} (n i : ℕ) (xs : List A) → piece n (suc i) xs ≡ piece n i (drop n xs)
piece-next n i xs =
    let e : n * suc i ≡ n + n * i = omega arith in
    ap (λ (x : ℕ). take n (drop x xs)) e ∙ ap (take n) (sym (drop-drop (n * i) n xs))

-- ---- the calls, from the first

module _ (m k b : ℕ) (bytes : List ℕ) (a : Account) where
  abbrev first-call : Call
  first-call = record { kind = k; grade = b; free = 0; message = take (message_bytes k b) bytes; n = 2 ^ k }

  abbrev rest : List ℕ
  rest = drop (message_bytes k b) bytes

  answer-first : answer_at (suc m) k b bytes a 0 ≡ answer a first-call
  unfolding account_after
  answer-first = ap (λ (x : List ℕ). counted_refusal k b 0 x (2 ^ k) a) (piece-first (message_bytes k b) bytes)

  account-next : (i : ℕ) → account_at (suc m) k b bytes a (suc i) ≡ account_at m k b rest (after a first-call) i
  unfolding account_after calls_for
  account-next i = refl

  answer-next : (i : ℕ) → answer_at (suc m) k b bytes a (suc i) ≡ answer_at m k b rest (after a first-call) i
  answer-next i = ap₂ (λ (x : List ℕ) (y : Account). counted_refusal k b 0 x (2 ^ k) y) (piece-next (message_bytes k b) i bytes) (account-next i)

  made-next : (q : Queued) → calls_made (suc m) k b bytes (one_more q) ≡ first-call ∷ calls_made m k b rest q
  unfolding calls_for
  made-next q = let e : q.sent + 1 ≡ suc q.sent = omega arith in ap (λ (x : ℕ). first-call ∷ take x (calls_for m k b rest)) e

  -- the first is refused: nothing is sent
  refused-first : (f : List ℤ) → (answer a first-call ≡ 0 → ⊥)
      → InTurn (suc m) k b bytes a f (record { number = answer a first-call; sent = 0; account = a }) f
  unfolding account_after calls_for sent_by
  refused-first f not-0 =
      let q : eqb (answer a first-call) 0 ≡ false = ne_eqb _ _ not-0 in
      record {
        some = omega arith;
        accepted = λ i h. absurd (omega arith);
        written = λ i h. absurd (omega arith);
        long = refl;
        kept = refl;
        stopped = λ h. (sym answer-first, not-0);
        all = λ e. absurd (omega arith);
        account = refl;
        refused = sym (after-refused a first-call q);
        counted = ap length (by-refused a first-call q []);
        history = λ i h. absurd (omega arith);
      }

  -- the first is sent, before those of q, which leave g
  module _ (f : List ℤ) (room : 2 ^ k ≤ length f) (e : answer a first-call ≡ 0) (q : Queued) (g : List ℤ)
      (r : InTurn m k b rest (after a first-call) (drop (2 ^ k) f) q g) where
    abbrev frame : List ℤ
    frame = frame-of a first-call

    whole : length frame ≡ 2 ^ k
    whole = frame-length a first-call e (number_for a)

    abbrev left : List ℤ
    left = frame ++ g

    left-first : piece (2 ^ k) 0 left ≡ frame
    left-first = piece-first (2 ^ k) left ∙ take_at frame g (2 ^ k) whole

    left-next : (i : ℕ) → piece (2 ^ k) (suc i) left ≡ piece (2 ^ k) i g
    left-next i = piece-next (2 ^ k) i left ∙ ap (piece (2 ^ k) i) (drop_at frame g (2 ^ k) whole)

    next : q.sent + 1 ≡ suc q.sent
    next = omega arith

    behind : (xs : List ℤ) {ys : List ℤ} → drop (2 ^ k) xs ≡ ys → drop (2 ^ k * (q.sent + 1)) xs ≡ drop (2 ^ k * q.sent) ys
    behind xs d =
        let l : 2 ^ k * (q.sent + 1) ≡ 2 ^ k + 2 ^ k * q.sent = omega arith in
        ap (λ (x : ℕ). drop x xs) l ∙ sym (drop-drop (2 ^ k * q.sent) (2 ^ k) xs) ∙ ap (drop (2 ^ k * q.sent)) d

    made : sent_by a (calls_made (suc m) k b bytes (one_more q)) ≡ frame ∷ sent_by (after a first-call) (calls_made m k b rest q)
    made = ap (sent_by a) (made-next q) ∙ by-sent a first-call (eq-eqb _ _ e) (calls_made m k b rest q)

    each-accepted : (i : ℕ) → i < q.sent + 1 → answer_at (suc m) k b bytes a i ≡ 0
    each-accepted zero h = answer-first ∙ e
    each-accepted (suc i) h = answer-next i ∙ r.accepted i (omega arith)

    each-written : (i : ℕ) → i < q.sent + 1
        → piece (2 ^ k) i left ≡ numbered_frame k b (number_at a.changeover (a.count + i)) (piece (message_bytes k b) i bytes)
    each-written zero h =
        left-first ∙ none-quiet k b (number_for a) (take (message_bytes k b) bytes)
        ∙ ap₂ (numbered_frame k b) (first-number a) (sym (piece-first (message_bytes k b) bytes))
    each-written (suc i) h =
        left-next i ∙ r.written i (omega arith)
        ∙ ap₂ (numbered_frame k b) (next-numbers a first-call e i) (sym (piece-next (message_bytes k b) i bytes))

    each-counted : (i : ℕ) → i < q.sent + 1 → get_or (sent_by a (calls_made (suc m) k b bytes (one_more q))) i [] ≡ piece (2 ^ k) i left
    each-counted zero h = ap (λ (x : List (List ℤ)). get_or x 0 []) made ∙ sym left-first
    each-counted (suc i) h = ap (λ (x : List (List ℤ)). get_or x (suc i) []) made ∙ r.history i (omega arith) ∙ sym (left-next i)

    sent-first : InTurn (suc m) k b bytes a f (one_more q) left
    unfolding account_after
    sent-first = record {
      some = omega (arith, r.some);
      accepted = each-accepted;
      written = each-written;
      long = length-append frame g ∙ omega (arith, whole, r.long, length-drop (2 ^ k) f);
      kept = behind left (drop_at frame g (2 ^ k) whole) ∙ r.kept ∙ sym (behind f refl);
      stopped = λ h. let t = r.stopped (omega arith) in (t.0 ∙ sym (answer-next q.sent) ∙ ap (answer_at (suc m) k b bytes a) (sym next), t.1);
      all = λ h. r.all (omega arith);
      account = r.account ∙ sym (account-next q.sent) ∙ ap (account_at (suc m) k b bytes a) (sym next);
      refused = r.refused ∙ ap (account_after a) (sym (made-next q));
      counted = ap length made ∙ omega (arith, r.counted);
      history = each-counted;
    }

-- THE QUEUE, message by message
pub in_order : (m k b : ℕ) (bytes : List ℕ) (a : Account) (f : List ℤ) → length f ≡ 2 ^ k * m
    → InTurn m k b bytes a f (in_turn a (calls_for m k b bytes)) (frames_in_turn a (calls_for m k b bytes) f)
unfolding in_turn frames_in_turn calls_for account_after sent_by
in_order zero k b bytes a f l = record {
  some = omega arith;
  accepted = λ i h. absurd (omega arith);
  written = λ i h. absurd (omega arith);
  long = refl;
  kept = refl;
  stopped = λ h. absurd (omega arith);
  all = λ h. refl;
  account = refl;
  refused = refl;
  counted = refl;
  history = λ i h. absurd (omega arith);
}
in_order (suc m) k b bytes a f l = go (eqb (answer a c) 0) refl (in_order m k b (drop (message_bytes k b) bytes) (after a c) (drop (2 ^ k) f) fewer)
  where
    c : Call
    c = first-call m k b bytes a

    cs : List Call
    cs = calls_for m k b (drop (message_bytes k b) bytes)

    fewer : length (drop (2 ^ k) f) ≡ 2 ^ k * m
    fewer = length-drop (2 ^ k) f ∙ omega (arith, l)

    go : (v : Bool) → eqb (answer a c) 0 ≡ v
        → InTurn m k b (drop (message_bytes k b) bytes) (after a c) (drop (2 ^ k) f) (in_turn (after a c) cs) (frames_in_turn (after a c) cs (drop (2 ^ k) f))
        → InTurn (suc m) k b bytes a f (in_turn a (c ∷ cs)) (frames_in_turn a (c ∷ cs) f)
    go true v r =
        let e = eqb-true _ _ v in
        rw (sent-answer a c cs f e, sent-frames a c cs f e) (sent-first m k b bytes a f (omega (arith, l)) e _ _ r)
    go false v r =
        let e = eqb-false _ _ v in
        rw (refused-answer a c cs f e, refused-frames a c cs f e) (refused-first m k b bytes a f e)

-- each frame written has the least energy of its class
each-least : {m k b : ℕ} {bytes : List ℕ} {a : Account} {f₀ : List ℤ} {q : Queued} {f : List ℤ} → InTurn m k b bytes a f₀ q f → EachLeast k b q.sent f
each-least {m} {k} {b} {bytes} {a} {f₀} {q} {f} r = record {
  each = λ i h.
      let message = piece (message_bytes k b) i bytes in
      let p = tests (account_at m k b bytes a i) (record { kind = k; grade = b; free = 0; message = message; n = 2 ^ k }) (r.accepted i h) in
      least-energy k b p.kind (grade-low b p.grade) _ message _ _ (r.written i h) (ap energy (r.written i h));
}

-- ---- the call

module _ (k b : ℕ) (bytes : List ℕ) (f : List ℤ) (a : Account) where
  -- a test before anything is sent is not passed
  pub refused-queue : (queue_refusal k b (length bytes) (length f) ≡ 0 → ⊥)
      → (queue_outcome k b bytes (length f) a ≡ record { number = queue_refusal k b (length bytes) (length f); sent = 0; account = a })
      × (queue_frames k b bytes f a ≡ f)
  unfolding queue_outcome queue_frames
  refused-queue e = let q = ne_eqb (queue_refusal k b (length bytes) (length f)) 0 e in (rw q, rw q)

  -- all are passed
  module _ (z : queue_refusal k b (length bytes) (length f) ≡ 0) where
    pub sent-queue : (queue_outcome k b bytes (length f) a ≡ in_turn a (calls_of k b bytes)) × (queue_frames k b bytes f a ≡ frames_in_turn a (calls_of k b bytes) f)
    unfolding queue_outcome queue_frames
    sent-queue = (rw z, rw z)

    pub queue-in-turn : InTurn (messages_in k b bytes) k b bytes a f (queue_outcome k b bytes (length f) a) (queue_frames k b bytes f a)
    queue-in-turn = rw (sent-queue.0, sent-queue.1) (in_order (messages_in k b bytes) k b bytes a f (fits k b (length bytes) (length f) z).coordinates)

    -- the calls that the queue makes
    abbrev pub made_by : List Call
    made_by = calls_made (messages_in k b bytes) k b bytes (queue_outcome k b bytes (length f) a)

    -- after other calls, the account is that of all of them in a row; from the beginning it holds their history
    pub queue-continues : (a₀ : Account) (cs : List Call) → account_after a₀ cs ≡ a → (queue_outcome k b bytes (length f) a).account ≡ account_after a₀ (cs ++ made_by)
    queue-continues a₀ cs e = queue-in-turn.refused ∙ sym (calls-after a₀ cs made_by ∙ ap (λ (x : Account). account_after x made_by) e)

    pub queue-history : (changeover : ℕ) (cs : List Call) → account_after (begun changeover) cs ≡ a
        → Holds (queue_outcome k b bytes (length f) a).account (sent_by (begun changeover) (cs ++ made_by))
    queue-history changeover cs e =
        subst (λ (x : Account). Holds x (sent_by (begun changeover) (cs ++ made_by))) (sym (queue-continues (begun changeover) cs e))
        (history changeover (cs ++ made_by))

    -- and each frame written has the least energy
    pub queue-least : {q : Queued} {g : List ℤ} → q ≡ queue_outcome k b bytes (length f) a → g ≡ queue_frames k b bytes f a → EachLeast k b q.sent g
    queue-least {q} {g} e d = rw (e, d) (each-least queue-in-turn)

-- the changeover stays
pub queue-changeover : (k b : ℕ) (bytes : List ℕ) (f : List ℤ) (a : Account) → (queue_outcome k b bytes (length f) a).account.changeover ≡ a.changeover
queue-changeover k b bytes f a = go (ℕ_discrete (queue_refusal k b (length bytes) (length f)) 0)
  where
    go : Dec (queue_refusal k b (length bytes) (length f) ≡ 0) → (queue_outcome k b bytes (length f) a).account.changeover ≡ a.changeover
    go (yes z) =
        ap (λ (x : Account). x.changeover) (queue-in-turn k b bytes f a z).refused
        ∙ changeover-kept a (calls_made (messages_in k b bytes) k b bytes (queue_outcome k b bytes (length f) a))
    go (no e) = ap (λ (q : Queued). q.account.changeover) (refused-queue k b bytes f a e).0

-- an empty queue sends none, whatever the account
pub empty-queue : (k b : ℕ) (a : Account) → is_kind k ≡ true → is_grade b ≡ true
    → (queue_outcome k b [] 0 a ≡ record { number = 0; sent = 0; account = a }) × (queue_frames k b [] [] a ≡ [])
unfolding in_turn frames_in_turn calls_for
empty-queue k b a kind grade =
    let B = message_bytes k b in
    let z = sym (all_fit k b 0 0 (kind, grade) (zero-mod B) (zero-mod (2 ^ k)) (zero-div (2 ^ k) ∙ sym (zero-div B))) in
    let s = sent-queue k b [] [] a z in
    (s.0 ∙ ap (λ (m : ℕ). in_turn a (calls_for m k b [])) (zero-div B), s.1 ∙ ap (λ (m : ℕ). frames_in_turn a (calls_for m k b []) []) (zero-div B))
