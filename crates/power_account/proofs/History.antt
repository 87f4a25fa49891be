-- An account grown from the beginning by calls of sending, refused ones among them, holds the number of accepted sends, exactly the sum
-- of their powers, and their largest block, whatever its changeover. The number of each frame in the history of any account, and that the changeover
-- moves none of its figures. Assumes nothing.
use Prim.Native.Nat.{ℕ, zero, suc, ◌+◌, ◌^◌, ◌≤◌, ◌<◌}
use mathlib.Core.Path.{◌≡◌, refl, sym, ap, ap₂, ◌∙◌, subst}
use mathlib.Core.Bool.{Bool, true, false}
use mathlib.Core.List.{List, [], ◌∷◌, ◌++◌}
use native.Mathlib.Nat.{add-zero}
use native.Mathlib.Omega.{arith}
use lib.Dec.{eqb}
use lib.IntN.{ℤ}
use lib.ListN.{length, get_or}
use borrow.Author.Tests.{eq-eqb, ne_eqb, eqb-true, leb-false}
use Rattle.frames.specs.Sending.{send_refusal}
use Rattle.frames.proofs.Limits.{kind-high, some_block}
use Rattle.frames.proofs.Rows.{grade-low}
use Rattle.frames.proofs.Accepted.{Passed, all-passed}
use Rattle.power_account.specs.declared.Account.{Account}
use Rattle.power_account.specs.Power.{begun, grown}
use Rattle.power_account.specs.Counted.{number_at, number_for, counted_account}
use Rattle.power_account.specs.History.{Call, answer, after, account_after, sent_by, accepted, frame_under, no_call, EachNumbered, Holds}
use Rattle.power_account.proofs.Answers.{passed, room}
use Rattle.power_account.proofs.Grown.{grown_by, Countable, AllCountable, grown-exactly}
use Rattle.power_account.proofs.Largest.{grown-largest}
use Rattle.free_bits.proofs.Fillings.{quiet-frame-long}
use Rattle.free_bits.proofs.ReadBack.{quiet-energy-small}

-- the frame of a call with an account
abbrev pub frame-of : Account → Call → List ℤ
frame-of a c = frame_under (number_for a) c

-- the number of the next frame is that of frame 0 of those to come
pub first-number : (a : Account) → number_for a ≡ number_at a.changeover (a.count + 0)
first-number a = ap (number_at a.changeover) (sym (add-zero a.count))

module _ (a : Account) (c : Call) where
  -- an accepted call passed sending's tests, and the account had room
  pub sends : answer a c ≡ 0 → send_refusal c.kind c.grade c.free c.message c.n ≡ 0
  sends e = passed c.kind c.grade c.free c.message c.n a e

  pub tests : answer a c ≡ 0 → Passed c.kind c.grade c.free c.message c.n
  tests e = all-passed c.kind c.grade c.free c.message c.n (sends e)

  -- its frame has as many coordinates as the kind
  pub frame-length : answer a c ≡ 0 → (number : ℕ) → length (frame_under number c) ≡ 2 ^ c.kind
  frame-length e number =
      let p = tests e in
      quiet-frame-long c.kind c.grade c.free number p.kind (grade-low c.grade p.grade) c.message

  counts : answer a c ≡ 0 → Countable 6 (frame-of a c)
  counts e =
      let p = tests e in
      let s = quiet-energy-small c.kind c.grade c.free p.kind p.grade p.few (number_for a) c.message in
      let n = frame-length e (number_for a) in
      record {
        blocks = rw n (some_block c.kind p.kind);
        exponent = c.kind;
        short = kind-high c.kind p.kind;
        is = n;
        small = omega (arith, s);
      }

  has_room : answer a c ≡ 0 → a.count < 1000000
  has_room e = leb-false 1000000 a.count (room c.kind c.grade c.free c.message c.n a e)

  pub after-sent : eqb (answer a c) 0 ≡ true → after a c ≡ grown a (frame-of a c)
  unfolding counted_account
  after-sent q = simp q

  pub after-refused : eqb (answer a c) 0 ≡ false → after a c ≡ a
  unfolding counted_account
  after-refused q = simp q

  pub by-sent : eqb (answer a c) 0 ≡ true → (cs : List Call) → sent_by a (c ∷ cs) ≡ frame-of a c ∷ sent_by (after a c) cs
  unfolding sent_by
  by-sent q cs = simp q

  pub by-refused : eqb (answer a c) 0 ≡ false → (cs : List Call) → sent_by a (c ∷ cs) ≡ sent_by (after a c) cs
  unfolding sent_by
  by-refused q cs = simp q

  -- likewise the calls that are accepted
  of-accepted : eqb (answer a c) 0 ≡ true → (cs : List Call) → accepted a (c ∷ cs) ≡ c ∷ accepted (after a c) cs
  unfolding accepted
  of-accepted q cs = simp q

  of-refused : eqb (answer a c) 0 ≡ false → (cs : List Call) → accepted a (c ∷ cs) ≡ accepted (after a c) cs
  unfolding accepted
  of-refused q cs = simp q

  -- the count is one more where it is accepted, and the changeover stays
  sent-count : eqb (answer a c) 0 ≡ true → (after a c).count ≡ a.count + 1
  sent-count q = ap (λ (x : Account). x.count) (after-sent q)

  pub after-changeover : (after a c).changeover ≡ a.changeover
  after-changeover = go (eqb (answer a c) 0) refl
    where
      go : (v : Bool) → eqb (answer a c) 0 ≡ v → (after a c).changeover ≡ a.changeover
      go true q = ap (λ (x : Account). x.changeover) (after-sent q)
      go false q = ap (λ (x : Account). x.changeover) (after-refused q)

  -- so that frame i of those behind it has the number of frame i + 1
  pub next-numbers : answer a c ≡ 0 → (i : ℕ) → number_at (after a c).changeover ((after a c).count + i) ≡ number_at a.changeover (a.count + suc i)
  next-numbers e i =
      let n : (after a c).count + i ≡ a.count + suc i = omega (arith, sent-count (eq-eqb _ _ e)) in
      ap₂ number_at after-changeover n

-- calls after other calls
pub calls-after : (a : Account) (cs ds : List Call) → account_after a (cs ++ ds) ≡ account_after (account_after a cs) ds
unfolding account_after
calls-after a [] ds = refl
calls-after a (c ∷ cs) ds = calls-after (after a c) cs ds

-- the account is grown by the frames sent and by nothing else; at most 1,000,000 are
record Grown (a : Account) (cs : List Call) : Type 0 where
  is : account_after a cs ≡ grown_by a (sent_by a cs)
  counted : AllCountable 6 (sent_by a cs)
  most : a.count ≤ 1000000 → a.count + length (sent_by a cs) ≤ 1000000

grows : (a : Account) (cs : List Call) → Grown a cs
unfolding account_after sent_by grown_by
grows a [] = record { is = refl; counted = tt; most = λ h. omega arith }
grows a (c ∷ cs) = go (eqb (answer a c) 0) refl (grows (after a c) cs)
  where
    go : (v : Bool) → eqb (answer a c) 0 ≡ v → Grown (after a c) cs → Grown a (c ∷ cs)
    go true q g =
        let n : (after a c).count ≡ a.count + 1 = ap (λ (x : Account). x.count) (after-sent a c q) in
        let r : a.count < 1000000 = has_room a c (eqb-true _ _ q) in
        record {
          is = g.is ∙ ap (λ (x : Account). grown_by x (sent_by (after a c) cs)) (after-sent a c q) ∙ ap (grown_by a) (sym (by-sent a c q cs));
          counted = rw (by-sent a c q cs) (counts a c (eqb-true _ _ q), g.counted);
          most = λ h. rw (by-sent a c q cs) (omega (arith, n, r, g.most (omega (arith, n, r))));
        }
    go false q g =
        let n : (after a c).count ≡ a.count = ap (λ (x : Account). x.count) (after-refused a c q) in
        record {
          is = g.is ∙ ap (λ (x : Account). grown_by x (sent_by (after a c) cs)) (after-refused a c q) ∙ ap (grown_by a) (sym (by-refused a c q cs));
          counted = rw (by-refused a c q cs) g.counted;
          most = λ h. rw (by-refused a c q cs) (omega (arith, n, g.most (omega (arith, n))));
        }

-- THE HISTORY of an account of any changeover: for any calls from the beginning on
pub history : (changeover : ℕ) (cs : List Call) → Holds (account_after (begun changeover) cs) (sent_by (begun changeover) cs)
history changeover cs =
    let a = begun changeover in
    let g = grows a cs in
    let l : length (sent_by a cs) ≤ 1000000 = omega (arith, g.most (omega arith)) in
    let r = grown-exactly 6 changeover (sent_by a cs) (omega arith) l g.counted in
    rw g.is (record { few = l; count = r.0; sum = r.1; largest = grown-largest 6 changeover (sent_by a cs) g.counted })

-- a refused call changes none of the three figures, wherever the account is from, and is not in the history
pub refused-call : (a : Account) (c : Call) → (answer a c ≡ 0 → ⊥) → (after a c ≡ a) × ((cs : List Call) → sent_by a (c ∷ cs) ≡ sent_by a cs)
refused-call a c h =
    let q = ne_eqb (answer a c) 0 h in
    (after-refused a c q, λ cs. by-refused a c q cs ∙ ap (λ (x : Account). sent_by x cs) (after-refused a c q))

-- ---- the number of each frame

module _ (a : Account) (c : Call) (cs : List Call) (g : EachNumbered (after a c) cs) where
  -- an accepted call's frame is the first, and those behind it have the next numbers
  number-sent : eqb (answer a c) 0 ≡ true → EachNumbered a (c ∷ cs)
  number-sent q = record {
    as_many = rw (by-sent a c q cs, of-accepted a c q cs) (ap suc g.as_many);
    each = rw (by-sent a c q cs, of-accepted a c q cs) each;
  }
    where
      each : (i : ℕ) → i < length (frame-of a c ∷ sent_by (after a c) cs) → get_or (frame-of a c ∷ sent_by (after a c) cs) i []
          ≡ frame_under (number_at a.changeover (a.count + i)) (get_or (c ∷ accepted (after a c) cs) i no_call)
      each zero h = ap (λ (number : ℕ). frame_under number c) (first-number a)
      each (suc i) h =
          g.each i (omega arith)
          ∙ ap (λ (number : ℕ). frame_under number (get_or (accepted (after a c) cs) i no_call)) (next-numbers a c (eqb-true _ _ q) i)

  -- a refused one moves nothing
  number-refused : eqb (answer a c) 0 ≡ false → EachNumbered a (c ∷ cs)
  number-refused q =
      let e = after-refused a c q in
      let r = subst (λ (x : Account). EachNumbered x cs) e g in record {
        as_many = rw (by-refused a c q cs, of-refused a c q cs, e) r.as_many;
        each = rw (by-refused a c q cs, of-refused a c q cs, e) r.each;
      }

-- THE RULE OF EACH FRAME in the history of any account
pub history-numbered : (a : Account) (cs : List Call) → EachNumbered a cs
unfolding sent_by accepted
history-numbered a [] = record { as_many = refl; each = λ i h. absurd (omega arith) }
history-numbered a (c ∷ cs) = go (eqb (answer a c) 0) refl (history-numbered (after a c) cs)
  where
    go : (v : Bool) → eqb (answer a c) 0 ≡ v → EachNumbered (after a c) cs → EachNumbered a (c ∷ cs)
    go true q g = number-sent a c cs g q
    go false q g = number-refused a c cs g q
